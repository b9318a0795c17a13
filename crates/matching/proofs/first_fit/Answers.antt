-- `matching::first_fit` meets its contract.
use native.Mathlib.Omega.{arith}
use Rattle.matching.proofs.Searching.{trying_start, trying_spans, trying_over, trying_hit, trying_on}
use Rattle.matching.proofs.first_fit.Goals as goal

pub loop-index-init : goal.loop-index-init
loop-index-init c = trying_start _ _ _ _ _ _ _

pub fits_at-requires : goal.fits_at-requires
fits_at-requires c = trying_spans _ _ _ _ _ _ _ c.requires.0 c.loop-index.invariant

pub returns-then-fits_at : goal.returns-then-fits_at
returns-then-fits_at c = rw c.from.ensures (trying_hit _ _ _ _ _ _ _ c.requires.0 c.loop-index.invariant (omega arith) c.fits_at.ensures c.if-fits_at.true)

pub loop-index-preserved : goal.loop-index-preserved
loop-index-preserved c = trying_on _ _ _ _ _ _ _ c.requires.0 c.loop-index.invariant (omega arith) c.fits_at.ensures c.if-fits_at.false

pub returns : goal.returns
returns c = trying_over _ _ _ _ _ _ _ c.requires.0 c.loop-index.invariant (omega arith)
