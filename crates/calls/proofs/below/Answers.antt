-- `calls::below` meets its contract.
use native.Mathlib.Omega.{arith}
use Rattle.calls.proofs.Moving.{below_none, below_gone, below_other, below_short, below_whole, below_part}
use Rattle.calls.proofs.below.Goals as goal

pub returns-then-n-eq0 : goal.returns-then-n-eq0
returns-then-n-eq0 c = below_none _ _ _ _ _ c.if-n-eq0.true c.requires.1

pub returns-then-p-k : goal.returns-then-p-k
returns-then-p-k c = below_gone _ _ _ _ _ c.if-n-eq0.false c.if-p-k.true

pub returns-then-w-at : goal.returns-then-w-at
returns-then-w-at c = below_other _ _ _ c.requires.0 c.requires.1 c.if-p-k.false _ _ c.if-n-eq0.false (omega arith)

pub returns-then-n-left : goal.returns-then-n-left
returns-then-n-left c = below_short _ _ _ c.requires.0 c.requires.1 c.if-p-k.false _ (omega arith) _ _ c.if-n-eq0.false c.saturating_sub-left.ensures c.if-n-left.true

pub returns-then-n-left-2 : goal.returns-then-n-left-2
returns-then-n-left-2 c = rw c.at.ensures (below_whole _ _ _ c.requires.0 c.requires.1 c.if-p-k.false _ (omega arith) _ _ c.if-n-eq0.false c.saturating_sub-left.ensures c.if-n-left-2.true)

pub returns : goal.returns
returns c = below_part _ _ _ c.requires.0 c.requires.1 c.if-p-k.false _ (omega arith) _ _ c.if-n-eq0.false c.saturating_sub-left.ensures (omega (arith, c.if-n-left.false, c.if-n-left-2.false))
