-- `calls::pass` meets its contract.
use Rattle.calls.specs.Standing.{end_of}
use native.Mathlib.Omega.{arith}
use Rattle.calls.proofs.Passing.{passes_start, passes_out, passes_on}
use Rattle.calls.proofs.pass.Goals as goal

pub loop-init : goal.loop-init
loop-init c = passes_start c.requires.1

pub returns-then-at-k : goal.returns-then-at-k
returns-then-at-k c = passes_out c.loop.invariant c.if-at-k.true (omega arith)

pub loop-preserved : goal.loop-preserved
unfolding end_of
loop-preserved c = passes_on c.loop.invariant c.requires.0 c.if-at-k.false
