-- `calls::same_nodes` meets its contract.
use native.Mathlib.Omega.{arith}
use Rattle.calls.proofs.Sameness.{comparing_over, comparing_not, comparing_on}
use Rattle.calls.proofs.same_nodes.Goals as goal

pub returns-then-not-alike : goal.returns-then-not-alike
returns-then-not-alike c = comparing_not c.loop.invariant (omega arith) _ c.alike.ensures c.if-not-alike.true

pub loop-preserved : goal.loop-preserved
loop-preserved c = rw (c.at-a.ensures, c.at-b.ensures) (comparing_on c.loop.invariant (omega arith) _ c.alike.ensures c.if-not-alike.false)

pub returns : goal.returns
returns c = comparing_over c.loop.invariant (omega arith)
