-- `calls::same_nodes` meets its contract.
use Rattle.calls.proofs.Sameness.{Comparing}
use Rattle.calls.proofs.same_nodes.Given as goal

abbrev pub invariant-loop : goal.invariant-loop
invariant-loop l = Comparing l.w l.initial.a l.initial.b l.n l.a l.b l.counter
