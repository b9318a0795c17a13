-- `instances::skip` meets its contract. The loop's invariant: the walk is under way.
use Rattle.instances.proofs.Goings.{Going}
use Rattle.instances.proofs.skip.Given as goal

abbrev pub invariant-loop : goal.invariant-loop
invariant-loop l = Going (λ met. Unit {0}) l.book l.s l.at l.walk
