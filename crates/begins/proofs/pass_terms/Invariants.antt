-- `begins::pass_terms` meets its contract. The loop's invariant: where the terms left end, all do.
use Prim.Native.Nat.{◌-◌}
use Rattle.begins.proofs.Passing.{PassesOn}
use Rattle.begins.proofs.pass_terms.Given as goal

abbrev pub invariant-loop : goal.invariant-loop
invariant-loop l = PassesOn l.book l.s l.at l.n l.end (l.n - l.counter)
