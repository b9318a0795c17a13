-- `calls::pass` meets its contract.
use Rattle.calls.specs.Moving.{Passes}
use Rattle.calls.proofs.pass.Given as goal

abbrev pub invariant-loop : goal.invariant-loop
invariant-loop l = Passes l.w l.k l.j l.counter l.at
