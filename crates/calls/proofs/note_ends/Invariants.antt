-- `calls::note_ends` meets its contract.
use Rattle.instances.specs.Lying.{arities}
use Rattle.calls.proofs.Passing.{Noting}
use Rattle.calls.proofs.note_ends.Given as goal

abbrev pub invariant-loop-j : goal.invariant-loop-j
invariant-loop-j l = Noting (arities l.book) l.k l.initial.w l.w l.j
