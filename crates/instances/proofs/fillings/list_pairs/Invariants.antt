-- `instances::fillings::list_pairs` meets its contract. The loop's invariant: where the pairs that are left are noted from here on, all are.
use Rattle.instances.proofs.Noting.{NotesRest}
use Rattle.instances.proofs.fillings.list_pairs.Given as goal

abbrev pub invariant-loop : goal.invariant-loop
invariant-loop l = NotesRest l.book l.s l.fills l.n l.at l.initial.w l.counter l.pair l.w
