-- `begins::note_rules` meets its contract. The loop's invariant: what is noted of the rules left is noted of all.
use Prim.Native.Nat.{◌+◌, ◌-◌}
use Rattle.begins.proofs.Noting.{NotesOn}
use Rattle.begins.proofs.note_rules.Given as goal

abbrev pub invariant-loop-row : goal.invariant-loop-row
invariant-loop-row l = NotesOn l.book l.at l.k l.n l.initial.w l.next l.row (l.k + l.n - l.row) l.w
