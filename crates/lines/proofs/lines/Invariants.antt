-- `lines::lines` meets its contract. The loop's invariant: what is judged of the lines left is judged of the whole.
use Prim.Native.Nat.{◌+◌, ◌-◌}
use Rattle.lines.proofs.Going.{Goes}
use Rattle.lines.proofs.lines.Given as goal

abbrev pub invariant-loop-number : goal.invariant-loop-number
invariant-loop-number l = Goes l.book l.certificate l.at l.k l.n l.initial.w l.next l.number-counter (l.k + l.n - l.number-counter) l.w
