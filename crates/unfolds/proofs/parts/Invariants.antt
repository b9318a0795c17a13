-- `unfolds::parts` meets its contract. The loop's invariant: what is found of the parts left is found of all.
use Prim.Native.Nat.{◌+◌, ◌-◌}
use Rattle.unfolds.proofs.Unfoldings.{Goes}
use Rattle.unfolds.proofs.parts.Given as goal

abbrev pub invariant-loop-part : goal.invariant-loop-part
invariant-loop-part l = Goes l.book l.certificate l.right l.count l.j l.before l.initial.call l.at l.initial.w l.part (l.j + l.before - l.part) l.call l.next l.w
