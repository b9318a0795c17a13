-- `instances::second::hold_term` meets its contract. The loop's invariant: the nodes met so far have come, and each settled two at most.
use Prim.Native.Nat.{◌+◌, ◌*◌, ◌≤◌}
use Rattle.table.specs.Places.{NODES}
use Rattle.instances.specs.Filled.{itself}
use Rattle.instances.proofs.Comings.{Coming}
use Rattle.instances.proofs.second.hold_term.Given as goal

abbrev pub invariant-loop-header : goal.invariant-loop-header
invariant-loop-header l = Coming itself l.book l.s l.at l.w l.base l.initial.h l.h l.header-iterator × (l.h.nodes + 2 * l.header-iterator.left ≤ NODES + 512)
