-- `instances::second::hold_instance` meets its contract. The loop's invariant: what the nodes met so far give has come, that is no more than fits, and a term is remembered.
use Prim.Native.Nat.{◌≤◌}
use Rattle.table.specs.Places.{NODES}
use Rattle.instances.specs.Filled.{filled}
use Rattle.instances.specs.Repeats.{Remembers}
use Rattle.instances.proofs.Comings.{Coming, Begun}
use Rattle.instances.proofs.second.hold_instance.Given as goal

abbrev pub invariant-loop-header : goal.invariant-loop-header
invariant-loop-header l = Coming (filled l.book l.certificate l.w l.fills l.i l.j) l.book l.s l.at l.w l.base l.initial.passed.held l.passed.held l.header-iterator × (l.passed.held.nodes ≤ NODES) × Remembers l.book l.certificate l.w l.base NODES l.passed.last × Begun l.n l.initial.passed.held
