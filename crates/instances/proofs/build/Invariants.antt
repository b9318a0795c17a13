-- `instances::build` meets its contract. The loop's invariant: what the nodes met so far give was pushed, and a term is remembered.
use Rattle.instances.specs.Filled.{filled}
use Rattle.instances.specs.Repeats.{Remembers}
use Rattle.instances.proofs.Pushings.{Pushing}
use Rattle.instances.proofs.build.Given as goal

abbrev pub invariant-loop-header : goal.invariant-loop-header
invariant-loop-header l = Pushing (filled l.book l.certificate l.initial.w l.fills l.i l.j) l.book l.s l.at l.base 0 l.initial.w l.w l.grown.nodes l.walk × Remembers l.book l.certificate l.w l.base l.grown.nodes l.grown.last
