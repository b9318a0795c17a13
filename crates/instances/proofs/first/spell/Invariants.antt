-- `instances::first::spell` meets its contract. The loop's invariant: the nodes met so far were pushed.
use Rattle.instances.specs.Filled.{itself}
use Rattle.instances.proofs.Pushings.{Pushing}
use Rattle.instances.proofs.first.spell.Given as goal

abbrev pub invariant-loop-header : goal.invariant-loop-header
invariant-loop-header l = Pushing itself l.book l.s l.at l.base l.count l.initial.w l.w l.n l.header-iterator
