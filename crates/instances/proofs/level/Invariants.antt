-- `instances::level` meets its contract. The loop's invariant: a = 0 in every node met so far.
use Rattle.instances.proofs.Levels.{Levelling}
use Rattle.instances.proofs.level.Given as goal

abbrev pub invariant-loop-header : goal.invariant-loop-header
invariant-loop-header l = Levelling l.book l.s l.at l.header-iterator
