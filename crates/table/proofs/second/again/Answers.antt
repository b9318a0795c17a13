-- `table::second::again` meets its contract. The loop's invariant: k nodes are the same.
use Rattle.table.proofs.Repeats.{part_none, part_more}
use Rattle.table.proofs.second.again.Goals as goal

pub loop-k-init : goal.loop-k-init
loop-k-init c = part_none _ _ _ _

pub loop-k-preserved : goal.loop-k-preserved
loop-k-preserved c = part_more _ _ _ _ _ c.loop-k.invariant (c.is_same.ensures.so c.if-not-is_same.false)
