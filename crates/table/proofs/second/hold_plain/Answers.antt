-- `table::second::hold_plain` meets its contract: what waits is settled, and then the node itself, since nothing merges with it.
use Rattle.table.proofs.Holding.{comes_plain}
use Rattle.table.proofs.second.hold_plain.Goals as goal

pub returns : goal.returns
returns c = comes_plain _ c.settle-k.ensures c.requires.nodes_bound.1 c.parts_by_plain.ensures
