-- `table::second::settle` meets its contract: where no power waits nothing changes; one that waits is the next settled node.
use Rattle.table.proofs.Holding.{rest_power}
use Rattle.table.proofs.second.settle.Goals as goal

pub returns : goal.returns
returns c = rest_power c.in-Some.is c.parts_by_power.ensures
