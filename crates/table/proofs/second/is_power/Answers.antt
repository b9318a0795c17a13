-- `table::second::is_power` meets its contract: the node is that power exactly if its three words are.
use Rattle.table.proofs.Parting.{words_told}
use Rattle.table.proofs.second.is_power.Goals as goal

pub returns : goal.returns
returns c = words_told _ _ _ _ _ c.eq.ensures
