-- `unfolds::part_by` meets its contract.
use Rattle.unfolds.proofs.Calls.{part_by}
use Rattle.unfolds.proofs.part_by.Goals as goal

pub returns : goal.returns
returns c = part_by c.check.ensures
