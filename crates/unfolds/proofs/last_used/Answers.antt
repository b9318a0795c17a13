-- `unfolds::last_used` meets its contract.
use Rattle.unfolds.proofs.Calls.{ends_used}
use Rattle.unfolds.proofs.last_used.Goals as goal

pub returns : goal.returns
returns c = ends_used c.read_use-used.ensures c.last_by.ensures
