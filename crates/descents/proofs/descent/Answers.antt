-- `descents::descent` meets its contract.
use Rattle.descents.proofs.Descents.{descent_at}
use Rattle.descents.proofs.descent.Goals as goal

pub returns : goal.returns
returns c = descent_at c.read_use-base.ensures c.descent_on.ensures
