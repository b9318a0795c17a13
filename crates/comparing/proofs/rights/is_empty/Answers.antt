-- `comparing::rights::is_empty` meets its contract.
use Rattle.comparing.proofs.Looking.{empty_right}
use Rattle.comparing.proofs.rights.is_empty.Goals as goal

pub returns : goal.returns
returns c = empty_right c.field.ensures
