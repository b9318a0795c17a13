-- `descents::descent_on` meets its contract.
use Rattle.descents.proofs.Descents.{descent_on}
use Rattle.descents.proofs.descent_on.Goals as goal

pub returns : goal.returns
returns c = descent_on c.field-rule.ensures c.noted-begin.ensures c.list_filling-end.ensures c.descent_by.ensures
