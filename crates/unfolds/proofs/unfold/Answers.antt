-- `unfolds::unfold` meets its contract.
use Rattle.unfolds.proofs.Unfoldings.{unfold_at}
use Rattle.unfolds.proofs.unfold.Goals as goal

pub returns : goal.returns
returns c = unfold_at c.field-rule.ensures c.field-stop.ensures c.list_filling-uses.ensures c.unfold_by.ensures
