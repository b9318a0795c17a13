-- `answers::whole` meets its contract.
use Rattle.answers.proofs.Carrying.{carried_nothing}
use mathlib.Core.Path.{◌∙◌}
use Rattle.answers.proofs.whole.Goals as goal

pub returns : goal.returns
returns c = c.carried.ensures ∙ carried_nothing _ _
