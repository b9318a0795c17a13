-- `terms::signature::number` meets its contract.
use mathlib.Core.Path.{◌∙◌}
use Rattle.terms.proofs.Arities.{listed_number}
use Rattle.terms.proofs.signature.number.Goals as goal

pub returns : goal.returns
returns c = λ bit h. c.unwrap_or.ensures ∙ listed_number _ _ _ _ c.requires.0 c.requires.1 c.listed_at.ensures bit h
