-- `begins::pass_rule` meets its contract.
use Rattle.begins.proofs.Passing.{passes_rule}
use Rattle.begins.proofs.pass_rule.Goals as goal

pub returns : goal.returns
returns c = passes_rule _ _ _ _ c.field-calls.ensures c.pass_terms.ensures
