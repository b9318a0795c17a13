-- `begins::index_rules` meets its contract.
use Rattle.begins.proofs.Noting.{indexes}
use Rattle.begins.proofs.index_rules.Goals as goal

pub returns : goal.returns
returns c = indexes _ _ _ _ _ c.field-symbols.ensures c.field-rules.ensures c.note_rules.ensures
