-- `lines::prepare` meets its contract.
use Rattle.lines.proofs.Certifying.{prepares}
use Rattle.lines.proofs.prepare.Goals as goal

pub returns : goal.returns
returns c = prepares c.forget.ensures c.index_rules.ensures
