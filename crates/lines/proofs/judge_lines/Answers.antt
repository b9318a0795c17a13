-- `lines::judge_lines` meets its contract.
use Rattle.lines.proofs.Certifying.{judges_lines}
use Rattle.lines.proofs.judge_lines.Goals as goal

pub returns : goal.returns
returns c = judges_lines c.prepare.ensures c.field-count.ensures c.lines.ensures
