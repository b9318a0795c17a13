-- `lines::line` meets its contract.
use Rattle.lines.proofs.Claims.{line_at}
use Rattle.lines.proofs.line.Goals as goal

pub returns : goal.returns
returns c = line_at c.field-tag.ensures c.skip-right.ensures c.pass_right-rest.ensures c.note_line.ensures c.behind_claim.ensures
