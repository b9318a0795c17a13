-- `lines::closing` meets its contract.
use Rattle.lines.proofs.Closings.{closing_at}
use Rattle.lines.proofs.closing.Goals as goal

pub returns : goal.returns
returns c = closing_at c.field-line.ensures c.field-k.ensures c.field-alpha.ensures c.list_filling.ensures c.closing_by.ensures
