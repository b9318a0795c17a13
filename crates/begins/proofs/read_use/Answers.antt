-- `begins::read_use` meets its contract.
use Rattle.begins.proofs.Using.{reads_use}
use Rattle.begins.proofs.read_use.Goals as goal

pub returns : goal.returns
returns c = reads_use c.field-line.ensures c.field-i.ensures c.field-j.ensures c.noted-left.ensures c.noted-right.ensures c.list_filling-end.ensures
