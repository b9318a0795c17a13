-- `table::second::is_same` meets its contract: word by word.
use Rattle.table.proofs.Repeats.{third_again}
use Rattle.table.proofs.second.is_same.Goals as goal

pub returns-then-w-p-2 : goal.returns-then-w-p-2
returns-then-w-p-2 c = third_again _ _ _ c.if-w-p.false c.if-w-p-2.true
