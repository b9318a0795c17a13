-- `layout::opened_list` meets its contract.
use Rattle.layout.proofs.FileEnds.{list_good, list_left, list_no}
use Rattle.layout.proofs.opened_list.Goals as goal

pub returns-then-c-l : goal.returns-then-c-l
returns-then-c-l c = list_good _ _ c.in-Ok.is c.if-c-l.true

pub returns-in-Err : goal.returns-in-Err
returns-in-Err c = list_no _ _ _ c.in-Err.is c.carried.ensures

pub returns-else-c-l : goal.returns-else-c-l
returns-else-c-l c = list_left _ _ _ c.in-Ok.is c.if-c-l.false c.carried-in-Ok.ensures
