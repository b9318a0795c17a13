-- `layout::opened` meets its contract.
use Rattle.layout.proofs.FileEnds.{bits_on, bytes_good, bytes_left, bytes_no}
use Rattle.layout.proofs.opened.Goals as goal

pub ends-requires : goal.ends-requires
ends-requires c = (bits_on _ c.in-Ok.is c.requires.0, bits_on _ c.in-Ok.is c.requires.1)

pub returns-then-ends : goal.returns-then-ends
returns-then-ends c = bytes_good _ _ c.in-Ok.is c.ends.ensures c.if-ends.true

pub returns-in-Err : goal.returns-in-Err
returns-in-Err c = bytes_no _ _ _ c.in-Err.is c.carried.ensures

pub returns-else-ends : goal.returns-else-ends
returns-else-ends c = bytes_left _ _ _ c.in-Ok.is c.ends.ensures c.if-ends.false c.carried-in-Ok.ensures
