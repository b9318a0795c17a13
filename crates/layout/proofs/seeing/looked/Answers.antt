-- `layout::seeing::looked` meets its contract.
use Rattle.layout.proofs.Findings.{bits_on, end_good, end_left, end_no}
use Rattle.layout.proofs.seeing.looked.Goals as goal

pub ends-requires : goal.ends-requires
ends-requires c = (bits_on _ c.in-Ok.is c.requires.0, bits_on _ c.in-Ok.is c.requires.1)

pub returns-then-ends : goal.returns-then-ends
returns-then-ends c = end_good _ _ c.in-Ok.is c.ends.ensures c.if-ends.true

pub returns-in-Err : goal.returns-in-Err
returns-in-Err c = end_no _ _ _ c.in-Err.is c.carried.ensures

pub returns-else-ends : goal.returns-else-ends
returns-else-ends c = end_left _ _ _ c.in-Ok.is c.ends.ensures c.if-ends.false c.carried-in-Ok.ensures
