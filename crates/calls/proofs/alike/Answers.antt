-- `calls::alike` meets its contract.
use borrow.Author.Tests.{ne_eqb}
use Rattle.calls.proofs.Sameness.{alike_code, alike_plain, alike_power}
use Rattle.calls.proofs.alike.Goals as goal

pub returns-else-w-a : goal.returns-else-w-a
returns-else-w-a c = rw (ne_eqb _ _ c.if-w-a.false) (alike_code _ _ _ c.if-w-a.false)

pub returns-then-w-a-ne2 : goal.returns-then-w-a-ne2
returns-then-w-a-ne2 c = rw (ne_eqb _ _ c.if-w-a-ne2.true) (alike_plain _ _ _ c.if-w-a.true c.if-w-a-ne2.true)

pub returns-else-w-a-ne2 : goal.returns-else-w-a-ne2
returns-else-w-a-ne2 c = alike_power _ _ _ c.if-w-a.true c.if-w-a-ne2.false c.saturating_sub.ensures c.saturating_sub-else-w-a-ne2.ensures
