-- `comparing::sides::no_side` meets its contract: the empty mark has no nodes.
use Rattle.table.proofs.Marks.{amounts_none, amounts_some}
use Rattle.comparing.proofs.sides.no_side.Goals as goal

pub returns-then-n-eq0 : goal.returns-then-n-eq0
returns-then-n-eq0 c = record { told = λ w. amounts_none w _ _ c.if-n-eq0.true }

pub returns-else-n-eq0 : goal.returns-else-n-eq0
returns-else-n-eq0 c = record { told = λ w. amounts_some w _ _ c.if-n-eq0.false }
