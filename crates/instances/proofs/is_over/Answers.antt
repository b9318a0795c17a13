-- `instances::is_over` meets its contract.
use Rattle.instances.proofs.Goings.{over_spent, over_pending}
use Rattle.instances.proofs.is_over.Goals as goal

pub returns-then-left-eq0 : goal.returns-then-left-eq0
returns-then-left-eq0 c = over_spent _ _ c.if-left-eq0.true

pub returns-else-left-eq0 : goal.returns-else-left-eq0
returns-else-left-eq0 c = over_pending _ _ c.if-left-eq0.false
