-- `comparing::claimed_right` meets its contract.
use Rattle.comparing.proofs.Meanings.{right_empty, right_there}
use Rattle.comparing.proofs.claimed_right.Goals as goal

pub returns-then-any-eq0 : goal.returns-then-any-eq0
returns-then-any-eq0 c = right_empty c.field-any.ensures _ _ _ c.if-any-eq0.true

pub returns-else-any-eq0 : goal.returns-else-any-eq0
returns-else-any-eq0 c = right_there c.field-any.ensures _ _ _ c.if-any-eq0.false
