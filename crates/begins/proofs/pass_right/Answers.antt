-- `begins::pass_right` meets its contract.
use Rattle.begins.proofs.Passing.{passes_no_right, passes_some_right}
use Rattle.begins.proofs.pass_right.Goals as goal

pub returns-then-any-eq0 : goal.returns-then-any-eq0
returns-then-any-eq0 c = passes_no_right _ _ _ _ c.field-any.ensures c.if-any-eq0.true

pub returns-else-any-eq0 : goal.returns-else-any-eq0
returns-else-any-eq0 c = passes_some_right _ _ _ _ _ c.field-any.ensures c.if-any-eq0.false c.skip.ensures
