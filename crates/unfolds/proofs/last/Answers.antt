-- `unfolds::last` meets its contract.
use Rattle.unfolds.proofs.Calls.{ends_here, ends_there}
use Rattle.unfolds.proofs.last.Goals as goal

pub returns-then-any-eq0 : goal.returns-then-any-eq0
returns-then-any-eq0 c = ends_here c.field-any.ensures c.if-any-eq0.true c.stop_by.ensures

pub returns-else-any-eq0 : goal.returns-else-any-eq0
returns-else-any-eq0 c = ends_there c.field-any.ensures c.if-any-eq0.false c.last_used.ensures
