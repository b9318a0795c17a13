-- `instances::first::remembered` meets its contract: the term before it, unless the side is closed on either end.
use Rattle.instances.proofs.Repeats.{notes_last, notes_new}
use Rattle.instances.proofs.first.remembered.Goals as goal

pub returns-then-is_closed : goal.returns-then-is_closed
returns-then-is_closed c = notes_new c.if-closed.true c.is_closed.ensures c.if-is_closed.true

pub returns : goal.returns
returns c = notes_last
