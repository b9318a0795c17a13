-- `unfolds::stop` meets its contract.
use Rattle.unfolds.proofs.Unfoldings.{stops_fact, stops_call}
use Rattle.unfolds.proofs.stop.Goals as goal

pub returns-then-i-eq0 : goal.returns-then-i-eq0
returns-then-i-eq0 c = stops_fact c.if-i-eq0.true c.stop_by.ensures

pub returns-else-i-eq0 : goal.returns-else-i-eq0
returns-else-i-eq0 c = stops_call c.if-i-eq0.false c.parts.ensures
