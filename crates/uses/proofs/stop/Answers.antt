-- `uses::stop` meets its contract.
use Rattle.std.proofs.Common.{rules}
use Rattle.fields.proofs.Alongs.{seq_no}
use Rattle.uses.proofs.Cases.{silent_both, stop_none, stop_some}
use Rattle.uses.proofs.stop.Goals as goal

pub returns-then-i-eq0 : goal.returns-then-i-eq0
returns-then-i-eq0 g c = stop_none _ _ _ c.if-i-eq0.true

pub returns-in_err-uses : goal.returns-in_err-uses
returns-in_err-uses g c = stop_some _ _ _ c.if-i-eq0.false (seq_no c.uses.ensures _ c.in_err-uses.was (search rules))

pub returns : goal.returns
returns g c = stop_some _ _ _ c.if-i-eq0.false (silent_both _ c.uses.ensures c.in_ok-uses.was c.last.ensures)
