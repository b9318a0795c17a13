-- `unfolds::stop_by` meets its contract.
use Rattle.comparing.proofs.Finding.{handed_on}
use Rattle.unfolds.proofs.Calls.{stops_fault, stops_good}
use Rattle.unfolds.proofs.stop_by.Goals as goal

pub returns-in_err-check : goal.returns-in_err-check
returns-in_err-check c = rw (handed_on c.from_residual.result c.from_residual.ensures.1) (stops_fault c.claimed_right-own.ensures c.check.ensures c.in_err-check.was)

pub returns : goal.returns
returns c = stops_good c.claimed_right-own.ensures c.check.ensures c.in_ok-check.was
