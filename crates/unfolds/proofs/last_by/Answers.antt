-- `unfolds::last_by` meets its contract.
use Rattle.comparing.proofs.Finding.{handed_on}
use Rattle.unfolds.proofs.Calls.{ends_early, ends_by}
use Rattle.unfolds.proofs.last_by.Goals as goal

pub returns-in_err-part_by : goal.returns-in_err-part_by
returns-in_err-part_by c = rw (handed_on c.from_residual.result c.from_residual.ensures.1) (ends_early c.behind_stop-behind.ensures c.part_by.ensures c.in_err-part_by.was)

pub returns : goal.returns
returns c = ends_by c.behind_stop-behind.ensures c.part_by.ensures c.in_ok-part_by.was c.claimed_right-theirs.ensures c.stop_by.ensures
