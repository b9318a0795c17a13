-- `lines::closing_parts` meets its contract.
use Rattle.comparing.proofs.Finding.{handed_on}
use Rattle.lines.proofs.Closings.{closing_empty, closing_loop}
use Rattle.lines.proofs.closing_parts.Goals as goal

pub returns-in_err-check : goal.returns-in_err-check
returns-in_err-check c =
    rw (handed_on c.from_residual.result c.from_residual.ensures.1)
    (closing_empty c.check.ensures c.noted-left.ensures c.noted-right.ensures c.in_err-check.was)

pub returns : goal.returns
returns c = closing_loop c.check.ensures _ _ c.in_ok-check.was c.claimed_right-first.ensures c.check-2.ensures c.noted-left.ensures c.noted-right.ensures
