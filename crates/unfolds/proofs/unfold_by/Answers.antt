-- `unfolds::unfold_by` meets its contract.
use Rattle.comparing.proofs.Finding.{handed_on}
use Rattle.unfolds.proofs.Unfoldings.{unfolds_fault, unfolds_on}
use Rattle.unfolds.proofs.unfold_by.Goals as goal

pub returns-in_err-call : goal.returns-in_err-call
returns-in_err-call c = rw (handed_on c.from_residual.result c.from_residual.ensures.1) (unfolds_fault _ c.noted.ensures c.field-calls.ensures c.check.ensures c.in_err-call.was)

pub returns : goal.returns
returns c = unfolds_on _ c.noted.ensures c.field-calls.ensures c.check.ensures c.in_ok-call.was c.stop.ensures
