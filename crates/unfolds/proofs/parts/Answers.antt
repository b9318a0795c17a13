-- `unfolds::parts` meets its contract. The loop's invariant: what is found of the parts left is found of all.
use native.Mathlib.Omega.{arith}
use Rattle.comparing.proofs.Finding.{handed_on}
use Rattle.unfolds.proofs.Unfoldings.{goes_here, goes_end, goes_fault, goes_on}
use Rattle.unfolds.proofs.parts.Goals as goal

pub loop-part-init : goal.loop-part-init
loop-part-init c = goes_here (omega arith)

pub returns-in_err-call : goal.returns-in_err-call
returns-in_err-call c =
    rw (handed_on c.from_residual.result c.from_residual.ensures.1)
    (goes_fault c.loop-part.invariant (λ z. omega arith) c.read_use-used.ensures c.part_by.ensures c.in_err-call.was)

pub loop-part-preserved : goal.loop-part-preserved
loop-part-preserved c = goes_on c.loop-part.invariant (λ z. omega arith) c.read_use-used.ensures c.part_by.ensures c.in_ok-call.was (omega arith)

pub returns : goal.returns
returns c = goes_end c.loop-part.invariant (omega arith) (omega arith) c.last.ensures
