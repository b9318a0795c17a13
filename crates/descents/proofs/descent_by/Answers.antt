-- `descents::descent_by` meets its contract: parts 0 to 4, one behind the other.
use mathlib.Core.Path.{refl}
use Rattle.comparing.proofs.Finding.{handed_on}
use Rattle.descents.proofs.Descents.{base_fault, base_on, head_fault, head_on, call_fault, call_on, level_fault, level_good, by_fault, by_on}
use Rattle.descents.proofs.descent_by.Goals as goal

pub returns-in_err-check : goal.returns-in_err-check
returns-in_err-check c =
    rw (handed_on c.from_residual.result c.from_residual.ensures.1)
    (by_fault c.field-head.ensures (call_fault (head_fault (base_fault (rw c.own_left.ensures at c.check.ensures) c.in_err-check.was) refl) refl) refl)

pub returns-in_err-check-2 : goal.returns-in_err-check-2
returns-in_err-check-2 c =
    let base = base_on (rw c.own_left.ensures at c.check.ensures) c.in_ok-check.was c.claimed_right-base_right.ensures c.claimed_right-own_right.ensures c.check-2.ensures in
    rw (handed_on c.from_residual-in_err-check-2.result c.from_residual-in_err-check-2.ensures.1)
    (by_fault c.field-head.ensures (call_fault (head_fault base c.in_err-check-2.was) refl) refl)

pub returns-in_err-call : goal.returns-in_err-call
returns-in_err-call c =
    let base = base_on (rw c.own_left.ensures at c.check.ensures) c.in_ok-check.was c.claimed_right-base_right.ensures c.claimed_right-own_right.ensures c.check-2.ensures in
    let head = head_on base c.in_ok-check-2.was (rw c.own_left-2.ensures at c.check-3.ensures) in
    rw (handed_on c.from_residual-in_err-call.result c.from_residual-in_err-call.ensures.1)
    (by_fault c.field-head.ensures (call_fault head c.in_err-call.was) refl)

pub returns-in_err-check-3 : goal.returns-in_err-check-3
returns-in_err-check-3 c =
    let base = base_on (rw c.own_left.ensures at c.check.ensures) c.in_ok-check.was c.claimed_right-base_right.ensures c.claimed_right-own_right.ensures c.check-2.ensures in
    let head = head_on base c.in_ok-check-2.was (rw c.own_left-2.ensures at c.check-3.ensures) in
    let call = call_on head c.in_ok-call.was (rw c.own_left-3.ensures at c.check-4.ensures) in
    rw (handed_on c.from_residual-in_err-check-3.result c.from_residual-in_err-check-3.ensures.1)
    (by_fault c.field-head.ensures call c.in_err-check-3.was)

pub returns-in_err-check-4 : goal.returns-in_err-check-4
returns-in_err-check-4 c =
    let base = base_on (rw c.own_left.ensures at c.check.ensures) c.in_ok-check.was c.claimed_right-base_right.ensures c.claimed_right-own_right.ensures c.check-2.ensures in
    let head = head_on base c.in_ok-check-2.was (rw c.own_left-2.ensures at c.check-3.ensures) in
    let call = call_on head c.in_ok-call.was (rw c.own_left-3.ensures at c.check-4.ensures) in
    rw (handed_on c.from_residual-in_err-check-4.result c.from_residual-in_err-check-4.ensures.1)
    (by_on c.field-head.ensures call c.in_ok-check-3.was (level_fault c.check-5.ensures c.in_err-check-4.was))

pub returns : goal.returns
returns c =
    let base = base_on (rw c.own_left.ensures at c.check.ensures) c.in_ok-check.was c.claimed_right-base_right.ensures c.claimed_right-own_right.ensures c.check-2.ensures in
    let head = head_on base c.in_ok-check-2.was (rw c.own_left-2.ensures at c.check-3.ensures) in
    let call = call_on head c.in_ok-call.was (rw c.own_left-3.ensures at c.check-4.ensures) in
    by_on c.field-head.ensures call c.in_ok-check-3.was (level_good c.check-5.ensures c.in_ok-check-4.was)
