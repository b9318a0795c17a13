-- `lines::lines` meets its contract. The loop's invariant: what is judged of the lines left is judged of the whole.
use Rattle.std.proofs.Common.{◌≡◌, rules, arith}
use Rattle.answers.specs.Numbers.{w_of, paper_refusal}
use Rattle.answers.specs.Carried.{carried}
use Rattle.answers.proofs.Refusing.{refused_verdict}
use Rattle.patterns.specs.Reason.{line_place}
use Rattle.comparing.proofs.Finding.{handed_on}
use Rattle.lines.proofs.Going.{goes_here, goes_end, goes_fault, goes_on}
use Rattle.lines.proofs.Mapping.{mapped_fault, mapped_good}
use Rattle.lines.proofs.lines.Goals as goal

pub loop-number-init : goal.loop-number-init
loop-number-init c = goes_here (omega arith)

pub returns-in_err-next : goal.returns-in_err-next
unfolding w_of
returns-in_err-next c =
    let m = mapped_fault _ c.line-found.result _ _ c.map_err.ensures.cases c.in_err-next.was in
    let carries : paper_refusal c.in_err-next.field-0.0 ≡ carried m.0.number line_place c.loop-number.number-counter m.0.part = search rules in
    rw (handed_on c.from_residual.result c.from_residual.ensures.1)
    (goes_fault c.loop-number.invariant (omega arith) (omega arith) c.line-found.ensures m.1 (refused_verdict _ carries))

pub loop-number-preserved : goal.loop-number-preserved
loop-number-preserved c =
    goes_on c.loop-number.invariant (omega arith) (omega arith) c.line-found.ensures
    (mapped_good _ c.line-found.result _ _ c.map_err.ensures.cases c.in_ok-next.was) (omega arith)

pub returns : goal.returns
returns c = goes_end c.loop-number.invariant (omega arith) c.closing.ensures
