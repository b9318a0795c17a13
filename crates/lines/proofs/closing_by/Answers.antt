-- `lines::closing_by` meets its contract.
use Rattle.std.proofs.Common.{◌≡◌, refl, rules}
use Rattle.answers.specs.Numbers.{w_of, paper_refusal, paper_verdict, paper_pace}
use Rattle.answers.specs.Carried.{carried}
use Rattle.answers.proofs.Refusing.{refused_verdict}
use Rattle.patterns.specs.Reason.{closing_place}
use Rattle.comparing.proofs.Finding.{handed_on}
use Rattle.lines.proofs.Closings.{closing_fault, closing_good}
use Rattle.lines.proofs.Mapping.{mapped_fault, mapped_good}
use Rattle.lines.proofs.closing_by.Goals as goal

pub returns-in_err-map_err : goal.returns-in_err-map_err
unfolding w_of
returns-in_err-map_err c =
    let m = mapped_fault _ c.closing_parts-found.result _ _ c.map_err.ensures.cases c.in_err-map_err.was in
    let carries : paper_refusal c.in_err-map_err.field-0.0 ≡ carried m.0.number closing_place c.args.line m.0.part = search rules in
    rw (handed_on c.from_residual.result c.from_residual.ensures.1) (closing_fault c.closing_parts-found.ensures m.1 (refused_verdict _ carries))

pub returns : goal.returns
unfolding paper_verdict paper_pace
returns c = closing_good c.closing_parts-found.ensures (mapped_good _ c.closing_parts-found.result _ _ c.map_err.ensures.cases c.in_ok-map_err.was) refl
