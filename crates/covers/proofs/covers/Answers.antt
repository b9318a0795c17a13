-- `covers::covers` meets its contract: refusal 1, or the answer for all three files with the table cleared.
use Rattle.std.proofs.Common.{rules}
use mathlib.Core.Path.{◌∙◌}
use Rattle.answers.specs.Carried.{refusal_at}
use Rattle.answers.specs.Numbers.{denied, paper_coverage}
use Rattle.answers.proofs.Refusing.{refused_coverage}
use Rattle.patterns.specs.Reason.{neither_place}
use Rattle.verdicts.specs.Judging.{judging_files}
use Rattle.judging.proofs.Inputs.{lent_told}
use Rattle.covers.specs.Asking.{asking_judged}
use Rattle.covers.proofs.Stages.{table_asked}
use Rattle.covers.proofs.covers.Goals as goal

pub returns : goal.returns
returns c =
    let files = judging_files c.args.book.now c.args.certificate.now in
    let t = lent_told paper_coverage (denied (refusal_at 1 neither_place 0)) (asking_judged c.args.book.now c.args.certificate.now c.args.call.now files) (λ f e. refused_coverage f e) c.with_table.ensures (λ left w m. search rules) in
    record { book_bytes = λ i. (c.type_inv.book i).fits; certificate_bytes = λ i. (c.type_inv.certificate i).fits; call_bytes = λ i. (c.type_inv.call i).fits; answered = t.0 ∙ table_asked _ _ _ _; cleared = t.1 }
