-- `judging::judge` meets its contract: refusal 1, or the verdict on both files with the table cleared.
use Rattle.std.proofs.Common.{rules}
use Rattle.answers.specs.Numbers.{paper_verdict}
use Rattle.answers.proofs.Refusing.{refused_verdict}
use Rattle.verdicts.specs.Judging.{judging, refusal_one, judging_files}
use Rattle.judging.proofs.Inputs.{lent_told}
use Rattle.judging.proofs.judge.Goals as goal

pub returns : goal.returns
unfolding judging
returns c =
    let t = lent_told paper_verdict refusal_one (judging_files c.args.book.now c.args.certificate.now) (λ f e. refused_verdict f e) c.with_table.ensures (λ left w m. search rules) in
    record { book_bytes = λ i. (c.type_inv.book i).fits; bytes = λ i. (c.type_inv.certificate i).fits; answered = t.0; cleared = t.1 }
