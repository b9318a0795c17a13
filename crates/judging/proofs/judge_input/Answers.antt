-- `judging::judge_input` meets its contract: refusal 1, or the verdict on the input with the table cleared.
use Rattle.std.proofs.Common.{rules}
use Rattle.answers.specs.Numbers.{paper_verdict}
use Rattle.answers.proofs.Refusing.{refused_verdict}
use Rattle.verdicts.specs.Judging.{refusal_one}
use Rattle.verdicts.specs.Program.{judging_framed, judging_input}
use Rattle.judging.proofs.Inputs.{lent_told}
use Rattle.judging.proofs.judge_input.Goals as goal

pub returns : goal.returns
unfolding judging_input
returns c =
    let t = lent_told paper_verdict refusal_one (judging_framed c.args.input.now) (λ f e. refused_verdict f e) c.with_table.ensures (λ left w m. search rules) in
    record { bytes = λ i. (c.type_inv.input i).fits; answered = t.0; cleared = t.1 }
