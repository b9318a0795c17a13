-- `covers::ask_files` meets its contract.
use Rattle.covers.proofs.Stages.{refused_asked, accepted_judged}
use mathlib.Core.Path.{◌≡◌, ◌∙◌}
use Rattle.std.proofs.Common.{Err, rules}
use Rattle.covers.proofs.ask_files.Goals as goal

pub returns-in_err-a : goal.returns-in_err-a
returns-in_err-a c =
    let e : c.from_residual.result ≡ Err c.in_err-a.field-0.0 = search rules in
    record {
      answered = rw e (refused_asked _ _ _ c.judge_files.ensures.answered c.in_err-a.was);
      lent = c.judge_files.ensures.lent;
    }

pub returns : goal.returns
returns c = record {
  answered = accepted_judged _ _ _ c.judge_files.ensures.answered _ c.in_ok-a.was c.ask_accepted.ensures.answered;
  lent = c.ask_accepted.ensures.lent ∙ c.judge_files.ensures.lent;
}
