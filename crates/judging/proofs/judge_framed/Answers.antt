-- `judging::judge_framed` meets its contract: one of the three ways of the framing at each return.
use Rattle.answers.specs.Numbers.{w_of}
use Rattle.judging.proofs.Inputs.{handed_parts}
use Rattle.verdicts.proofs.Framing.{input_long, input_cut}
use native.Mathlib.Omega.{arith}
use mathlib.Core.Path.{◌≡◌, refl, sym, ◌∙◌}
use Rattle.std.proofs.Common.{Err, rules}
use Rattle.answers.proofs.Refusing.{refused_verdict}
use Rattle.judging.proofs.judge_framed.Goals as goal

pub returns-in_err-check_length : goal.returns-in_err-check_length
unfolding w_of
returns-in_err-check_length c =
    let e : c.from_residual.result ≡ Err c.in_err-check_length.field-0.0 = search rules in
    record {
      answered = rw e (refused_verdict _ c.in_err-check_length.ensures.1 ∙ sym (input_long _ c.in_err-check_length.ensures.0));
      lent = refl;
    }

pub returns-then-input-lt2 : goal.returns-then-input-lt2
unfolding w_of
returns-then-input-lt2 c = record {
  answered = refused_verdict _ c.whole.ensures ∙ sym (input_cut _ c.in_ok-check_length.ensures (omega arith));
  lent = refl;
}

pub returns-then-input-end : goal.returns-then-input-end
unfolding w_of
returns-then-input-end c = record {
  answered = refused_verdict _ c.whole-then-input-end.ensures ∙ sym (input_cut _ c.in_ok-check_length.ensures (omega arith));
  lent = refl;
}

pub returns : goal.returns
returns c = record {
  answered = handed_parts _ c.book_length-end.ensures.0 c.in_ok-check_length.ensures (omega arith) c.judge_files.ensures.answered;
  lent = c.judge_files.ensures.lent;
}
