-- `judging::with_table` meets its contract: refusal 1 with the table as it was, or what ran on it and then all zeros.
use mathlib.Core.Path.{refl}
use Rattle.std.proofs.Common.{rules}
use native.Mathlib.Omega.{arith}
use Rattle.answers.specs.Numbers.{w_of}
use Rattle.judging.proofs.Inputs.{not_less}
use Rattle.table.proofs.Answer.{says_true, says_false}
use Rattle.judging.proofs.with_table.Goals as goal

pub returns-then-is_short : goal.returns-then-is_short
unfolding w_of
returns-then-is_short g c = record {
  short = λ h. (c.whole.result, refl, c.whole.ensures, refl);
  whole = λ h. let l = says_true _ c.is_short.ensures c.if-is_short.true in absurd (omega arith);
}

pub run-answer-requires : goal.run-answer-requires
run-answer-requires g c = let h = c.requires (not_less (says_false _ c.is_short.ensures c.if-is_short.false)) in search rules

pub returns : goal.returns
returns g c =
    let h = says_false _ c.is_short.ensures c.if-is_short.false in
    record {
      short = λ l. absurd (h l);
      whole = λ l. (c.run-answer.new.arg2, search rules, c.clear.ensures);
    }
