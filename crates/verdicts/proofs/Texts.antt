-- The text of a refusal and of an acceptance is the line that is printed for it, without the newline.
use Prim.Native.Nat.{ℕ, ◌%◌, ◌^◌, ◌<◌}
use mathlib.Core.Path.{◌≡◌, refl, ap, ◌∙◌}
use mathlib.Core.List.{List, [], ◌∷◌, ◌++◌, append-nil}
use native.Mathlib.Omega.{arith}
use Rattle.std.specs.Fmt.{decimal as text}
use Rattle.std.proofs.lemmas.Fmt.{decimal_by_steps}
use Rattle.answers.specs.declared.Acceptance.{Acceptance}
use Rattle.answers.specs.Numbers.{paper_pace}
use Rattle.answers.specs.Text.{reason_text, acceptance_text}
use Rattle.patterns.specs.Judge.{accept}
use Rattle.patterns.specs.Reason.{Reason}
use Rattle.verdicts.specs.Decimal.{byte, decimal}
use Rattle.verdicts.specs.Printing.{accept_word, refuse_word, spaced, sentence, refusal_line, line_of}
use Rattle.verdicts.proofs.Decimal.{decimal_last, decimal_step}

-- a number's decimal is what is written for it
pub decimal_text : (n : ℕ) → n < 2 ^ 64 → decimal n ≡ text n
decimal_text =
    decimal_by_steps (λ n ds. decimal n ≡ ds) (λ n h. decimal_last n (omega arith))
    (λ n ds h e. decimal_step n (omega arith) ∙ ap (λ (l : List ℕ). l ++ (byte (n % 10) ∷ [])) e)

pub refusal_told : (r : Reason) → r.number < 2 ^ 64 → r.w < 2 ^ 64 → r.a < 2 ^ 64 → r.b < 2 ^ 64 → refusal_line r ≡ reason_text r ++ (10 ∷ [])
unfolding refusal_line sentence spaced refuse_word
refusal_told r n w a b =
    rw (decimal_text r.number n, decimal_text r.w w, decimal_text r.a a, decimal_text r.b b, append-nil (text r.b)) refl

pub acceptance_told : (a : Acceptance) → a.line < 2 ^ 64 → a.k < 2 ^ 64 → a.alpha < 2 ^ 64
    → line_of (accept a.line (paper_pace a)) ≡ acceptance_text a ++ (10 ∷ [])
unfolding line_of paper_pace sentence spaced accept_word
acceptance_told a l k s = rw (decimal_text a.line l, decimal_text a.k k, decimal_text a.alpha s, append-nil (text a.alpha)) refl
