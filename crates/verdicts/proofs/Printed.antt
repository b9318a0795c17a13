-- The line of each kind of verdict, and what a caller gets who lends room for it.
use Prim.Native.Nat.{ℕ, ◌≤◌, ◌<◌}
use mathlib.Core.Path.{◌≡◌, ap, sym, ◌∙◌, subst}
use mathlib.Core.List.{List, [], ◌∷◌, ◌++◌}
use native.Mathlib.Omega.{arith}
use borrow.Author.Tests.{le-ltb}
use lib.ListN.{length, take, drop}
use lib.Seq.{take-append_seam}
use Rattle.std.specs.Prelude.{Result, Ok, Err}
use Rattle.answers.specs.Carried.{carried}
use Rattle.answers.specs.Numbers.{w_of, paper_refusal, paper_pace, paper_verdict}
use Rattle.patterns.specs.Reason.{Reason}
use Rattle.patterns.specs.Judge.{refuse}
use Rattle.layout.specs.Answers.{output}
use Rattle.answers.specs.declared.Refusal.{Refusal}
use Rattle.answers.proofs.Carrying.{carried_field, carried_part, carried_low, carried_between, carried_high}
use Rattle.answers.specs.declared.Acceptance.{Acceptance}
use Rattle.verdicts.specs.Printing.{accept_word, refuse_word, sentence, refusal_line, line_of, written_length, Prints}

-- ---- an acceptance

pub accepted_printed : (out : List ℕ) {out' : List ℕ} {r : ℕ} {v : Result Acceptance Refusal} (a : Acceptance) → v ≡ Ok a
    → Prints (sentence accept_word (a.line ∷ a.k ∷ a.alpha ∷ [])) out r out' → Prints (line_of (paper_verdict v)) out r out'
unfolding paper_verdict paper_pace line_of
accepted_printed out {out'} {r} a e p = subst (λ (v : Result Acceptance Refusal). Prints (line_of (paper_verdict v)) out r out') (sym e) p

-- ---- a refusal, by its number

module _ (out : List ℕ) {out' : List ℕ} {r : ℕ} (f : Refusal) {w : ℕ} (place : w ≡ w_of f.w) where
  -- the numbers of a refusal that is carried
  carried_printed : (a b : ℕ) → carried f.number (w_of f.w) f.a f.b ≡ record { number = f.number; w = w_of f.w; a = a; b = b }
      → Prints (sentence refuse_word (f.number ∷ w ∷ a ∷ b ∷ [])) out r out' → Prints (line_of (refuse (paper_refusal f))) out r out'
  unfolding line_of refusal_line paper_refusal
  carried_printed a b e p =
      subst (λ (t : Reason). Prints (refusal_line t) out r out') (sym e)
      (subst (λ (n : ℕ). Prints (sentence refuse_word (f.number ∷ n ∷ a ∷ b ∷ [])) out r out') place p)

  pub field_printed : 3 ≤ f.number → f.number < 8 → Prints (sentence refuse_word (f.number ∷ w ∷ f.a ∷ 0 ∷ [])) out r out'
      → Prints (line_of (refuse (paper_refusal f))) out r out'
  field_printed p q = carried_printed f.a 0 (carried_field _ _ _ p q)

  pub part_printed : 9 ≤ f.number → f.number < 17 → Prints (sentence refuse_word (f.number ∷ w ∷ f.a ∷ f.b ∷ [])) out r out'
      → Prints (line_of (refuse (paper_refusal f))) out r out'
  part_printed p q = carried_printed f.a f.b (carried_part _ _ _ p q)

  pub low_printed : f.number < 3 → Prints (sentence refuse_word (f.number ∷ w ∷ 0 ∷ 0 ∷ [])) out r out'
      → Prints (line_of (refuse (paper_refusal f))) out r out'
  low_printed p = carried_printed 0 0 (carried_low _ _ _ p)

  pub between_printed : 8 ≤ f.number → f.number < 9 → Prints (sentence refuse_word (f.number ∷ w ∷ 0 ∷ 0 ∷ [])) out r out'
      → Prints (line_of (refuse (paper_refusal f))) out r out'
  between_printed p q = carried_printed 0 0 (carried_between _ _ _ p q)

  pub high_printed : 17 ≤ f.number → Prints (sentence refuse_word (f.number ∷ w ∷ 0 ∷ 0 ∷ [])) out r out'
      → Prints (line_of (refuse (paper_refusal f))) out r out'
  high_printed p = carried_printed 0 0 (carried_high _ _ _ p)

pub refused_printed : (out : List ℕ) {out' : List ℕ} {r : ℕ} {v : Result Acceptance Refusal} (f : Refusal) → v ≡ Err f
    → Prints (line_of (refuse (paper_refusal f))) out r out' → Prints (line_of (paper_verdict v)) out r out'
unfolding paper_verdict
refused_printed out {out'} {r} f e p = subst (λ (v : Result Acceptance Refusal). Prints (line_of (paper_verdict v)) out r out') (sym e) p

-- ---- what a caller with 91 bytes gets

-- The line stands in the first bytes, as many as were answered.
pub line_first : (l out : List ℕ) {r : ℕ} {out' : List ℕ} → 91 ≤ length out → Prints l out r out'
    → (r ≡ length l) × (take r out' ≡ l)
unfolding written_length output
line_first l out {r} {out'} h p =
    let room = le-ltb (length out) (length l) (omega (arith, p.short)) in
    let whole : r ≡ length l = p.answered ∙ rw room in
    let after : out' ≡ l ++ drop (length l) out = p.filled ∙ rw room in
    (whole, ap (λ (n : ℕ). take n out') whole ∙ ap (take (length l)) after ∙ take-append_seam l (drop (length l) out))
