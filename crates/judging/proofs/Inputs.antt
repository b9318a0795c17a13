-- The work table as a call leaves it, and the two files that the program's input hands over.
use Prim.Native.Nat.{ℕ, ◌+◌, ◌-◌, ◌≤◌, ◌<◌}
use mathlib.Core.Path.{◌≡◌, refl, sym, ◌∙◌, ap, ap₂}
use mathlib.Core.List.{List}
use native.Mathlib.Omega.{arith}
use borrow.Author.Tests.{lt-ltb, le-ltb, ltb-true, ltb-false}
use lib.Dec.{ltb}
use mathlib.Core.Bool.{Bool, true, false}
use Rattle.table.specs.Places.{WORDS}
use Rattle.table.specs.Answer.{Says}
use lib.ListN.{length, take, drop, replicate, length-drop}
use lib.Seq.{take_all}
use Rattle.std.specs.Prelude.{Result, Err, cond}
use Rattle.answers.specs.declared.Refusal.{Refusal}
use Rattle.answers.specs.Carried.{refusal_at}
use Rattle.answers.specs.Numbers.{paper_refusal}
use Rattle.patterns.specs.Reason.{neither_place}
use Rattle.patterns.specs.First.{Pace}
use Rattle.patterns.specs.Judge.{Ruling}
use Rattle.verdicts.specs.Judging.{judging_files, work_after}
use Rattle.verdicts.specs.Program.{book_length, judging_parts, judging_framed}
use Rattle.verdicts.proofs.Framing.{input_whole}
use Rattle.judging.specs.Lent.{Lent}

-- ---- the work table

pub says_less : (a b : ℕ) → Says (a < b) (ltb a b)
unfolding Says
says_less a b = go (ltb a b) refl
  where
    go : (t : Bool) → ltb a b ≡ t → Says (a < b) t
    go true e = ltb-true a b e
    go false e = λ l. let h = ltb-false a b e in omega arith

pub not_less : {a b : ℕ} → ¬ (a < b) → b ≤ a
not_less {a} {b} n = go (ltb a b) refl
  where
    go : (t : Bool) → ltb a b ≡ t → b ≤ a
    go true e = absurd (n (ltb-true a b e))
    go false e = ltb-false a b e

module _ (work : List ℕ) where
  pub left_short : length work < WORDS → work ≡ work_after work
  unfolding work_after
  left_short h = rw (lt-ltb (length work) WORDS h)

  pub left_cleared : {after : List ℕ} → WORDS ≤ length work → after ≡ replicate (length work) 0 → after ≡ work_after work
  unfolding work_after
  left_cleared h e = e ∙ rw (le-ltb (length work) WORDS h)

-- What ran on a lent table and is told there by v is told with the table by refusal 1 or v, and the table is left as it must be.
pub lent_told : {T B : Type 0} {ran : Result T Refusal → List ℕ → Type 0} {work after : List ℕ} {r : Result T Refusal} (paper : Result T Refusal → B)
    (one v : B) → ((f : Refusal) → paper_refusal f ≡ refusal_at 1 neither_place 0 → paper (Err f) ≡ one) → Lent ran work r after
    → ((left : List ℕ) → WORDS ≤ length work → ran r left → (paper r ≡ v) × (length left ≡ length work))
    → (paper r ≡ cond (ltb (length work) WORDS) one v) × (after ≡ work_after work)
lent_told {ran} {work} {after} {r} paper one v short l whole = go (ltb (length work) WORDS) refl
  where
    go : (t : Bool) → ltb (length work) WORDS ≡ t → (paper r ≡ cond (ltb (length work) WORDS) one v) × (after ≡ work_after work)
    go true e =
        let h = ltb-true _ _ e in
        let s = l.short h in
        (ap paper s.1 ∙ short s.0 s.2 ∙ rw e, s.3 ∙ left_short work h)
    go false e =
        let h = ltb-false _ _ e in
        let s = l.whole h in
        let w = whole s.0 h s.1 in
        (w.0 ∙ rw e, left_cleared work h (s.2 ∙ ap (λ (n : ℕ). replicate n 0) w.1))

-- ---- the framing

-- what `&input[2..end]` and `&input[end..]` hand over is the book and the certificate
pub handed_parts : (input : List ℕ) {n : ℕ} {v : Ruling Pace} → n ≡ book_length input → length input ≤ 49154 → 2 + n ≤ length input
    → v ≡ judging_files (take (2 + n - 2) (drop 2 input)) (take (length input - (2 + n)) (drop (2 + n) input))
    → v ≡ judging_framed input
handed_parts input {n} m k h e =
    let back : 2 + n - 2 ≡ n = omega arith in
    let all = take_all (length input - (2 + n)) (drop (2 + n) input) (omega (arith, length-drop (2 + n) input)) in
    e
    ∙ ap₂ judging_files (ap (λ (p : ℕ). take p (drop 2 input)) back) all
    ∙ ap (λ (p : ℕ). judging_parts p input) m
    ∙ sym (input_whole input k (omega arith))
