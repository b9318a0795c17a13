-- 01's numbers tell the code's answers: the definitions that give them have an inverse, so no second answer has the same numbers.
use Prim.Native.Nat.{ℕ}
use mathlib.Core.Path.{◌≡◌, refl, sym, ◌∙◌, ap}
use mathlib.Core.List.{List, [], ◌∷◌}
use lib.ListN.{get_or}
use Rattle.std.specs.Prelude.{Result, Ok, Err}
use Rattle.patterns.specs.First.{Pace}
use Rattle.patterns.specs.Reason.{Reason}
use Rattle.patterns.specs.Judge.{Ruling, accept, refuse}
use Rattle.answers.specs.declared.W.{W}
use Rattle.answers.specs.declared.W.TheVariants.{Book, Certificate, Line, Closing, Neither, Call}
use Rattle.answers.specs.declared.Refusal.{Refusal}
use Rattle.answers.specs.declared.Acceptance.{Acceptance}
use Rattle.answers.specs.Numbers.{w_of, paper_refusal, paper_pace, paper_verdict, Told, filled_with, refused_with, paper_answer, Reply, covered_at, denied, paper_coverage}

-- what has an inverse tells its arguments apart
pub inverse_tells : {A B : Type 0} (f : A → B) (g : B → A) → ((x : A) → g (f x) ≡ x) → (x y : A) → f x ≡ f y → x ≡ y
inverse_tells f g back x y e = sym (back x) ∙ ap g e ∙ back y

-- ---- W

-- in the order of their numbers
abbrev all_w : List W
all_w = Book ∷ Certificate ∷ Line ∷ Closing ∷ Neither ∷ Call ∷ []

abbrev w_at : ℕ → W
w_at n = get_or all_w n Neither

w_back : (w : W) → w_at (w_of w) ≡ w
unfolding w_of
w_back Book = refl
w_back Certificate = refl
w_back Line = refl
w_back Closing = refl
w_back Neither = refl
w_back Call = refl

-- ---- a refusal

abbrev code_refusal : Reason → Refusal
code_refusal r = record { number = r.number; w = w_at r.w; a = r.a; b = r.b }

refusal_back : (r : Refusal) → code_refusal (paper_refusal r) ≡ r
unfolding paper_refusal
refusal_back r = λ i. record { number = r.number; w = w_back r.w i; a = r.a; b = r.b }

-- ---- a verdict, what reading and writing answer, and what `covers` answers

abbrev code_verdict : Ruling Pace → Result Acceptance Refusal
code_verdict (accept line pace) = Ok (record { line = line; k = pace.k; alpha = pace.α })
code_verdict (refuse r) = Err (code_refusal r)

verdict_back : (v : Result Acceptance Refusal) → code_verdict (paper_verdict v) ≡ v
unfolding paper_verdict paper_pace
verdict_back (Ok a) = refl
verdict_back (Err r) = ap Err (refusal_back r)

abbrev code_answer : Told → Result ℕ Refusal
code_answer (filled_with n) = Ok n
code_answer (refused_with r) = Err (code_refusal r)

answer_back : (a : Result ℕ Refusal) → code_answer (paper_answer a) ≡ a
unfolding paper_answer
answer_back (Ok n) = refl
answer_back (Err r) = ap Err (refusal_back r)

abbrev code_coverage : Reply → Result ℕ Refusal
code_coverage (covered_at n) = Ok n
code_coverage (denied r) = Err (code_refusal r)

coverage_back : (c : Result ℕ Refusal) → code_coverage (paper_coverage c) ≡ c
unfolding paper_coverage
coverage_back (Ok n) = refl
coverage_back (Err r) = ap Err (refusal_back r)

-- Two answers with the same numbers are the same answer,
pub answer_tells : (p q : Result ℕ Refusal) → paper_answer p ≡ paper_answer q → p ≡ q
answer_tells = inverse_tells paper_answer code_answer answer_back

-- two verdicts with the same numbers the same verdict,
pub verdict_tells : (p q : Result Acceptance Refusal) → paper_verdict p ≡ paper_verdict q → p ≡ q
verdict_tells = inverse_tells paper_verdict code_verdict verdict_back

-- and two answers of `covers` with the same numbers the same answer.
pub coverage_tells : (p q : Result ℕ Refusal) → paper_coverage p ≡ paper_coverage q → p ≡ q
coverage_tells = inverse_tells paper_coverage code_coverage coverage_back

-- ---- an answer with its table, where the numbers and what is left are determined

once : {A B : Type 0} {f : A → B} → ((p q : A) → f p ≡ f q → p ≡ q) → {v : B} {left : List ℕ} (p q : A) {after other : List ℕ}
    → (f p ≡ v) × (after ≡ left) → (f q ≡ v) × (other ≡ left) → (p ≡ q) × (after ≡ other)
once tells p q h k = (tells p q (h.0 ∙ sym k.0), h.1 ∙ sym k.1)

-- Two verdicts with their tables are the same,
pub one_verdict : {v : Ruling Pace} {left : List ℕ} (p q : Result Acceptance Refusal) {after other : List ℕ}
    → (paper_verdict p ≡ v) × (after ≡ left) → (paper_verdict q ≡ v) × (other ≡ left) → (p ≡ q) × (after ≡ other)
one_verdict = once verdict_tells

-- and so are two answers of `covers`.
pub one_coverage : {v : Reply} {left : List ℕ} (p q : Result ℕ Refusal) {after other : List ℕ}
    → (paper_coverage p ≡ v) × (after ≡ left) → (paper_coverage q ≡ v) × (other ≡ left) → (p ≡ q) × (after ≡ other)
one_coverage = once coverage_tells
