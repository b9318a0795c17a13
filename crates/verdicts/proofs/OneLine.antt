-- The line of a refusal, and no two verdicts with one line: the line tells the verdict.
use Prim.Native.Nat.{ℕ, ◌<◌}
use mathlib.Core.Path.{◌≡◌, refl, ap, sym, ◌∙◌}
use mathlib.Core.List.{List, [], ◌∷◌, ◌++◌, append_assoc}
use native.Mathlib.Omega.{arith}
use Rattle.std.specs.Prelude.{Result}
use Rattle.answers.specs.declared.Acceptance.{Acceptance}
use Rattle.answers.specs.declared.Refusal.{Refusal}
use Rattle.answers.specs.Carried.{Carries}
use Rattle.answers.specs.Numbers.{paper_verdict}
use Rattle.answers.proofs.Inverses.{verdict_tells}
use Rattle.patterns.specs.Every.{Every}
use Rattle.patterns.specs.First.{Pace}
use Rattle.patterns.specs.Reason.{Reason}
use Rattle.patterns.specs.Judge.{Ruling, accept, refuse}
use Rattle.verdicts.specs.Decimal.{decimal}
use Rattle.verdicts.specs.Printing.{accept_word, refuse_word, spaced, sentence, refusal_line, line_of, TellsAll}
use Rattle.verdicts.proofs.Decimal.{IsDigit, decimal_digits, decimal_tells}

-- a rest that begins with a byte below the digits
abbrev Stops : List ℕ → Type 0
Stops [] = ⊥
Stops (x ∷ t) = x < 48

-- digits end where such a rest begins
cut : (l m t u : List ℕ) → Every IsDigit l → Every IsDigit m → Stops t → Stops u → l ++ t ≡ m ++ u → (l ≡ m) × (t ≡ u)
unfolding Every
cut [] [] t u p q h k e = (refl, e)
cut [] (b ∷ m) [] u p q h k e = absurd h
cut [] (b ∷ m) (x ∷ t) u p q h k e = let z : x ≡ b = cc in absurd (omega (arith, q.0.0))
cut (a ∷ l) [] t [] p q h k e = absurd k
cut (a ∷ l) [] t (y ∷ u) p q h k e = let z : a ≡ y = cc in absurd (omega (arith, p.0.0))
cut (a ∷ l) (b ∷ m) t u p q h k e =
    let z : a ≡ b = cc in
    let rest = cut l m t u p.1 q.1 h k (cc) in
    (cc rest.0, rest.1)

abbrev rest_of : List ℕ → List ℕ
rest_of ns = spaced ns ++ (10 ∷ [])

rest_stops : (ns : List ℕ) → Stops (rest_of ns)
unfolding spaced
rest_stops [] = omega arith
rest_stops (n ∷ ns) = omega arith

-- spaced numbers tell the numbers
pub spaced_tell : (ns ms : List ℕ) → rest_of ns ≡ rest_of ms → ns ≡ ms
unfolding spaced
spaced_tell [] [] e = refl
spaced_tell [] (m ∷ ms) e = let z : ◌≡◌ {A = ℕ} 10 32 = cc in absurd (omega arith)
spaced_tell (n ∷ ns) [] e = let z : ◌≡◌ {A = ℕ} 32 10 = cc in absurd (omega arith)
spaced_tell (n ∷ ns) (m ∷ ms) e =
    let tail : (decimal n ++ spaced ns) ++ (10 ∷ []) ≡ (decimal m ++ spaced ms) ++ (10 ∷ []) = cc in
    let parts =
    cut (decimal n) (decimal m) (rest_of ns) (rest_of ms) (decimal_digits n) (decimal_digits m) (rest_stops ns) (rest_stops ms)
    (sym (append_assoc (decimal n) (spaced ns) (10 ∷ [])) ∙ tail ∙ append_assoc (decimal m) (spaced ms) (10 ∷ []))
    in
    let first = decimal_tells n m parts.0 in
    let others = spaced_tell ns ms parts.1 in
    cc

pace_tells : (p q : Pace) → p.k ≡ q.k → p.α ≡ q.α → p ≡ q
pace_tells p q e f = λ i. record { k = e i; α = f i }

refusal_tells : (r t : Reason) → r.number ≡ t.number → r.w ≡ t.w → r.a ≡ t.a → r.b ≡ t.b → r ≡ t
refusal_tells r t e f g h = λ i. record { number = e i; w = f i; a = g i; b = h i }

-- The line of a refusal that carries what its number says, and nothing else: `refuse`, its number, its W, its A and its B.
pub own_line : (r : Reason) → Carries r → line_of (refuse r) ≡ refusal_line r
unfolding line_of Carries
own_line r h = ap refusal_line h

refusals_tell : (r t : Reason) → refusal_line r ≡ refusal_line t → r ≡ t
unfolding refusal_line sentence refuse_word
refusals_tell r t e =
    let ns =
    spaced_tell (r.number ∷ r.w ∷ r.a ∷ r.b ∷ []) (t.number ∷ t.w ∷ t.a ∷ t.b ∷ []) (cc)
    in
    refusal_tells r t (cc) (cc) (cc) (cc)

-- Two verdicts with the same line are the same verdict, where the line leaves nothing out.
pub line_tells : (v w : Ruling Pace) → TellsAll v → TellsAll w → line_of v ≡ line_of w → v ≡ w
unfolding line_of TellsAll Carries refusal_line sentence accept_word refuse_word
line_tells (accept l p) (accept m q) h k e =
    let ns = spaced_tell (l ∷ p.k ∷ p.α ∷ []) (m ∷ q.k ∷ q.α ∷ []) (cc) in
    let a : l ≡ m = cc in
    let b : p ≡ q = pace_tells p q (cc) (cc) in
    cc
line_tells (accept l p) (refuse t) h k e = let z : ◌≡◌ {A = ℕ} 97 114 = cc in absurd (omega arith)
line_tells (refuse r) (accept m q) h k e = let z : ◌≡◌ {A = ℕ} 114 97 = cc in absurd (omega arith)
line_tells (refuse r) (refuse t) h k e = ap refuse (sym h ∙ refusals_tell _ _ e ∙ k)

-- So what the program prints tells the code's verdict.
pub printed_tells : (p q : Result Acceptance Refusal) → TellsAll (paper_verdict p) → TellsAll (paper_verdict q) → line_of (paper_verdict p) ≡ line_of (paper_verdict q) → p ≡ q
printed_tells p q h k e = verdict_tells p q (line_tells (paper_verdict p) (paper_verdict q) h k e)
