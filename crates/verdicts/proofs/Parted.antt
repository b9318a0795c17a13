-- The checks of the judge over trees carry a line and a part: the number of each is 9 to 16, or its part is 0.
use Prim.Native.Nat.{ℕ, suc, ◌≤◌, ◌<◌}
use mathlib.Core.Path.{◌≡◌, refl}
use mathlib.Core.List.{List, [], ◌∷◌, ◌++◌}
use mathlib.Core.Option.{Option, none, some}
use native.Mathlib.Omega.{arith}
use lib.ListN.{get_elem?}
use Rattle.answers.specs.Carried.{of_a_field, carried}
use Rattle.patterns.specs.Term.{Term}
use Rattle.patterns.specs.Every.{Every}
use Rattle.patterns.specs.Edition.{Edition}
use Rattle.patterns.specs.Derive.{Book}
use Rattle.patterns.specs.Certificate.{Fills, Mark, Claim, Use, Stop, fact, call, LineKind, unfolds, descends, Closing}
use Rattle.patterns.specs.Demand.{Demand, empty, present, level, missing}
use Rattle.patterns.specs.Judge.{Check, check, compare, given, pending, sole, parts, stops, line_checks, loop_checks, closing_checks}
use Rattle.patterns.proofs.Every.{every_append}
use Rattle.answers.proofs.Carrying.{carried_part}

-- ---- the checks of the judge over trees

-- a check whose refusal carries its line and its part
pub record Parted {E : Type 0} (k : Check E) : Type 0 where
  pub told : (w a : ℕ) → carried k.number w a k.part ≡ record { number = k.number; w = w; a = a; b = k.part }

abbrev Parteds : {E : Type 0} → List (Check E) → Type 0
Parteds ks = Every Parted ks

module _ {E : Type 0} where
  parted : (k : Check E) → 9 ≤ k.number → k.number < 17 → Parted k
  parted k p q = record { told = λ w a. carried_part w a k.part p q }

  parted_compare : (n p : ℕ) (m k : Mark E) → 9 ≤ n → n < 17 → Parteds (compare n p m k)
  unfolding compare Every
  parted_compare n p m k h l = (parted _ (omega arith) (omega arith), (parted _ (omega arith) (omega arith), (parted _ h l, tt)))

  parted_one : (n p : ℕ) (d : Demand E) → 9 ≤ n → n < 17 → Parteds (check n p d ∷ [])
  unfolding Every
  parted_one n p d h l = (parted _ h l, tt)

  parted_given : {A : Type 0} (o : Option A) (f : A → List (Check E)) → ((a : A) → Parteds (f a)) → Parteds (given o f)
  unfolding given Every carried of_a_field
  parted_given none f h = (record { told = λ w a. refl }, tt)
  parted_given (some a) f h = h a

  parted_pending : (j : ℕ) (vs : List (Term E)) (m : Mark E) → Parteds (pending j vs m)
  unfolding pending Every
  parted_pending j [] m = tt
  parted_pending j (v ∷ vs) m = parted_one 11 j (present m) (omega arith) (omega arith)

module _ {E I R S : Type 0} (𝓔 : Edition E I R S) where
  abbrev then : (ks ls : List (Check E)) → Parteds ks → Parteds ls → Parteds (ks ++ ls)
  then ks ls h k = every_append Parted ks ls h k

  nine : (p : ℕ) (m k : Mark E) → Parteds (compare 9 p m k)
  nine p m k = parted_compare 9 p m k (omega arith) (omega arith)

  ten : (p : ℕ) (m k : Mark E) → Parteds (compare 10 p m k)
  ten p m k = parted_compare 10 p m k (omega arith) (omega arith)

  twelve : (p : ℕ) (m k : Mark E) → Parteds (compare 12 p m k)
  twelve p m k = parted_compare 12 p m k (omega arith) (omega arith)

  parted_missing : Parteds {E = E} (check 4 0 missing ∷ [])
  unfolding Every carried of_a_field
  parted_missing = (record { told = λ w a. refl }, tt)

  module _ (es : List (Claim E)) where
    parted_parts : (θ : Fills E) (j : ℕ) (vs : List (Term E)) (us : List (Use E R)) (last : Option (Use E R)) (m : Mark E)
        → Parteds (parts 𝓔 es θ j vs us last m)
    unfolding parts
    parted_parts θ j [] us last m = parted_missing
    parted_parts θ j (v ∷ vs) [] none m = twelve 15 m _
    parted_parts θ j (v ∷ vs) [] (some u) m =
        parted_given (get_elem? es u.line) _ (λ c. then _ _ (then _ _ (parted_pending j vs c.right) (ten j _ _)) (twelve 15 m _))
    parted_parts θ j (v ∷ vs) (u ∷ us) last m =
        let rest = parted_parts θ (suc j) vs us last m in
        parted_given (get_elem? es u.line) _ (λ c. then _ _ (then _ _ (parted_one 11 j (empty c.right) (omega arith) (omega arith)) (ten j _ _)) rest)

    parted_stops : (θ : Fills E) (vs : List (Term E)) (s : Stop E R) (m : Mark E) → Parteds (stops 𝓔 es θ vs s m)
    unfolding stops
    parted_stops θ [] fact m = twelve 15 m none
    parted_stops θ [] (call us last) m = parted_missing
    parted_stops θ (v ∷ vs) fact m = parted_missing
    parted_stops θ (v ∷ vs) (call us last) m = parted_parts θ 1 (v ∷ vs) us last m

    pub parted_line : (B : Book E) (l : Claim E) (k : LineKind E R) → Parteds (line_checks 𝓔 es B l k)
    unfolding line_checks
    parted_line B l (unfolds k θ s) = parted_given (get_elem? B k) _ (λ r. then _ _ (nine 0 _ _) (parted_stops θ r.calls s l.right))
    parted_line B l (descends u k θ) =
        parted_given (get_elem? es u.line) _ (λ c.
        parted_given (get_elem? B k) _ (λ r.
        parted_given (sole r.calls) _ (λ v.
        then _ _ (then _ _ (then _ _ (then _ _ (nine 0 _ _) (twelve 1 _ _)) (nine 2 _ _)) (ten 3 _ _)) (parted_one 13 4 (level l.right) (omega arith) (omega arith)))))

    parted_loop : (l : Claim E) (c : Closing E S) (m : Mark E) → Parteds (loop_checks 𝓔 l c m)
    unfolding loop_checks Every
    parted_loop l c none = tt
    parted_loop l c (some r) = parted_compare 15 1 _ _ (omega arith) (omega arith)

    pub parted_closing : (c : Closing E S) → Parteds (closing_checks 𝓔 es c)
    unfolding closing_checks
    parted_closing c =
        parted_given (get_elem? es c.line) _ (λ l.
        then _ _ (parted_one 14 0 (present l.right) (omega arith) (omega arith)) (parted_loop l c l.right))
