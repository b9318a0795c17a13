-- The executable judge over trees: the checks of 01 in its order, the first that is not met, and the verdict.
use Prim.Native.Nat.{ℕ, suc}
use Rattle.std.specs.Prelude.{◌≡◌}
use Rattle.std.proofs.Math.Logic.{ite}
use mathlib.Core.List.{List, [], ◌∷◌, ◌++◌, map}
use Rattle.std.proofs.Math.Option.{Option, none, some}
use Rattle.std.proofs.Math.ListN.{get_elem?}
use Rattle.patterns.specs.Term.{Term, fill}
use Rattle.patterns.specs.Derive.{Book}
use Rattle.patterns.specs.Edition.{Edition, reindex}
use Rattle.patterns.specs.Certificate.{Fills, by, Mark, Claim, Use, Stop, fact, call, LineKind, unfolds, descends, Line, Closing, Certificate}
use Rattle.patterns.specs.Checks.{instance, instance_mark, reindex_mark}
use Rattle.patterns.specs.Demand.{Demand, small, same, empty, present, level, missing, Met, Fits, met?}
use Rattle.patterns.specs.Every.{Every}
use Rattle.patterns.specs.Reason.{Reason, line_place, closing_place}

-- a demand, with the number and the part of its refusal
pub record Check (E : Type 0) : Type 0 where
  pub number : ℕ
  pub part : ℕ
  pub demand : Demand E

abbrev pub check : {E : Type 0} → ℕ → ℕ → Demand E → Check E
check n p d = record { number = n; part = p; demand = d }

-- 01: "Every comparison builds its first-named side, then its second. A side whose normal form has more than 1,024 nodes is
-- refused with 16 at that part."
unfoldable pub compare : {E : Type 0} → ℕ → ℕ → Mark E → Mark E → List (Check E)
compare n p m k = check 16 p (small m) ∷ check 16 p (small k) ∷ check n p (same m k) ∷ []

-- the checks of a thing that is named
unfoldable pub given : {A E : Type 0} → Option A → (A → List (Check E)) → List (Check E)
given none f = check 4 0 missing ∷ []
given (some a) f = f a

-- calls that stand behind the stop need a right that leads to a call
unfoldable pub pending : {E : Type 0} → ℕ → List (Term E) → Mark E → List (Check E)
pending j [] m = []
pending j (v ∷ vs) m = check 11 j (present m) ∷ []

-- the call of a rule with exactly one
unfoldable pub sole : {E : Type 0} → List (Term E) → Option (Term E)
sole [] = none
sole (v ∷ []) = some v
sole (v ∷ w ∷ vs) = none

module _ {E I R S : Type 0} (𝓔 : Edition E I R S) where
  module _ (es : List (Claim E)) where
    -- an unfold's parts from j on, and part 15
    unfoldable pub parts : Fills E → ℕ → List (Term E) → List (Use E R) → Option (Use E R) → Mark E → List (Check E)
    parts θ j [] us last m = check 4 0 missing ∷ []
    parts θ j (v ∷ vs) [] none m = compare 12 15 m (some (fill (by θ) v))
    parts θ j (v ∷ vs) [] (some u) m =
        given (get_elem? es u.line) λ c.
        pending j vs c.right ++ compare 10 j (some (fill (by θ) v)) (some (instance 𝓔 u c.left))
        ++ compare 12 15 m (instance_mark 𝓔 u c.right)
    parts θ j (v ∷ vs) (u ∷ us) last m =
        let rest = parts θ (suc j) vs us last m in
        given (get_elem? es u.line) λ c.
        (check 11 j (empty c.right) ∷ []) ++ compare 10 j (some (fill (by θ) v)) (some (instance 𝓔 u c.left)) ++ rest

    unfoldable pub stops : Fills E → List (Term E) → Stop E R → Mark E → List (Check E)
    stops θ [] fact m = compare 12 15 m none
    stops θ [] (call us last) m = check 4 0 missing ∷ []
    stops θ (v ∷ vs) fact m = check 4 0 missing ∷ []
    stops θ (v ∷ vs) (call us last) m = parts θ 1 (v ∷ vs) us last m

    -- the checks of a line, in the order of their parts
    unfoldable pub line_checks : Book E → Claim E → LineKind E R → List (Check E)
    line_checks B l (unfolds k θ s) =
        given (get_elem? B k) λ r.
        compare 9 0 (some (fill (by θ) r.head)) (some l.left) ++ stops θ r.calls s l.right
    line_checks B l (descends u k θ) =
        given (get_elem? es u.line) λ c.
        given (get_elem? B k) λ r.
        given (sole r.calls) λ v.
        compare 9 0 (some (instance 𝓔 u c.left)) (some (reindex 𝓔 𝓔.base l.left))
        ++ compare 12 1 (instance_mark 𝓔 u c.right) (reindex_mark 𝓔 𝓔.base l.right)
        ++ compare 9 2 (some (fill (by θ) r.head)) (some (reindex 𝓔 𝓔.up l.left))
        ++ compare 10 3 (some (fill (by θ) v)) (some l.left) ++ (check 13 4 (level l.right) ∷ [])

  -- the closing's part 1, of a line with this right
  unfoldable pub loop_checks : Claim E → Closing E S → Mark E → List (Check E)
  loop_checks l c none = []
  loop_checks l c (some r) =
      compare 15 1 (some (reindex 𝓔 (𝓔.from c.pace) r))
      (some (fill (by c.fills) (reindex 𝓔 (𝓔.to c.pace) l.left)))

  unfoldable pub closing_checks : List (Claim E) → Closing E S → List (Check E)
  closing_checks es c =
      given (get_elem? es c.line) λ l. (check 14 0 (present l.right) ∷ []) ++ loop_checks l c l.right

  -- a check of the line or closing that W and A tell
  pub record Placed : Type 0 where
    pub w : ℕ
    pub a : ℕ
    pub check : Check E

  abbrev pub place : ℕ → ℕ → Check E → Placed
  place w a k = record { w = w; a = a; check = k }

  abbrev pub reason : Placed → Reason
  reason p = record { number = p.check.number; w = p.w; a = p.a; b = p.check.part }

  -- 01: "then lines from 0 up; then closing"; "A is the line judged, in the closing the line named, and B is the part"
  unfoldable pub checks_from : Book E → List (Claim E) → ℕ → List (Line E R) → Closing E S → List Placed
  checks_from B es a [] c = map (place closing_place c.line) (closing_checks es c)
  checks_from B es a (l ∷ ls) c =
      map (place line_place a) (line_checks es B l.claim l.kind) ++ checks_from B (es ++ (l.claim ∷ [])) (suc a) ls c

  -- every check of a certificate, in 01's order
  unfoldable pub checks : Book E → Certificate E R S → List Placed
  checks B K = checks_from B [] 0 K.lines K.closing

  unfoldable pub first_unmet : List Placed → Option Placed
  first_unmet [] = none
  first_unmet (p ∷ ps) = let rest = first_unmet ps in ite (met? 𝓔 p.check.demand) rest (some p)

pub data Ruling (S : Type 0) : Type 0 where
  accept : (line : ℕ) (pace : S) → Ruling S
  refuse : Reason → Ruling S

module _ {E I R S : Type 0} (𝓔 : Edition E I R S) where
  unfoldable pub ruling : Option (Placed 𝓔) → Closing E S → Ruling S
  ruling none c = accept c.line c.pace
  ruling (some p) c = refuse (reason 𝓔 p)

  -- 01: "An accepting answer gives the line, k and α."
  unfoldable pub judge : Book E → Certificate E R S → Ruling S
  judge B K = ruling (first_unmet 𝓔 (checks 𝓔 B K)) K.closing

  -- no side of a comparison has more than 1,024 nodes
  unfoldable pub Small : Book E → Certificate E R S → Type 0
  Small B K = Every (λ p. Fits 𝓔 p.check.demand) (checks 𝓔 B K)

  -- the refusal of a check that is not met, where every check before it is
  pub record FirstBroken (B : Book E) (K : Certificate E R S) (r : Reason) : Type 0 where
    pub before : List (Placed 𝓔)
    pub broken : Placed 𝓔
    pub after : List (Placed 𝓔)
    pub whole : checks 𝓔 B K ≡ before ++ (broken ∷ after)
    pub held : Every (λ p. Met 𝓔 p.check.demand) before
    pub unmet : ¬ (Met 𝓔 broken.check.demand)
    pub told : r ≡ reason 𝓔 broken
