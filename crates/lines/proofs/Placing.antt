-- The verdict of checks that are placed at a line or the closing, by the first that is not met.
use Prim.Native.Nat.{ℕ}
use mathlib.Core.Path.{◌≡◌, refl, sym, subst, ap, ◌∙◌}
use mathlib.Core.Logic.{ite}
use mathlib.Core.List.{List, [], ◌∷◌, ◌++◌, map, append-nil}
use mathlib.Core.Option.{none, some, some-injective}
use native.Mathlib.Omega.{arith}
use Rattle.answers.specs.Carried.{carried}
use Rattle.patterns.specs.Every.{Every}
use Rattle.patterns.specs.Reason.{Reason, closing_place}
use Rattle.patterns.specs.First.{Exp, Pace, one}
use Rattle.patterns.specs.Certificate.{Closing}
use Rattle.patterns.specs.Demand.{Met, met?}
use Rattle.patterns.specs.Judge.{Check, Placed, place, first_unmet, accept, refuse, ruling}
use Rattle.verdicts.proofs.Parted.{Parted}
use Rattle.comparing.specs.Found.{fault}

-- ---- the verdict of placed checks

abbrev refusal_of : ℕ → ℕ → ℕ → ℕ → Reason
refusal_of number w a b = record { number = number; w = w; a = a; b = b }

-- the first check that is not met carries its line and its part
pub fault_carried : (ks : List (Check Exp)) → Every Parted ks → (n p w a : ℕ) → fault ks ≡ some (n, p) → carried n w a p ≡ refusal_of n w a p
unfolding fault Every
fault_carried [] h n p w a e = let z : ◌≡◌ {A = ℕ} 0 1 = cc in absurd (omega arith)
fault_carried (k ∷ ks) h n p w a e = go (met? one k.demand) (λ x. fault_carried ks h.1 n p w a x) e
  where
    go : (d : Dec (Met one k.demand)) → (fault ks ≡ some (n, p) → carried n w a p ≡ refusal_of n w a p)
        → ite d (fault ks) (some (k.number, k.part)) ≡ some (n, p) → carried n w a p ≡ refusal_of n w a p
    go (yes q) rest x = rest x
    go (no q) rest x =
        let y : ◌≡◌ {A = ℕ × ℕ} (k.number, k.part) (n, p) = some-injective _ _ x in
        subst (λ (z : ℕ × ℕ). carried z.0 w a z.1 ≡ refusal_of z.0 w a z.1) y (h.0.told w a)

module _ (w a : ℕ) (ps : List (Placed one)) where
  pub placed_none : (ks : List (Check Exp)) → fault ks ≡ none → first_unmet one (map (place one w a) ks ++ ps) ≡ first_unmet one ps
  unfolding fault first_unmet
  placed_none [] e = refl
  placed_none (k ∷ ks) e = go (met? one k.demand) (λ h. placed_none ks h) e
    where
      go : (d : Dec (Met one k.demand)) → (fault ks ≡ none → first_unmet one (map (place one w a) ks ++ ps) ≡ first_unmet one ps)
          → ite d (fault ks) (some (k.number, k.part)) ≡ none
          → ite d (first_unmet one (map (place one w a) ks ++ ps)) (some (place one w a k)) ≡ first_unmet one ps
      go (yes p) rest h = rest h
      go (no p) rest h = let z : ◌≡◌ {A = ℕ} 0 1 = cc in absurd (omega arith)

  pub placed_fault : (ks : List (Check Exp)) (n p : ℕ) (c : Closing Exp Pace) → fault ks ≡ some (n, p)
      → ruling one (first_unmet one (map (place one w a) ks ++ ps)) c ≡ refuse (refusal_of n w a p)
  unfolding fault first_unmet ruling
  placed_fault [] n p c e = let z : ◌≡◌ {A = ℕ} 0 1 = cc in absurd (omega arith)
  placed_fault (k ∷ ks) n p c e = go (met? one k.demand) (λ h. placed_fault ks n p c h) e
    where
      go : (d : Dec (Met one k.demand)) → (fault ks ≡ some (n, p) → ruling one (first_unmet one (map (place one w a) ks ++ ps)) c ≡ refuse (refusal_of n w a p))
          → ite d (fault ks) (some (k.number, k.part)) ≡ some (n, p)
          → ruling one (ite d (first_unmet one (map (place one w a) ks ++ ps)) (some (place one w a k))) c ≡ refuse (refusal_of n w a p)
      go (yes q) rest h = rest h
      go (no q) rest h = let x : ◌≡◌ {A = ℕ × ℕ} (k.number, k.part) (n, p) = some-injective _ _ h in ap (λ (y : ℕ × ℕ). refuse (refusal_of y.0 w a y.1)) x

pub closed_fault : (a : ℕ) (ks : List (Check Exp)) (n p : ℕ) (c : Closing Exp Pace) → fault ks ≡ some (n, p)
    → ruling one (first_unmet one (map (place one closing_place a) ks)) c ≡ refuse (refusal_of n closing_place a p)
closed_fault a ks n p c e = ap (λ qs. ruling one (first_unmet one qs) c) (sym (append-nil (map (place one closing_place a) ks))) ∙ placed_fault closing_place a [] ks n p c e

pub closed_none : (a : ℕ) (ks : List (Check Exp)) (c : Closing Exp Pace) → fault ks ≡ none
    → ruling one (first_unmet one (map (place one closing_place a) ks)) c ≡ accept c.line c.pace
unfolding ruling first_unmet
closed_none a ks c e =
    ap (λ qs. ruling one (first_unmet one qs) c) (sym (append-nil (map (place one closing_place a) ks))) ∙ ap (λ o. ruling one o c) (placed_none closing_place a [] ks e)
