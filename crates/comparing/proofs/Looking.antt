-- What a look at a right finds: the empty mark, a right that is there, one without index.
use Rattle.std.proofs.Common.{Ok, not}
use Prim.Native.Nat.{ℕ}
use mathlib.Core.Path.{◌≡◌, refl, sym, subst}
use mathlib.Core.Logic.{◌≢◌}
use mathlib.Core.Bool.{Bool, true, false}
use mathlib.Core.List.{List, [], ◌∷◌}
use mathlib.Core.Option.{none, some, some-ne-none}
use native.Mathlib.Omega.{arith}
use borrow.Author.Tests.{eq-eqb, ne_eqb}
use lib.Dec.{eqb}
use Rattle.patterns.specs.Term.{All}
use Rattle.patterns.specs.First.{Exp, Pattern, Level}
use Rattle.patterns.specs.Certificate.{Mark}
use Rattle.patterns.specs.Checks.{OnMark}
use Rattle.patterns.specs.Demand.{Met, level}
use Rattle.patterns.specs.Judge.{check}
use Rattle.grammar.specs.Listing.{if_any, term_fields}
use Rattle.table.specs.Answer.{Says}
use Rattle.table.proofs.Answer.{says_true, says_false}
use Rattle.instances.specs.Instances.{Levels}
use Rattle.instances.specs.declared.Read.{Read}
use Rattle.comparing.specs.declared.Behind.{Behind}
use Rattle.comparing.specs.declared.Behind.TheVariants.{Judged, Pending, Nothing}
use Rattle.begins.specs.Placed.{RightAt}
use Rattle.instances.specs.Lying.{KnownArities}
use Rattle.instances.specs.Taking.{Takes}
use Rattle.comparing.specs.Found.{Found, Finds}
use Rattle.comparing.specs.Rights.{EmptyRight, lead, Looks, LooksLevel}
use Rattle.instances.proofs.Taking.{term_at, rest_at}
use Rattle.comparing.proofs.Finding.{fault_none, unmet, finds_met, finds_unmet, finds_none}

-- ---- the empty mark

pub empty_right : {cert : List ℕ} {at : ℕ} {c : Read} → Takes cert 1 at c → EmptyRight cert at (eqb c.value 0)
unfolding if_any Says
empty_right {cert} {at} {c} t = record { told = go }
  where
    go : (ars : List ℕ) (m : Mark Exp) → RightAt cert ars at m → Says (m ≡ none) (eqb c.value 0)
    go ars none r = subst (Says _) (sym (eq-eqb _ _ (t.told 0 [] r.lies).0)) refl
    go ars (some u) r =
        subst (Says _) (sym (ne_eqb c.value 0 (λ z. omega (arith, (t.told 1 (term_fields u) r.lies).0)))) (some-ne-none u)

module _ {cert : List ℕ} {right n p : ℕ} {b : Bool} (e : EmptyRight cert right b) where
  pub spent_met : b ≡ true → Looks cert right Judged n p (Ok 0)
  unfolding lead Met
  spent_met q = record { told = λ ars m a. finds_met (says_true _ (e.told ars m a) q) }

  pub spent_unmet : b ≡ false → Looks cert right Judged n p (unmet n p)
  unfolding lead Met
  spent_unmet q = record { told = λ ars m a. finds_unmet [] (says_false _ (e.told ars m a) q) }

  pub present_met : b ≡ false → Looks cert right Pending n p (Ok 0)
  unfolding lead Met
  present_met q = record { told = λ ars m a. finds_met (says_false _ (e.told ars m a) q) }

  pub present_unmet : b ≡ true → Looks cert right Pending n p (unmet n p)
  unfolding lead Met
  present_unmet q = record { told = λ ars m a. finds_unmet [] (λ h. h (says_true _ (e.told ars m a) q)) }

-- ---- the right of a use

pub not_met : (b : Bool) → not b ≡ true → b ≡ false
not_met true e = sym e
not_met false e = refl

pub not_unmet : (b : Bool) → not b ≡ false → b ≡ true
not_unmet true e = refl
not_unmet false e = sym e

pub led_nothing : {cert : List ℕ} {right n p : ℕ} → Looks cert right Nothing n p (Ok 0)
unfolding lead
led_nothing = record { told = λ ars m a. finds_none fault_none }

pub led_by : {cert : List ℕ} {right n p : ℕ} {q s : Behind} {r : Found} → s ≡ q → Looks cert right q n p r → Looks cert right s n p r
led_by {cert} {right} {n} {p} {r = r} e h = subst (λ x. Looks cert right x n p r) (sym e) h

-- ---- no index

-- what `LooksLevel` tells
abbrev LevelTold : List ℕ → List ℕ → (right n p : ℕ) → Found → Type 0
LevelTold book cert right n p r = (ars : List ℕ) → KnownArities book ars → (m : Mark Exp) → RightAt cert ars right m → Finds (check n p (level m) ∷ []) 0 r

levels : {book cert : List ℕ} {right : ℕ} {c : Read} {b : Bool} → Takes cert 1 right c → Levels book cert c.at b → (ars : List ℕ) → KnownArities book ars
    → (u : Pattern) → RightAt cert ars right (some u) → Says (All Level u) b
unfolding if_any OnMark
levels t l ars k u r = l.told u (term_at k r.fits (rest_at t r.lies))

module _ {book cert : List ℕ} {right n p : ℕ} {c : Read} (t : Takes cert 1 right c) where
  pub level_none : c.value ≡ 0 → LooksLevel book cert right n p (Ok 0)
  unfolding if_any Met OnMark
  level_none z = record { told = go }
    where
      go : LevelTold book cert right n p (Ok 0)
      go ars k none r = finds_met tt
      go ars k (some u) r = absurd (omega (arith, (t.told 1 (term_fields u) r.lies).0))

  module _ {b : Bool} (ne : c.value ≢ 0) (l : Levels book cert c.at b) where
    pub level_yes : b ≡ true → LooksLevel book cert right n p (Ok 0)
    unfolding if_any Met OnMark
    level_yes q = record { told = go }
      where
        go : LevelTold book cert right n p (Ok 0)
        go ars k none r = absurd (ne (t.told 0 [] r.lies).0)
        go ars k (some u) r = finds_met (says_true _ (levels t l ars k u r) q)

    pub level_no : b ≡ false → LooksLevel book cert right n p (unmet n p)
    unfolding if_any Met OnMark
    level_no q = record { told = go }
      where
        go : LevelTold book cert right n p (unmet n p)
        go ars k none r = absurd (ne (t.told 0 [] r.lies).0)
        go ars k (some u) r = finds_unmet [] (says_false _ (levels t l ars k u r) q)
