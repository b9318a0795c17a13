-- The ranges of fields: 4, 5 and 6 are given exactly when 01 says, and what two bounds tell of a range.
use Rattle.std.specs.Prelude.{Ok, Err}
use Prim.Native.Nat.{ℕ, ◌^◌, ◌≤◌, ◌<◌}
use mathlib.Core.Logic.{◌↔◌, ◌≢◌}
use mathlib.Core.Path.{◌≡◌, refl, sym}
use mathlib.Core.Bool.{Bool, true, false, cond}
use mathlib.Core.Option.{Option, none, some}
use native.Mathlib.Omega.{arith}
use borrow.Author.Tests.{lt-ltb, le-ltb, ltb-true, ltb-false, eq-eqb, ne_eqb, eqb-true, eqb-false, leb-true, leb-false}
use lib.ListN.{get_or}
use lib.Dec.{eqb, leb, ltb}
use Rattle.fields.specs.declared.Walker.{Walker}
use Rattle.fields.specs.Source.{Source}
use Rattle.fields.specs.Kinds.{FieldKind, bits, Range, any, from_to, applied, unary, beside, one_call, node, InRange, Unnormal, Spent, between, test, spent, Bounded}
use Rattle.fields.specs.Grammar.{look}

-- ---- two bounds

pub between_low : (least end m v : ℕ) → v < least → between least end m v ≡ some m
unfolding between
between_low least end m v h = rw (lt-ltb v least h)

pub between_high : (least end m v : ℕ) → least ≤ v → end ≤ v → between least end m v ≡ some m
unfolding between
between_high least end m v h k = rw (le-ltb v least h, le-ltb v end k)

pub between_ok : (least end m v : ℕ) → least ≤ v → v < end → between least end m v ≡ none
unfolding between
between_ok least end m v h k = rw (le-ltb v least h, lt-ltb v end k)

-- ---- the three ways to meet a value

-- a value is good, or refused with 4, 5 or 6, each for its own reason
pub data Tested (r : Range) (v : ℕ) : Option ℕ → Type 0 where
  good : ¬ (Spent r) → InRange r v → ¬ (Unnormal r v) → Tested r v none
  outside : ¬ (Spent r) → ¬ (InRange r v) → Tested r v (some 4)
  unnormal : ¬ (Spent r) → InRange r v → Unnormal r v → Tested r v (some 5)
  too_many : Spent r → Tested r v (some 6)

pub met : (r : Range) (v : ℕ) → Tested r v (test r v)
unfolding InRange Unnormal Spent between
met any v = good (λ z. z) tt (λ z. z)
met (from_to least end) v = go (ltb v least) (ltb v end) refl refl
  where
    go : (b c : Bool) → ltb v least ≡ b → ltb v end ≡ c → Tested (from_to least end) v (cond b (some 4) (cond c none (some 4)))
    go true c e d = let l = ltb-true v least e in outside (λ z. z) (λ h. let x = h.0 in omega arith)
    go false true e d = good (λ z. z) (ltb-false v least e, ltb-true v end d) (λ z. z)
    go false false e d = let l = ltb-false v end d in outside (λ z. z) (λ h. let x = h.1 in omega arith)
met (applied ar) v = go (eqb (ar v) 1) (leb (ar v) 8) refl refl
  where
    go : (b c : Bool) → eqb (ar v) 1 ≡ b → leb (ar v) 8 ≡ c → Tested (applied ar) v (cond b (some 4) (cond c none (some 4)))
    go true c e d = outside (λ z. z) (λ h. h.0 (eqb-true (ar v) 1 e))
    go false true e d = good (λ z. z) (eqb-false (ar v) 1 e, leb-true (ar v) 8 d) (λ z. z)
    go false false e d = let l = leb-false (ar v) 8 d in outside (λ z. z) (λ h. let x = h.1 in omega arith)
met (unary ar above) v = go (eqb (ar v) 1) (eqb v above) refl refl
  where
    go : (b c : Bool) → eqb (ar v) 1 ≡ b → eqb v above ≡ c → Tested (unary ar above) v (cond b (cond c (some 5) none) (some 4))
    go true true e d = unnormal (λ z. z) (eqb-true (ar v) 1 e) (eqb-true v above d)
    go true false e d = good (λ z. z) (eqb-true (ar v) 1 e) (eqb-false v above d)
    go false c e d = outside (λ z. z) (eqb-false (ar v) 1 e)
met (beside a) v = go (eqb a 0) (eqb v 0) refl refl
  where
    go : (b c : Bool) → eqb a 0 ≡ b → eqb v 0 ≡ c → Tested (beside a) v (cond b (cond c (some 5) none) none)
    go true true e d = unnormal (λ z. z) tt (eqb-true a 0 e, eqb-true v 0 d)
    go true false e d = good (λ z. z) tt (λ h. eqb-false v 0 d h.1)
    go false c e d = good (λ z. z) tt (λ h. eqb-false a 0 e h.0)
met (one_call ms) v = go (eqb (get_or ms v 0) 1) refl
  where
    go : (b : Bool) → eqb (get_or ms v 0) 1 ≡ b → Tested (one_call ms) v (cond b none (some 4))
    go true e = good (λ z. z) (eqb-true (get_or ms v 0) 1 e) (λ z. z)
    go false e = outside (λ z. z) (eqb-false (get_or ms v 0) 1 e)
met (node least left) v = go (eqb left 0) (ltb v least) (ltb v 3) refl refl refl
  where
    go : (a b c : Bool) → eqb left 0 ≡ a → ltb v least ≡ b → ltb v 3 ≡ c
        → Tested (node least left) v (cond a (some 6) (cond b (some 4) (cond c none (some 4))))
    go true b c f e d = too_many (eqb-true left 0 f)
    go false true c f e d = let l = ltb-true v least e in outside (eqb-false left 0 f) (λ h. let x = h.0 in omega arith)
    go false false true f e d = good (eqb-false left 0 f) (ltb-false v least e, ltb-true v 3 d) (λ z. z)
    go false false false f e d = let l = ltb-false v 3 d in outside (eqb-false left 0 f) (λ h. let x = h.1 in omega arith)

-- ---- 01's table: a value is refused with 4, 5 or 6 exactly when 01 says

module _ (r : Range) (v : ℕ) where
  pub passes_exactly : (test r v ≡ none) ↔ (¬ (Spent r) × InRange r v × ¬ (Unnormal r v))
  passes_exactly = (λ e. forth (test r v) (met r v) e, λ h. back (test r v) (met r v) h.0 h.1 h.2)
    where
      forth : (o : Option ℕ) → Tested r v o → o ≡ none → ¬ (Spent r) × InRange r v × ¬ (Unnormal r v)
      forth o (good s i u) e = (s, i, u)
      forth o (outside s i) e = let z : ◌≡◌ {A = ℕ} 0 1 = cc in absurd (omega arith)
      forth o (unnormal s i u) e = let z : ◌≡◌ {A = ℕ} 0 1 = cc in absurd (omega arith)
      forth o (too_many s) e = let z : ◌≡◌ {A = ℕ} 0 1 = cc in absurd (omega arith)

      back : (o : Option ℕ) → Tested r v o → ¬ (Spent r) → InRange r v → ¬ (Unnormal r v) → o ≡ none
      back o (good s i u) a b c = refl
      back o (outside s i) a b c = absurd (i b)
      back o (unnormal s i u) a b c = absurd (c u)
      back o (too_many s) a b c = absurd (a s)

  pub outside_exactly : (test r v ≡ some 4) ↔ (¬ (Spent r) × ¬ (InRange r v))
  outside_exactly = (λ e. forth (test r v) (met r v) e, λ h. back (test r v) (met r v) h.0 h.1)
    where
      forth : (o : Option ℕ) → Tested r v o → o ≡ some 4 → ¬ (Spent r) × ¬ (InRange r v)
      forth o (good s i u) e = let z : ◌≡◌ {A = ℕ} 0 1 = cc in absurd (omega arith)
      forth o (outside s i) e = (s, i)
      forth o (unnormal s i u) e = let z : ◌≡◌ {A = ℕ} 5 4 = cc in absurd (omega arith)
      forth o (too_many s) e = let z : ◌≡◌ {A = ℕ} 6 4 = cc in absurd (omega arith)

      back : (o : Option ℕ) → Tested r v o → ¬ (Spent r) → ¬ (InRange r v) → o ≡ some 4
      back o (good s i u) a b = absurd (b i)
      back o (outside s i) a b = refl
      back o (unnormal s i u) a b = absurd (b i)
      back o (too_many s) a b = absurd (a s)

  pub unnormal_exactly : (test r v ≡ some 5) ↔ (¬ (Spent r) × InRange r v × Unnormal r v)
  unnormal_exactly = (λ e. forth (test r v) (met r v) e, λ h. back (test r v) (met r v) h.0 h.1 h.2)
    where
      forth : (o : Option ℕ) → Tested r v o → o ≡ some 5 → ¬ (Spent r) × InRange r v × Unnormal r v
      forth o (good s i u) e = let z : ◌≡◌ {A = ℕ} 0 1 = cc in absurd (omega arith)
      forth o (outside s i) e = let z : ◌≡◌ {A = ℕ} 4 5 = cc in absurd (omega arith)
      forth o (unnormal s i u) e = (s, i, u)
      forth o (too_many s) e = let z : ◌≡◌ {A = ℕ} 6 5 = cc in absurd (omega arith)

      back : (o : Option ℕ) → Tested r v o → ¬ (Spent r) → InRange r v → Unnormal r v → o ≡ some 5
      back o (good s i u) a b c = absurd (u c)
      back o (outside s i) a b c = absurd (i b)
      back o (unnormal s i u) a b c = refl
      back o (too_many s) a b c = absurd (a s)

-- 6 is given whatever the value, before there is one
pub spent_exactly : (r : Range) → (spent r ≡ true) ↔ Spent r
unfolding Spent
spent_exactly any = ((λ e. let z : ◌≡◌ {A = ℕ} 0 1 = cc in omega arith), (λ z. absurd z))
spent_exactly (from_to least end) = ((λ e. let z : ◌≡◌ {A = ℕ} 0 1 = cc in omega arith), (λ z. absurd z))
spent_exactly (applied ar) = ((λ e. let z : ◌≡◌ {A = ℕ} 0 1 = cc in omega arith), (λ z. absurd z))
spent_exactly (unary ar above) = ((λ e. let z : ◌≡◌ {A = ℕ} 0 1 = cc in omega arith), (λ z. absurd z))
spent_exactly (beside a) = ((λ e. let z : ◌≡◌ {A = ℕ} 0 1 = cc in omega arith), (λ z. absurd z))
spent_exactly (one_call ms) = ((λ e. let z : ◌≡◌ {A = ℕ} 0 1 = cc in omega arith), (λ z. absurd z))
spent_exactly (node least left) = ((λ e. eqb-true left 0 e), (λ h. eq-eqb left 0 h))

-- ---- what a source has for a field

pub look_open : (src : Source) (k : FieldKind) (r : Range) (c : Walker) → spent r ≡ false → look src k r c ≡ src (bits k) c
look_open src k r c e = rw e

pub look_spent : (src : Source) (k : FieldKind) (r : Range) (c : Walker) → spent r ≡ true → look src k r c ≡ Err 6
look_spent src k r c e = rw e

pub look_got : (src : Source) (k : FieldKind) (r : Range) (c : Walker) {v : ℕ} → look src k r c ≡ Ok v → src (bits k) c ≡ Ok v
look_got src k r c {v} = go (spent r)
  where
    go : (b : Bool) → cond b (Err 6) (src (bits k) c) ≡ Ok v → src (bits k) c ≡ Ok v
    go true e = let z : ◌≡◌ {A = ℕ} 0 1 = cc in absurd (omega arith)
    go false e = e

-- a range that some value passes allows a node
pub test_open : (r : Range) (v : ℕ) → test r v ≡ none → spent r ≡ false
test_open r v e = go (spent r) refl
  where
    go : (b : Bool) → spent r ≡ b → b ≡ false
    go true q = absurd (((passes_exactly r v).0 e).0 ((spent_exactly r).0 q))
    go false q = refl

pub test_look : (src : Source) (k : FieldKind) (r : Range) (c : Walker) (v : ℕ) → test r v ≡ none → look src k r c ≡ src (bits k) c
test_look src k r c v e = look_open src k r c (test_open r v e)

-- ---- ranges that are told by two bounds

pub any_bounded : (k : FieldKind) {end m : ℕ} → 2 ^ bits k ≤ end → Bounded k any (bits k) 0 end m
any_bounded k {end} {m} h = record { allowed = refl; wide = refl; told = λ v l. sym (between_ok 0 end m v (omega arith) (omega arith)) }

pub from_to_bounded : (k : FieldKind) (least end : ℕ) → Bounded k (from_to least end) (bits k) least end 4
from_to_bounded k least end = record { allowed = refl; wide = refl; told = λ v l. refl }

pub beside_bounded : (k : FieldKind) (a : ℕ) {least end : ℕ} → least ≡ cond (eqb a 0) 1 0 → 2 ^ bits k ≤ end
    → Bounded k (beside a) (bits k) least end 5
unfolding between
beside_bounded k a {least} {end} e h = record { allowed = refl; wide = refl; told = λ v l. told v (omega arith) (eqb a 0) (eqb v 0) refl refl e }
  where
    told : (v : ℕ) → v < end → (b c : Bool) → eqb a 0 ≡ b → eqb v 0 ≡ c → least ≡ cond b 1 0
        → cond {A = Option ℕ} b (cond c (some 5) none) none ≡ between least end 5 v
    told v l true true p q f = let z = eqb-true v 0 q in sym (between_low least end 5 v (omega arith))
    told v l true false p q f = let z = eqb-false v 0 q in sym (between_ok least end 5 v (omega arith) l)
    told v l false c p q f = sym (between_ok least end 5 v (omega arith) l)

pub node_bounded : (k : FieldKind) (least : ℕ) {left : ℕ} → left ≢ 0 → Bounded k (node least left) (bits k) least 3 4
node_bounded k least {left} h = record { allowed = ne_eqb left 0 h; wide = refl; told = λ v l. rw (ne_eqb left 0 h) }
