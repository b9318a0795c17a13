-- Why a grammar stops at a field, in 01's words: no node is allowed there, nothing can be read there, or what stands there is out of range or not normal.
use Rattle.std.specs.Prelude.{Ok, Err}
use Prim.Native.Nat.{ℕ}
use mathlib.Core.Path.{◌≡◌, refl, sym, ◌∙◌}
use mathlib.Core.Bool.{Bool, true, false}
use mathlib.Core.Option.{Option, some}
use native.Mathlib.Omega.{arith}
use Rattle.fields.specs.declared.Walker.{Walker}
use Rattle.fields.specs.Source.{Source}
use Rattle.fields.specs.Kinds.{FieldKind, bits, Range, InRange, Unnormal, Spent, test, spent}
use Rattle.fields.specs.Grammar.{Grammar, ask, Outcome, outcome}
use Rattle.fields.proofs.Ranges.{Tested, met, spent_exactly, look_open, look_spent}
use Rattle.fields.proofs.Ranges.Tested.{good, outside, unnormal, too_many}
use Rattle.fields.proofs.Leads.{Why, unread, untaken}

pub spent? : (r : Range) → Dec (Spent r)
spent? r = go (spent r) refl
  where
    go : (b : Bool) → spent r ≡ b → Dec (Spent r)
    go true e = yes ((spent_exactly r).0 e)
    go false e = no (λ h. let q = (spent_exactly r).1 h in let z : ◌≡◌ {A = ℕ} 0 1 = cc in omega arith)

pub allowed : (r : Range) → ¬ (Spent r) → spent r ≡ false
allowed r h = go (spent r) refl
  where
    go : (b : Bool) → spent r ≡ b → b ≡ false
    go true e = absurd (h ((spent_exactly r).0 e))
    go false e = refl

pub why : {R : Type 0} (src : Source) (k : FieldKind) (r : Range) (d : Walker) (m : ℕ) → Why src k r d m → (Spent r → m ≡ 6 → R)
    → (¬ (Spent r) → src (bits k) d ≡ Err m → R)
    → (¬ (Spent r) → (v : ℕ) → src (bits k) d ≡ Ok v → ¬ (InRange r v) → m ≡ 4 → R)
    → (¬ (Spent r) → (v : ℕ) → src (bits k) d ≡ Ok v → InRange r v → Unnormal r v → m ≡ 5 → R) → R
why {R} src k r d m w full unreadable wide abnormal = go (spent? r) w
  where
    untested : ¬ (Spent r) → (v : ℕ) → src (bits k) d ≡ Ok v → (o : Option ℕ) → Tested r v o → o ≡ some m → R
    untested h v e o (good s i u) q = let z : ◌≡◌ {A = ℕ} 0 1 = cc in absurd (omega arith)
    untested h v e o (outside s i) q = wide h v e i (cc)
    untested h v e o (unnormal s i u) q = abnormal h v e i u (cc)
    untested h v e o (too_many s) q = absurd (h s)

    go : Dec (Spent r) → Why src k r d m → R
    go (yes s) (unread e) = let q = look_spent src k r d ((spent_exactly r).1 s) in full s (cc)
    go (yes s) (untaken v e t) =
        let q = look_spent src k r d ((spent_exactly r).1 s) in let z : ◌≡◌ {A = ℕ} 0 1 = cc in absurd (omega arith)
    go (no s) (unread e) = unreadable s (sym (look_open src k r d (allowed r s)) ∙ e)
    go (no s) (untaken v e t) = untested s v (sym (look_open src k r d (allowed r s)) ∙ e) (test r v) (met r v) t

-- and back

module _ {A : Type 0} (src : Source) (k : FieldKind) (r : Range) (next : ℕ → Grammar A) (d : Walker) where
  pub stops_spent : Spent r → outcome src (ask k r next) d ≡ Outcome.no 6 d
  unfolding outcome
  stops_spent h = rw (look_spent src k r d ((spent_exactly r).1 h))

  pub stops_bad : ¬ (Spent r) → (m : ℕ) → src (bits k) d ≡ Err m → outcome src (ask k r next) d ≡ Outcome.no m d
  unfolding outcome
  stops_bad h m e = rw (look_open src k r d (allowed r h) ∙ e)

  pub stops_refused : ¬ (Spent r) → (v m : ℕ) → src (bits k) d ≡ Ok v → test r v ≡ some m → outcome src (ask k r next) d ≡ Outcome.no m d
  unfolding outcome
  stops_refused h v m e t = rw (look_open src k r d (allowed r h) ∙ e, t)
