-- How a walk along fields goes: a field, and one grammar after the other, as the code's calls meet them.
use Rattle.std.specs.Prelude.{Result, Ok, Err}
use Prim.Native.Nat.{ℕ, ◌<◌, ◌≤◌, ◌^◌}
use mathlib.Core.Path.{◌≡◌, refl, sym, ap, ◌∙◌, subst}
use mathlib.Core.Bool.{true, false}
use mathlib.Core.Option.{Option, none, some}
use native.Mathlib.Omega.{arith}
use Rattle.fields.specs.Source.{Field}
use Rattle.fields.specs.Kinds.{FieldKind, Range, bits, test, spent}
use Rattle.fields.specs.Grammar.{Grammar, done, ask, bind, field, on_field, tested}
use Rattle.fields.specs.Along.{Steps, End, asked, along, shown, told_at, Comes, Takes}
use Rattle.fields.specs.Along.End.{ok, no}
use Rattle.fields.proofs.Ranges.{between_low, between_high, between_ok}

-- ---- a walk along `bind`

module _ {A B S : Type 0} (st : Steps S) (f : A → Grammar B) where
  unfoldable pub go_on : End A S → End B S
  go_on (ok a x) = along st (f a) x
  go_on (no m x) = no m x

  ask_bind : (k : FieldKind) (r : Range) (next : ℕ → Grammar A) (x : S)
      → ((v : ℕ) (y : S) → along st (bind (next v) f) y ≡ go_on (along st (next v) y))
      → (c : Field)
      → on_field c (λ v. tested (test r v) (along st (bind (next v) f) (st.past (bits k) v x)) (λ m. no m x)) (λ m. no m x)
      ≡ go_on (on_field c (λ v. tested (test r v) (along st (next v) (st.past (bits k) v x)) (λ m. no m x)) (λ m. no m x))
  unfolding go_on
  ask_bind k r next x ih (Err m) = refl
  ask_bind k r next x ih (Ok v) = under (test r v)
    where
      under : (o : Option ℕ)
          → tested o (along st (bind (next v) f) (st.past (bits k) v x)) (λ m. no m x)
          ≡ go_on (tested o (along st (next v) (st.past (bits k) v x)) (λ m. no m x))
      under none = ih v (st.past (bits k) v x)
      under (some m) = refl

  pub along_bind : (p : Grammar A) (x : S) → along st (bind p f) x ≡ go_on (along st p x)
  unfolding along bind go_on
  along_bind (done a) x = refl
  along_bind (ask k r next) x = ask_bind k r next x (λ v y. along_bind (next v) y) (asked st k r x)

-- ---- what the code tells of an end

module _ {A V S : Type 0} (val : A → V) (y : S) where
  told_on : (e : End A S) (v : V) → told_at (Ok v) y ≡ shown val e → (a : A) × (val a ≡ v) × (e ≡ ok a y)
  unfolding told_at shown
  told_on (ok a x) v p = (a, cc p, λ i. ok a (place p i))
    where
      place : ok v y ≡ ok (val a) x → x ≡ y
      place q = cc
  told_on (no m x) v p = let z : ◌≡◌ {A = ℕ} 0 1 = cc p in absurd (omega arith)

  told_no : (e : End A S) (m : ℕ) → told_at {V = V} (Err m) y ≡ shown val e → e ≡ no m y
  unfolding told_at shown
  told_no (ok a x) m p = let z : ◌≡◌ {A = ℕ} 0 1 = cc p in absurd (omega arith)
  told_no (no k x) m p = λ i. no (number p i) (place p i)
    where
      number : ◌≡◌ {A = End V S} (no m y) (no k x) → k ≡ m
      number q = cc

      place : ◌≡◌ {A = End V S} (no m y) (no k x) → x ≡ y
      place q = cc

-- ---- two walks

module _ {A V S : Type 0} {st : Steps S} {p : Grammar A} {x y : S} {val : A → V} {r : Result V ℕ} (first : Comes st p x val r y) where
  -- what was found, where the first walk went on
  pub found : {v : V} → r ≡ Ok v → (a : A) × (val a ≡ v) × (along st p x ≡ ok a y)
  found {v} e = told_on val y (along st p x) v (ap (λ z. told_at z y) (sym e) ∙ first.told)

  pub refused : {m : ℕ} → r ≡ Err m → along st p x ≡ no m y
  refused {m} e = told_no val y (along st p x) m (ap (λ z. told_at z y) (sym e) ∙ first.told)

  -- it was refused: so is the whole
  pub seq_no : {B W : Type 0} (f : A → Grammar B) {val₂ : B → W} {r₂ : Result W ℕ} {m : ℕ} → r ≡ Err m → r₂ ≡ Err m → Comes st (bind p f) x val₂ r₂ y
  unfolding go_on told_at shown
  seq_no f {val₂} {r₂} e q = record {
    told = ap (λ z. told_at z y) q ∙ ap (shown val₂) (sym (along_bind st f p x ∙ ap (go_on st f) (refused e)));
  }

  -- it went on: the whole is the second walk over what was found
  pub seq_found : {B W : Type 0} (f : A → Grammar B) {val₂ : B → W} {v : V} {z : S} {r₂ : Result W ℕ} → r ≡ Ok v
      → ((a : A) → val a ≡ v → along st p x ≡ ok a y → Comes st (f a) y val₂ r₂ z) → Comes st (bind p f) x val₂ r₂ z
  unfolding go_on
  seq_found f {val₂} e second =
      let a = found e in
      record {
        told = (second a.0 a.1 a.2).told ∙ ap (shown val₂) (sym (along_bind st f p x ∙ ap (go_on st f) a.2));
      }

  -- of what was found only a value need be known
  pub seq_on : {B W : Type 0} (f : A → Grammar B) {val₂ : B → W} {v : V} {z : S} {r₂ : Result W ℕ} → r ≡ Ok v
      → ((a : A) → val a ≡ v → Comes st (f a) y val₂ r₂ z) → Comes st (bind p f) x val₂ r₂ z
  seq_on f e second = seq_found f e (λ a q g. second a q)

-- a number that was found is known
pub seq_at : {A B W S : Type 0} {st : Steps S} {p : Grammar A} (f : A → Grammar B) {x y z : S} {val₂ : B → W} {r : Result A ℕ} {r₂ : Result W ℕ} {v : A}
    → Comes st p x (λ a. a) r y → r ≡ Ok v → Comes st (f v) y val₂ r₂ z → Comes st (bind p f) x val₂ r₂ z
seq_at {st = st} f {y = y} {z = z} {val₂ = val₂} {r₂ = r₂} first e second =
    seq_on first f e (λ a q. subst (λ b. Comes st (f b) y val₂ r₂ z) (sym q) second)

-- ---- the end of a walk

module _ {A B V S : Type 0} (st : Steps S) (h : A → B) (val : A → V) (val₂ : B → V) (same : (a : A) → val₂ (h a) ≡ val a) where
  shown_last : (e : End A S) → shown val₂ (go_on st (λ a. done (h a)) e) ≡ shown val e
  unfolding go_on along shown
  shown_last (ok a x) = ap (λ v. ok v x) (same a)
  shown_last (no m x) = refl

  last_same : (p : Grammar A) (x : S) → shown val₂ (along st (bind p (λ a. done (h a))) x) ≡ shown val (along st p x)
  last_same p x = ap (shown val₂) (along_bind st (λ a. done (h a)) p x) ∙ shown_last (along st p x)

-- a tree is put together, with the same value
module _ {A B V S : Type 0} {st : Steps S} {p : Grammar A} (h : A → B) {x y : S} {val : A → V} {val₂ : B → V} {r : Result V ℕ} (same : (a : A) → val₂ (h a) ≡ val a) where
  pub seq_last : Comes st p x val r y → Comes st (bind p (λ a. done (h a))) x val₂ r y
  seq_last first = record { told = first.told ∙ sym (last_same st h val val₂ same p x) }

  -- and taken apart again
  pub seq_first : Comes st (bind p (λ a. done (h a))) x val₂ r y → Comes st p x val r y
  seq_first whole = record { told = whole.told ∙ last_same st h val val₂ same p x }

-- nothing is left to read
pub comes_done : {A V S : Type 0} {st : Steps S} {val : A → V} (a : A) (x : S) → Comes st (done a) x val (Ok (val a)) x
unfolding along told_at shown
comes_done a x = record { told = refl }

-- no node is allowed any more
pub comes_spent : {A V S : Type 0} {st : Steps S} {val : A → V} (k : FieldKind) (r : Range) (next : ℕ → Grammar A) (x : S) → spent r ≡ true
    → Comes st (ask k r next) x val (Err 6) x
unfolding along told_at shown
comes_spent k r next x e = record { told = rw e }

-- ---- a walk by its end

module _ {A V S : Type 0} {st : Steps S} {p : Grammar A} {x y : S} {val : A → V} {r : Result V ℕ} where
  pub comes_ok : {a : A} → along st p x ≡ ok a y → r ≡ Ok (val a) → Comes st p x val r y
  unfolding told_at shown
  comes_ok e q = record { told = ap (λ z. told_at z y) q ∙ ap (shown val) (sym e) }

  pub comes_no : {m : ℕ} → along st p x ≡ no m y → r ≡ Err m → Comes st p x val r y
  unfolding told_at shown
  comes_no e q = record { told = ap (λ z. told_at z y) q ∙ ap (shown val) (sym e) }

-- ---- another value, where what was found has it whatever it is

module _ {A V W S : Type 0} {st : Steps S} {p : Grammar A} {x y : S} {val : A → V} {val₂ : A → W} {r : Result V ℕ} (h : Comes st p x val r y) where
  pub told_on_with : (w : W) → ((a : A) → val₂ a ≡ w) → {v : V} → r ≡ Ok v → Comes st p x val₂ (Ok w) y
  told_on_with w same e = let f = found h e in comes_ok f.2 (λ i. Ok (sym (same f.0) i))

  pub told_no_with : {m : ℕ} → r ≡ Err m → Comes st p x val₂ (Err m) y
  told_no_with e = comes_no (refused h e) refl

-- ---- a field

module _ {V S : Type 0} {st : Steps S} (k : FieldKind) (r : Range) {val : ℕ → V} {x : S} (allowed : spent r ≡ false) where
  pub field_no : {m : ℕ} {q : Result V ℕ} → st.at (bits k) x ≡ Err m → q ≡ Err m → Comes st (field k r) x val q x
  unfolding field along told_at shown
  field_no e t = rw t (record { told = rw (allowed, e) })

  pub field_refused : {v m : ℕ} → st.at (bits k) x ≡ Ok v → test r v ≡ some m → Comes st (field k r) x val (Err m) x
  unfolding field along told_at shown
  field_refused e t = record { told = rw (allowed, e, t) }

  pub field_in : {v : ℕ} {q : V} {y : S} → st.at (bits k) x ≡ Ok v → test r v ≡ none → q ≡ val v → y ≡ st.past (bits k) v x → Comes st (field k r) x val (Ok q) y
  unfolding field along told_at shown
  field_in {v} e t n p = record { told = rw (allowed, e, t) (λ i. ok (n i) (p i)) }

here : {S : Type 0} (st : Steps S) {w : ℕ} {x : S} {f h : Field} → f ≡ st.at w x → f ≡ h → (k : FieldKind) → bits k ≡ w → st.at (bits k) x ≡ h
here st {x = x} g e k q = ap (λ n. st.at n x) q ∙ sym g ∙ e

-- a field whose range is told by two bounds
module _ {S : Type 0} {st : Steps S} {w least end m : ℕ} {x : S} {f : Field} (g : f ≡ st.at w x) where
  pub takes_no : {n : ℕ} {r : Field} → f ≡ Err n → r ≡ Err n → Takes st w least end m x r x
  takes_no e q = rw q (record { comes = λ k r b. field_no k r b.allowed (here st g e k b.wide) refl })

  module _ {v : ℕ} (e : f ≡ Ok v) (small : v < 2 ^ w) where
    pub takes_low : v < least → Takes st w least end m x (Err m) x
    takes_low h = record { comes = λ k r b. field_refused k r b.allowed (here st g e k b.wide) (b.told v small ∙ between_low least end m v h) }

    pub takes_high : least ≤ v → end ≤ v → Takes st w least end m x (Err m) x
    takes_high h i = record { comes = λ k r b. field_refused k r b.allowed (here st g e k b.wide) (b.told v small ∙ between_high least end m v h i) }

    pub takes_in : {y : S} → least ≤ v → v < end → y ≡ st.past w v x → Takes st w least end m x (Ok v) y
    takes_in {y} h i p = record {
      comes = λ k r b.
          field_in k r b.allowed (here st g e k b.wide) (b.told v small ∙ between_ok least end m v h i) refl
          (p ∙ ap (λ n. st.past n v x) (sym b.wide));
    }
