-- One walk after the other: what the code's two calls come to for `bind`.
use Rattle.std.specs.Prelude.{Ok, Err}
use mathlib.Core.Path.{◌≡◌, refl, sym, ap, ◌∙◌, subst}
use mathlib.Core.List.{List}
use mathlib.Core.Option.{Option, none, some}
use Prim.Native.Nat.{ℕ}
use native.Mathlib.Omega.{arith}
use Rattle.fields.specs.declared.Walker.{Walker}
use Rattle.fields.specs.Source.{Field}
use Rattle.fields.specs.Source.{Walk}
use Rattle.fields.specs.Source.{Source}
use Rattle.fields.specs.Kinds.{FieldKind, bits, Range, test}
use Rattle.fields.specs.Grammar.{Grammar, done, ask, bind, look, on_field, tested}
use Rattle.fields.specs.Run.{State, state, passed, Result, run, Shown, shown, Ran}
use Rattle.fields.specs.Run.Result.{ok, no}

-- a run from a walker that is known
pub ran_at : {A : Type 0} {src : Source} {p : Grammar A} {c d : Walker} {ws bs ws₁ bs₁ : List ℕ} {val : A → ℕ} {r : Walk} → c ≡ d
    → Ran src p c ws bs val r ws₁ bs₁ → Ran src p d ws bs val r ws₁ bs₁
ran_at {src = src} {p = p} {ws = ws} {bs = bs} {ws₁ = ws₁} {bs₁ = bs₁} {val = val} {r = r} e h =
    subst (λ (x : Walker). Ran src p x ws bs val r ws₁ bs₁) e h

-- ---- a run of `bind`

module _ {A B : Type 0} (src : Source) (f : A → Grammar B) where
  unfoldable pub go_on : Result A → Result B
  go_on (ok a σ) = run src (f a) σ
  go_on (no m σ) = no m σ

  ask_bind : (k : FieldKind) (r : Range) (next : ℕ → Grammar A) (σ : State)
      → ((v : ℕ) (τ : State) → run src (bind (next v) f) τ ≡ go_on (run src (next v) τ))
      → (x : Field)
      → on_field x (λ v. tested (test r v) (run src (bind (next v) f) (passed (bits k) v σ)) (λ m. no m σ)) (λ m. no m σ)
      ≡ go_on (on_field x (λ v. tested (test r v) (run src (next v) (passed (bits k) v σ)) (λ m. no m σ)) (λ m. no m σ))
  unfolding go_on
  ask_bind k r next σ ih (Err m) = refl
  ask_bind k r next σ ih (Ok v) = under (test r v)
    where
      under : (o : Option ℕ)
          → tested o (run src (bind (next v) f) (passed (bits k) v σ)) (λ m. no m σ)
          ≡ go_on (tested o (run src (next v) (passed (bits k) v σ)) (λ m. no m σ))
      under none = ih v (passed (bits k) v σ)
      under (some m) = refl

  pub run_bind : (p : Grammar A) (σ : State) → run src (bind p f) σ ≡ go_on (run src p σ)
  unfolding run bind go_on
  run_bind (done a) σ = refl
  run_bind (ask k r next) σ = ask_bind k r next σ (λ v τ. run_bind (next v) τ) (look src k r σ.cursor)

-- ---- what a walk shows of a result

module _ {A : Type 0} (val : A → ℕ) (d : Walker) (ws bs : List ℕ) where
  abbrev showing : Walk → Shown
  showing r = record { walk = r; words = ws; bytes = bs }

  shown_on : (x : Result A) (v : ℕ) → showing (Ok (v, d)) ≡ shown val x → (a : A) × (val a ≡ v) × (x ≡ ok a (state d ws bs))
  shown_on (ok a σ) v p =
      let q = ap (λ (s : Shown). s.walk) p in
      let t : ◌≡◌ {A = ℕ × Walker} (v, d) (val a, σ.cursor) = cc q in
      (a, sym (ap (λ (u : ℕ × Walker). u.0) t), λ i. ok a (record { cursor = (sym (ap (λ (u : ℕ × Walker). u.1) t)) (i); words = (ap (λ (s : Shown). s.words) (sym p)) i; bytes = (ap (λ (s : Shown). s.bytes) (sym p)) i }))
  shown_on (no m σ) v p =
      let q = ap (λ (s : Shown). s.walk) p in
      let z : ◌≡◌ {A = ℕ} 0 1 = cc q in absurd (omega arith)

  shown_no : (x : Result A) (m : ℕ) → showing (Err (m, d)) ≡ shown val x → x ≡ no m (state d ws bs)
  shown_no (ok a σ) m p =
      let q = ap (λ (s : Shown). s.walk) p in
      let z : ◌≡◌ {A = ℕ} 0 1 = cc q in absurd (omega arith)
  shown_no (no k σ) m p =
      let q = ap (λ (s : Shown). s.walk) p in
      let t : ◌≡◌ {A = ℕ × Walker} (m, d) (k, σ.cursor) = cc q in
      λ i. no (sym (ap (λ (u : ℕ × Walker). u.0) t) i) (record { cursor = (sym (ap (λ (u : ℕ × Walker). u.1) t)) (i); words = (ap (λ (s : Shown). s.words) (sym p)) i; bytes = (ap (λ (s : Shown). s.bytes) (sym p)) i })

-- ---- two walks

module _ {A : Type 0} {src : Source} {p : Grammar A} {c : Walker} {ws bs : List ℕ} {val : A → ℕ} {r : Walk} {ws₁ bs₁ : List ℕ} (first : Ran src p c ws bs val r ws₁ bs₁) where
  -- what was found, where the first walk went on
  pub found : {v : ℕ} {d : Walker} → r ≡ Ok (v, d)
      → (a : A) × (val a ≡ v) × (run src p (state c ws bs) ≡ ok a (state d ws₁ bs₁))
  found {v} {d} e =
      shown_on val d ws₁ bs₁ (run src p (state c ws bs)) v
      (subst (λ x. record { walk = x; words = ws₁; bytes = bs₁ } ≡ shown val (run src p (state c ws bs))) e first.told)

  pub refused : {m : ℕ} {d : Walker} → r ≡ Err (m, d) → run src p (state c ws bs) ≡ no m (state d ws₁ bs₁)
  refused {m} {d} e =
      shown_no val d ws₁ bs₁ (run src p (state c ws bs)) m
      (subst (λ x. record { walk = x; words = ws₁; bytes = bs₁ } ≡ shown val (run src p (state c ws bs))) e first.told)

  -- it was refused: so is the whole
  pub seq_no : {B : Type 0} (f : A → Grammar B) {val₂ : B → ℕ} {m : ℕ} {d : Walker} → r ≡ Err (m, d)
      → Ran src (bind p f) c ws bs val₂ (Err (m, d)) ws₁ bs₁
  unfolding go_on
  seq_no f {val₂} {m} {d} e = record {
    told = ap (shown val₂) (sym (run_bind src f p (state c ws bs) ∙ ap (go_on src f) (refused e)));
  }

  -- it went on: the whole is the second walk over what was found
  pub seq_found : {B : Type 0} (f : A → Grammar B) {val₂ : B → ℕ} {v : ℕ} {d : Walker} {r₂ : Walk} {ws₂ bs₂ : List ℕ}
      → r ≡ Ok (v, d)
      → ((a : A) → run src p (state c ws bs) ≡ ok a (state d ws₁ bs₁) → Ran src (f a) d ws₁ bs₁ val₂ r₂ ws₂ bs₂)
      → Ran src (bind p f) c ws bs val₂ r₂ ws₂ bs₂
  unfolding go_on
  seq_found f {val₂} e second =
      let a = found e in
      record {
        told =
            (second a.0 a.2).told
            ∙ ap (shown val₂) (sym (run_bind src f p (state c ws bs) ∙ ap (go_on src f) a.2));
      }

  -- of what was found only a number need be known
  pub seq_on : {B : Type 0} (f : A → Grammar B) {val₂ : B → ℕ} {v : ℕ} {d : Walker} {r₂ : Walk} {ws₂ bs₂ : List ℕ} → r ≡ Ok (v, d)
      → ((a : A) → val a ≡ v → Ran src (f a) d ws₁ bs₁ val₂ r₂ ws₂ bs₂) → Ran src (bind p f) c ws bs val₂ r₂ ws₂ bs₂
  unfolding go_on
  seq_on f {val₂} e second =
      let a = found e in
      record {
        told = (second a.0 a.1).told
            ∙ ap (shown val₂) (sym (run_bind src f p (state c ws bs) ∙ ap (go_on src f) a.2));
      }

-- a number that was found is known
pub seq_at : {B : Type 0} {src : Source} {p : Grammar ℕ} (f : ℕ → Grammar B) {c d : Walker} {ws bs ws₁ bs₁ ws₂ bs₂ : List ℕ}
    {val₂ : B → ℕ} {r r₂ : Walk} {v : ℕ}
    → Ran src p c ws bs (λ v. v) r ws₁ bs₁ → r ≡ Ok (v, d) → Ran src (f v) d ws₁ bs₁ val₂ r₂ ws₂ bs₂
    → Ran src (bind p f) c ws bs val₂ r₂ ws₂ bs₂
seq_at {src} f {d} {ws₁} {bs₁} {ws₂} {bs₂} {val₂} {r₂} first e second =
    seq_on first f e (λ a q. subst (λ x. Ran src (f x) d ws₁ bs₁ val₂ r₂ ws₂ bs₂) (sym q) second)

-- ---- the end of a walk

shown_last : {A B : Type 0} (src : Source) (h : A → B) (val : A → ℕ) (val₂ : B → ℕ) → ((a : A) → val₂ (h a) ≡ val a)
    → (x : Result A) → shown val₂ (go_on src (λ a. done (h a)) x) ≡ shown val x
unfolding go_on run
shown_last src h val val₂ same (ok a σ) =
    ap (λ (v : ℕ). record { walk = Ok (v, σ.cursor); words = σ.words; bytes = σ.bytes }) (same a)
shown_last src h val val₂ same (no m σ) = refl

-- a tree is put together, with the same number
pub seq_last : {A B : Type 0} {src : Source} {p : Grammar A} (h : A → B) {c : Walker} {ws bs ws₁ bs₁ : List ℕ} {val : A → ℕ} {val₂ : B → ℕ} {r : Walk}
    → ((a : A) → val₂ (h a) ≡ val a) → Ran src p c ws bs val r ws₁ bs₁
    → Ran src (bind p (λ a. done (h a))) c ws bs val₂ r ws₁ bs₁
seq_last {src} {p} h {c} {ws} {bs} {val} {val₂} same first = record {
  told =
      first.told
      ∙ sym
      (ap (shown val₂) (run_bind src (λ a. done (h a)) p (state c ws bs))
      ∙ shown_last src h val val₂ same (run src p (state c ws bs)));
}

-- nothing is left to read
pub ran_done : {A : Type 0} {src : Source} {val : A → ℕ} (a : A) (c : Walker) (ws bs : List ℕ)
    → Ran src (done a) c ws bs val (Ok (val a, c)) ws bs
unfolding run
ran_done a c ws bs = record { told = refl }

-- ---- a walk by its result

module _ {A : Type 0} {src : Source} {p : Grammar A} {c d : Walker} {ws bs ws₁ bs₁ : List ℕ} {val : A → ℕ} where
  pub ran_ok : {a : A} {v : ℕ} → run src p (state c ws bs) ≡ ok a (state d ws₁ bs₁) → v ≡ val a
      → Ran src p c ws bs val (Ok (v, d)) ws₁ bs₁
  ran_ok e q = record {
    told = ap (λ (n : ℕ). record { walk = Ok (n, d); words = ws₁; bytes = bs₁ }) q ∙ ap (shown val) (sym e);
  }
