-- What is true of every tree that a grammar gives, whatever the source.
use Rattle.std.specs.Prelude.{Ok, Err}
use Prim.Native.Nat.{ℕ, ◌<◌}
use mathlib.Core.Path.{◌≡◌, refl, sym, subst}
use mathlib.Core.List.{List}
use mathlib.Core.Option.{Option, none, some}
use native.Mathlib.Omega.{arith}
use Rattle.fields.specs.declared.Walker.{Walker}
use Rattle.fields.specs.Source.{Walk}
use Rattle.fields.proofs.Ranges.{passes_exactly}
use Rattle.fields.proofs.Seqs.{found, ran_ok}
use Rattle.fields.specs.Source.{Field}
use Rattle.fields.specs.Source.{Source}
use Rattle.fields.specs.Kinds.{FieldKind, bits, from_to, InRange, test}
use Rattle.fields.specs.Grammar.{Grammar, done, ask, bind, field, look, on_field, tested}
use Rattle.fields.specs.Run.{State, state, passed, run, Ran}
use Rattle.fields.specs.Run.Result.{ok, no}

unfoldable pub Always : {A : Type 0} → (A → Type 0) → Grammar A → Type 0
Always P (done a) = P a
Always P (ask k r next) = (v : ℕ) → test r v ≡ none → Always P (next v)

pub always_bind : {A B : Type 0} (P : A → Type 0) (Q : B → Type 0) (f : A → Grammar B) (p : Grammar A) → Always P p
    → ((a : A) → P a → Always Q (f a)) → Always Q (bind p f)
unfolding Always bind
always_bind P Q f (done a) h g = g a h
always_bind P Q f (ask k r next) h g = λ v t. always_bind P Q f (next v) (h v t) g

-- nothing need be known of what comes first
pub always_any : {A : Type 0} (p : Grammar A) → Always (λ a. Unit {0}) p
unfolding Always
always_any (done a) = tt
always_any (ask k r next) = λ v t. always_any (next v)

pub always_then : {A B : Type 0} (Q : B → Type 0) (f : A → Grammar B) (p : Grammar A) → ((a : A) → Always Q (f a))
    → Always Q (bind p f)
always_then Q f p g = always_bind (λ a. Unit {0}) Q f p (always_any p) (λ a h. g a)

pub always_run : {A : Type 0} (P : A → Type 0) (src : Source) (p : Grammar A) → Always P p → (σ : State) (a : A) (τ : State)
    → run src p σ ≡ ok a τ → P a
unfolding Always run
always_run P src (done b) h σ a τ e = subst P (same e) h
  where
    same : ok b σ ≡ ok a τ → b ≡ a
    same q = cc
always_run P src (ask k r next) h σ a τ e =
    go (λ v t x. always_run P src (next v) (h v t) (passed (bits k) v σ) a τ x) (look src k r σ.cursor) e
  where
    under : (v : ℕ) → (test r v ≡ none → run src (next v) (passed (bits k) v σ) ≡ ok a τ → P a) → (o : Option ℕ) → test r v ≡ o
        → tested o (run src (next v) (passed (bits k) v σ)) (λ m. no m σ) ≡ ok a τ → P a
    under v q none t x = q t x
    under v q (some m) t x = let z : ◌≡◌ {A = ℕ} 0 1 = cc in absurd (omega arith)

    go : ((v : ℕ) → test r v ≡ none → run src (next v) (passed (bits k) v σ) ≡ ok a τ → P a) → (f : Field)
        → on_field f (λ v. tested (test r v) (run src (next v) (passed (bits k) v σ)) (λ m. no m σ)) (λ m. no m σ) ≡ ok a τ → P a
    go q (Err m) x = let z : ◌≡◌ {A = ℕ} 0 1 = cc in absurd (omega arith)
    go q (Ok v) x = under v (q v) (test r v) refl x

pub always_weaken : {A : Type 0} (P Q : A → Type 0) → ((a : A) → P a → Q a) → (p : Grammar A) → Always P p → Always Q p
unfolding Always
always_weaken P Q f (done a) h = f a h
always_weaken P Q f (ask k r next) h = λ v t. always_weaken P Q f (next v) (h v t)

pub field_below : (k : FieldKind) (least end : ℕ) → Always (λ v. v < end) (field k (from_to least end))
unfolding Always field InRange
field_below k least end v t = ((passes_exactly (from_to least end) v).0 t).1.1

module _ {A : Type 0} {src : Source} {p : Grammar A} {c d : Walker} {ws bs ws₁ bs₁ : List ℕ} {val : A → ℕ} {r : Walk} {v : ℕ} (h : Ran src p c ws bs val r ws₁ bs₁) (e : r ≡ Ok (v, d)) where
  -- what is true of the number of every tree is true of the number that a walk hands back
  pub always_handed : (Q : ℕ → Type 0) → Always (λ a. Q (val a)) p → Q v
  always_handed Q k =
      let x = found h e in
      subst Q x.1 (always_run (λ a. Q (val a)) src p k (state c ws bs) x.0 (state d ws₁ bs₁) x.2)

  -- a number that every tree has may be handed back
  pub always_told : (num : A → ℕ) (n : ℕ) → Always (λ a. num a ≡ n) p → Ran src p c ws bs num (Ok (n, d)) ws₁ bs₁
  always_told num n k =
      let x = found h e in
      ran_ok x.2 (sym (always_run (λ a. num a ≡ n) src p k (state c ws bs) x.0 (state d ws₁ bs₁) x.2))

pub taken_below : {src : Source} (k : FieldKind) (least end : ℕ) {c d : Walker} {ws bs ws₁ bs₁ : List ℕ} {r : Walk} {v : ℕ}
    → Ran src (field k (from_to least end)) c ws bs (λ v. v) r ws₁ bs₁ → r ≡ Ok (v, d) → v < end
taken_below k least end h e = always_handed h e (λ v. v < end) (field_below k least end)
