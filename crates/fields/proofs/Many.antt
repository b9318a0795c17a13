-- Grammars of n things, one after the other, as a function that calls itself meets them.
use Rattle.std.specs.Prelude.{Ok}
use Prim.Native.Nat.{ℕ, zero, suc, ◌-◌}
use mathlib.Core.Path.{◌≡◌, refl, ◌∙◌, ap}
use mathlib.Core.List.{List, [], ◌∷◌}
use mathlib.Core.Logic.{◌≢◌}
use native.Mathlib.Omega.{arith}
use lib.ListN.{length}
use Rattle.fields.specs.declared.Walker.{Walker}
use Rattle.fields.specs.Source.{Walk}
use Rattle.fields.specs.Source.{Source}
use Rattle.fields.specs.Grammar.{Grammar, done, bind}
use Rattle.fields.specs.Run.{Ran}
use Rattle.fields.proofs.Seqs.{ran_done}
use Rattle.fields.proofs.Always.{Always, always_bind, always_then}

-- a grammar by a number, which asks for nothing at 0
module _ {B : Type 0} (p : ℕ → Grammar B) where
  pub at_none : (b : B) → p 0 ≡ done b → (n : ℕ) → n ≡ 0 → p n ≡ done b
  at_none b z n e = ap p e ∙ z

  pub at_some : (q : ℕ → Grammar B) → ((n : ℕ) → p (suc n) ≡ q n) → (n : ℕ) → n ≢ 0 → p n ≡ q (n - 1)
  at_some q s zero h = absurd (h refl)
  at_some q s (suc n) h = let e : n ≡ suc n - 1 = omega arith in s n ∙ ap q e

-- `many n x` asks for n things, the first by `one x`; what was found says the x of the next
pub record Rounds {A B : Type 0} (many : ℕ → ℕ → Grammar B) (one : ℕ → Grammar A) (next : ℕ → A → ℕ) (join : A → B → B) (end : ℕ → B) : Type 0 where
  pub none : (x : ℕ) → many 0 x ≡ done (end x)
  pub more : (n x : ℕ) → many (suc n) x ≡ bind (one x) λ a. bind (many n (next x a)) λ b. done (join a b)

-- `many n` asks for a list of n things, each by `one`; nothing is carried on
abbrev pub Many : {A B : Type 0} → (ℕ → Grammar (List B)) → Grammar A → (A → B) → Type 0
Many many one of = Rounds (λ n x. many n) (λ x. one) (λ x a. x) (λ a l. of a ∷ l) (λ x. [])

module _ {A B : Type 0} {many : ℕ → ℕ → Grammar B} {one : ℕ → Grammar A} {next : ℕ → A → ℕ} {join : A → B → B} {end : ℕ → B} (R : Rounds many one next join end) (n x : ℕ) where
  pub none_left : n ≡ 0 → many n x ≡ done (end x)
  none_left e = at_none (λ k. many k x) (end x) (R.none x) n e

  pub some_left : n ≢ 0 → many n x ≡ bind (one x) λ a. bind (many (n - 1) (next x a)) λ b. done (join a b)
  some_left h =
      at_some (λ k. many k x) (λ k. bind (one x) λ a. bind (many k (next x a)) λ b. done (join a b)) (λ k. R.more k x) n h

  module _ {src : Source} {val : B → ℕ} {c : Walker} {ws bs : List ℕ} where
    pub many_none : n ≡ 0 → Ran src (many n x) c ws bs val (Ok (val (end x), c)) ws bs
    many_none e = rw (none_left e) (ran_done (end x) c ws bs)

    pub many_some : {r : Walk} {ws₁ bs₁ : List ℕ} → n ≢ 0
        → Ran src (bind (one x) λ a. bind (many (n - 1) (next x a)) λ b. done (join a b)) c ws bs val r ws₁ bs₁
        → Ran src (many n x) c ws bs val r ws₁ bs₁
    many_some h k = rw (some_left h) k

-- there are n of them
pub many_length : {A B : Type 0} (many : ℕ → Grammar (List B)) (one : Grammar A) (of : A → B) → Many many one of → (n : ℕ)
    → Always (λ l. length l ≡ n) (many n)
unfolding Always
many_length many one of M zero = rw (M.none 0) refl
many_length many one of M (suc n) =
    rw (M.more n 0)
    (always_then (λ l. length l ≡ suc n) _ one
    (λ a. always_bind (λ l. length l ≡ n) (λ l. length l ≡ suc n) _ (many n) (many_length many one of M n)
    (λ l h. omega arith)))
