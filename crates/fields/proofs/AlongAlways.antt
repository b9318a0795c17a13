-- What is true of every tree that a grammar gives is true of what a walk along fields finds.
use Rattle.std.specs.Prelude.{Result, Ok, Err}
use Prim.Native.Nat.{ℕ, ◌<◌}
use mathlib.Core.Path.{◌≡◌, refl, sym, subst}
use mathlib.Core.Option.{Option, none, some}
use native.Mathlib.Omega.{arith}
use Rattle.fields.specs.Source.{Field}
use Rattle.fields.specs.Kinds.{FieldKind, bits, from_to, test}
use Rattle.fields.specs.Grammar.{Grammar, done, ask, field, on_field, tested}
use Rattle.fields.specs.Along.{Steps, asked, along, Comes}
use Rattle.fields.specs.Along.End.{ok, no}
use Rattle.fields.proofs.Always.{Always, field_below}
use Rattle.fields.proofs.Alongs.{found, comes_ok}

pub always_along : {A S : Type 0} (P : A → Type 0) (st : Steps S) (p : Grammar A) → Always P p → (x : S) (a : A) (y : S) → along st p x ≡ ok a y → P a
unfolding Always along
always_along P st (done b) h x a y e = subst P (same e) h
  where
    same : ok b x ≡ ok a y → b ≡ a
    same q = cc
always_along P st (ask k r next) h x a y e =
    go (λ v t z. always_along P st (next v) (h v t) (st.past (bits k) v x) a y z) (asked st k r x) e
  where
    under : (v : ℕ) → (test r v ≡ none → along st (next v) (st.past (bits k) v x) ≡ ok a y → P a) → (o : Option ℕ) → test r v ≡ o
        → tested o (along st (next v) (st.past (bits k) v x)) (λ m. no m x) ≡ ok a y → P a
    under v q none t z = q t z
    under v q (some m) t z = let z : ◌≡◌ {A = ℕ} 0 1 = cc in absurd (omega arith)

    go : ((v : ℕ) → test r v ≡ none → along st (next v) (st.past (bits k) v x) ≡ ok a y → P a) → (f : Field)
        → on_field f (λ v. tested (test r v) (along st (next v) (st.past (bits k) v x)) (λ m. no m x)) (λ m. no m x) ≡ ok a y → P a
    go q (Err m) z = let z : ◌≡◌ {A = ℕ} 0 1 = cc in absurd (omega arith)
    go q (Ok v) z = under v (q v) (test r v) refl z

module _ {A V S : Type 0} {st : Steps S} {p : Grammar A} {x y : S} {val : A → V} {r : Result V ℕ} {v : V} (h : Comes st p x val r y) (e : r ≡ Ok v) where
  -- what is true of the value of every tree is true of the value that a walk hands back
  pub always_handed : (Q : V → Type 0) → Always (λ a. Q (val a)) p → Q v
  always_handed Q k =
      let t = found h e in
      subst Q t.1 (always_along (λ a. Q (val a)) st p k x t.0 y t.2)

  -- a value that every tree has may be handed back
  pub always_told : {W : Type 0} (num : A → W) (n : W) → Always (λ a. num a ≡ n) p → Comes st p x num (Ok n) y
  always_told num n k =
      let t = found h e in
      comes_ok t.2 (λ i. Ok (sym (always_along (λ a. num a ≡ n) st p k x t.0 y t.2) i))

pub taken_below : {S : Type 0} {st : Steps S} (k : FieldKind) (least end : ℕ) {x y : S} {r : Field} {v : ℕ}
    → Comes st (field k (from_to least end)) x (λ v. v) r y → r ≡ Ok v → v < end
taken_below k least end h e = always_handed h e (λ v. v < end) (field_below k least end)
