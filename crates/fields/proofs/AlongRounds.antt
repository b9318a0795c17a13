-- Grammars of n things, one after the other, as a loop along fields meets them: what is left to walk comes to what the whole comes to.
use Rattle.std.specs.Prelude.{Result, Ok, Err}
use Prim.Native.Nat.{ℕ, suc, ◌+◌}
use mathlib.Core.Path.{◌≡◌, ◌∙◌, ap}
use native.Mathlib.Omega.{arith}
use Rattle.fields.specs.Grammar.{Grammar, done, bind}
use Rattle.fields.specs.Along.{Steps, Comes}
use Rattle.fields.proofs.Many.{Rounds, none_left}
use Rattle.fields.proofs.Alongs.{seq_no, seq_on, seq_last, comes_done}

-- `p` at x leads to `q` at y: whatever the walk over `q` comes to, the walk over `p` comes to
pub record LeadsTo {A B V S : Type 0} (st : Steps S) (p : Grammar A) (x : S) (val : A → V) (q : Grammar B) (y : S) (val₁ : B → V) : Type 0 where
  pub whole : {r : Result V ℕ} {z : S} → Comes st q y val₁ r z → Comes st p x val r z

pub leads_here : {A V S : Type 0} {st : Steps S} {p : Grammar A} {x : S} {val : A → V} → LeadsTo st p x val p x val
leads_here = record { whole = λ h. h }

-- a loop over n things, of which n are left at y
module _ {A B C V S : Type 0} {many : ℕ → ℕ → Grammar B} {one : ℕ → Grammar A} {next : ℕ → A → ℕ} {join : A → B → B} {end : ℕ → B} (R : Rounds many one next join end) {st : Steps S} {p : Grammar C} {x y : S} {val : C → V} {val₁ : B → V} (n k : ℕ) (L : LeadsTo st p x val (many n k) y val₁) where
  pub rounds_end : n ≡ 0 → Comes st p x val (Ok (val₁ (end k))) y
  rounds_end e = L.whole (rw (none_left R n k e) (comes_done (end k) y))

  -- one more, behind which m are left
  module _ {W : Type 0} (m : ℕ) {r : Result W ℕ} {num : A → W} {z : S} (some : n ≡ m + 1) (first : Comes st (one k) y num r z) where
    step : many n k ≡ bind (one k) λ a. bind (many m (next k a)) λ b. done (join a b)
    step = ap (λ i. many i k) (let e : n ≡ suc m = omega arith in e) ∙ R.more m k

    pub rounds_no : {r₂ : Result V ℕ} {i : ℕ} → r ≡ Err i → r₂ ≡ Err i → Comes st p x val r₂ z
    rounds_no q t = L.whole (rw step (seq_no first _ q t))

    -- putting a tree together does not change the value that is handed back
    pub rounds_on : {v : W} (j : ℕ) → r ≡ Ok v → ((a : A) → num a ≡ v → next k a ≡ j)
        → ((a : A) (b : B) → val₁ (join a b) ≡ val₁ b) → LeadsTo st p x val (many m j) z val₁
    rounds_on j q to same = record {
      whole = λ h.
          L.whole (rw step (seq_on first _ q (λ a g. seq_last _ (same a) (rw (to a g) h))));
    }
