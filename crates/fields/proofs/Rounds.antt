-- Grammars of n things, one after the other, as a loop meets them: what is left to walk comes to what the whole comes to.
use Rattle.std.specs.Prelude.{Ok, Err}
use Prim.Native.Nat.{ℕ, ◌-◌, ◌≤◌, ◌<◌}
use mathlib.Core.Path.{◌≡◌}
use mathlib.Core.List.{List}
use native.Mathlib.Omega.{arith}
use Rattle.fields.specs.declared.Walker.{Walker}
use Rattle.fields.specs.Source.{Walk}
use Rattle.fields.specs.Source.{Source}
use Rattle.fields.specs.Grammar.{Grammar}
use Rattle.fields.specs.Run.{Ran}
use Rattle.fields.proofs.Seqs.{seq_no, seq_on, seq_last}
use Rattle.fields.proofs.Many.{Rounds, many_none, many_some}

-- `p` at c leads to `q` at d: whatever the walk over `q` comes to, the walk over `p` comes to
pub record Leads {A B : Type 0} (src : Source) (p : Grammar A) (c : Walker) (ws bs : List ℕ) (val : A → ℕ) (q : Grammar B) (d : Walker) (ws₁ bs₁ : List ℕ) (val₁ : B → ℕ) : Type 0 where
  pub whole : {r : Walk} {ws₂ bs₂ : List ℕ} → Ran src q d ws₁ bs₁ val₁ r ws₂ bs₂ → Ran src p c ws bs val r ws₂ bs₂

pub leads_here : {A : Type 0} {src : Source} {p : Grammar A} {c : Walker} {ws bs : List ℕ} {val : A → ℕ}
    → Leads src p c ws bs val p c ws bs val
leads_here = record { whole = λ h. h }

-- a loop over n things, of which n are left at d
module _ {A B C : Type 0} {many : ℕ → ℕ → Grammar B} {one : ℕ → Grammar A} {next : ℕ → A → ℕ} {join : A → B → B} {end : ℕ → B} (R : Rounds many one next join end) {src : Source} {p : Grammar C} {c d : Walker} {ws bs ws₁ bs₁ : List ℕ} {val : C → ℕ} {val₁ : B → ℕ} (n x : ℕ) (L : Leads src p c ws bs val (many n x) d ws₁ bs₁ val₁) where
  pub rounds_end : n ≤ 0 → Ran src p c ws bs val (Ok (val₁ (end x), d)) ws₁ bs₁
  rounds_end e = L.whole (many_none R n x (omega arith))

  module _ {r : Walk} {ws₂ bs₂ : List ℕ} {num : A → ℕ} {e : Walker} (some : 0 < n) (first : Ran src (one x) d ws₁ bs₁ num r ws₂ bs₂) where
    pub rounds_no : {m : ℕ} → r ≡ Err (m, e) → Ran src p c ws bs val (Err (m, e)) ws₂ bs₂
    rounds_no q = L.whole (many_some R n x (λ z. omega arith) (seq_no first _ q))

    -- putting a tree together does not change the number that is handed back
    pub rounds_on : {v : ℕ} (y : ℕ) → r ≡ Ok (v, e) → ((a : A) → num a ≡ v → next x a ≡ y)
        → ((a : A) (b : B) → val₁ (join a b) ≡ val₁ b)
        → Leads src p c ws bs val (many (n - 1) y) e ws₂ bs₂ val₁
    rounds_on y q to same = record {
      whole = λ k. L.whole (many_some R n x (λ z. omega arith) (seq_on first _ q (λ a g. seq_last _ (same a) (rw (to a g) k))));
    }
