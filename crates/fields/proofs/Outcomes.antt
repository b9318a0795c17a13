-- A run with outputs tells the outcome without them.
use Prim.Native.Nat.{ℕ}
use mathlib.Core.Path.{◌≡◌, sym, ◌∙◌}
use mathlib.Core.List.{List}
use native.Mathlib.Omega.{arith}
use Rattle.fields.specs.declared.Walker.{Walker}
use Rattle.fields.specs.Source.{Source}
use Rattle.fields.specs.Grammar.{Grammar, Outcome, outcome}
use Rattle.fields.specs.Grammar.Outcome.{ok, no}
use Rattle.fields.specs.Run.{State, state, Result, run}
use Rattle.fields.proofs.Sinks.{sunk, run_sunk}

module _ {A : Type 0} (src : Source) (p : Grammar A) (c : Walker) (ws bs : List ℕ) where
  pub outcome_of_ok : {a : A} {τ : State} → run src p (state c ws bs) ≡ Result.ok a τ → outcome src p c ≡ ok a τ.cursor
  outcome_of_ok {a} {τ} e = go (outcome src p c) _ _ (sym (run_sunk src p c ws bs) ∙ e)
    where
      go : (o : Outcome A) (us vs : List ℕ) → sunk o us vs ≡ Result.ok a τ → o ≡ ok a τ.cursor
      go (ok b d) us vs q =
          let p : b ≡ a = cc in
          let s : state d us vs ≡ τ = cc in
          λ i. ok (p i) (s i).cursor
      go (no m d) us vs q = let z : ◌≡◌ {A = ℕ} 0 1 = cc in absurd (omega arith)
