-- A walk that gives something for each node: what the nodes met so far gave, with what the next one gives, is what the whole walk gives.
use Prim.Native.Nat.{ℕ}
use mathlib.Core.Path.{◌≡◌, sym, ap, ◌∙◌}
use mathlib.Core.List.{List, ◌++◌, flat_map}
use Rattle.patterns.specs.Term.{Node}
use Rattle.patterns.specs.First.{Exp}
use Rattle.std.specs.Prelude.{Some, None}
use Rattle.instances.specs.Walks.{single, Passage, walk, walked}
use Rattle.instances.specs.Turns.{Turns}
use Rattle.instances.specs.declared.Header.{Header}
use Rattle.instances.specs.declared.nodes.Walk.{Walk}
use Rattle.instances.proofs.Goings.{Going, going_over, going_more}
use Rattle.instances.proofs.Loads.{flat_map_append}

-- what the whole walk gives
abbrev pub given : (Node Exp → List (Node Exp)) → List ℕ → List ℕ → ℕ → List (Node Exp)
given f book s at = flat_map f (walked book s at).met

module _ {P : List (Node Exp) → Type 0} {book s : List ℕ} {at : ℕ} {t : Walk} (f : Node Exp → List (Node Exp)) (g : Going P book s at t) where
  met_of : (v : Passage) → walked book s at ≡ v → flat_map f v.met ≡ given f book s at
  met_of v e = ap (λ (u : Passage). flat_map f u.met) (sym e)

  -- under way
  pub given_rest : flat_map f g.met ++ flat_map f (walk book s t.left t.stand).met ≡ given f book s at
  given_rest = sym (flat_map_append f g.met (walk book s t.left t.stand).met) ∙ met_of _ g.whole

  pub given_over : {u : Walk} → Turns t u None → flat_map f g.met ≡ given f book s at
  given_over n = met_of _ (going_over g n)

  -- with the next node
  pub given_more : {u : Walk} {h : Header} → Turns t u (Some h)
      → flat_map f (g.met ++ single h) ++ flat_map f (walk book s u.left u.stand).met ≡ given f book s at
  given_more {h = h} n = sym (flat_map_append f (g.met ++ single h) _) ∙ met_of _ (going_more g n)
