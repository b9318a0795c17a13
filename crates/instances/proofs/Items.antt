-- As what a node comes: by the word that tells it, or as a power with its numbers reindexed.
use Prim.Native.Nat.{ℕ, ◌+◌, ◌*◌}
use mathlib.Core.Path.{◌≡◌, ap, ◌∙◌}
use mathlib.Core.List.{[], ◌∷◌}
use native.Mathlib.Omega.{arith}
use Rattle.patterns.specs.Term.{Node, nvar, nfun}
use Rattle.patterns.specs.First.{Exp, exponents}
use Rattle.patterns.specs.Push.{push, pushes, retag}
use Rattle.table.specs.Nodes.{node_of, load}
use Rattle.table.specs.Sides.{node_told, Coded, Reindexed}
use Rattle.table.specs.declared.Item.{Item}
use Rattle.table.specs.declared.Item.TheVariants.{Plain, Power as Raised}
use Rattle.table.proofs.Nodes.{var_told, fun_told}
use Rattle.table.proofs.Pushing.{push_none}
use Rattle.bits.specs.declared.Cursor.{Cursor}
use Rattle.instances.specs.Walks.{single}
use Rattle.instances.specs.Filled.{ComesAs}
use Rattle.instances.specs.declared.Header.{Header}
use Rattle.instances.specs.declared.Header.TheVariants.{Variable, Symbol, Power, Missing}

no_load : (m : Node Exp) (code : ℕ) → node_of code 0 0 ≡ m → load (m ∷ []) ≡ 0 → load (node_of code 0 0 ∷ []) ≡ 0
no_load m code e z = ap (λ k. load (k ∷ [])) e ∙ z

module _ {i j : ℕ} {h : Header} where
  pub item_variable : {x : ℕ} {c : Cursor} → h ≡ Variable x c → ComesAs i j h (Plain (3 * x))
  unfolding node_told Coded retag single pushes load
  item_variable {x} e = rw e
      (record {
        node = λ ns. ap (push exponents ns) (var_told x 0 0);
        light = omega (arith, no_load (nvar x) (3 * x) (var_told x 0 0) (omega arith));
        coded = λ z. omega arith;
      })

  pub item_symbol : {f n : ℕ} {c : Cursor} → h ≡ Symbol f n c → ComesAs i j h (Plain (3 * f + 1))
  unfolding node_told Coded retag single pushes load
  item_symbol {f} e = rw e
      (record {
        node = λ ns. ap (push exponents ns) (fun_told f 0 0);
        light = omega (arith, no_load (nfun f) (3 * f + 1) (fun_told f 0 0) (omega arith));
        coded = λ z. omega arith;
      })

  pub item_power : {s a b : ℕ} {c : Cursor} {m : Item} → h ≡ Power s a b c → Reindexed s a b i j m → ComesAs i j h m
  unfolding retag single pushes
  item_power e d = rw e (record { node = λ ns. ap (push exponents ns) d.node; light = d.light; coded = d.coded })

  pub item_missing : h ≡ Missing → ComesAs i j h (Raised 0 0 0)
  unfolding node_told Coded retag single pushes load
  item_missing e = rw e (record { node = λ ns. push_none ns 0 0 0 (omega arith); light = omega arith; coded = tt })
