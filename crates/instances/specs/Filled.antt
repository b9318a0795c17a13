-- The nodes that an instance takes for each node of its pattern, and as what a node comes.
use Rattle.std.specs.Prelude.{ℕ, ◌-◌, ◌<◌, ◌^◌, ◌≡◌, List, [], ◌∷◌, cond, eqb}
use Rattle.patterns.specs.Term.{Node, nvar, nfun, npow}
use Rattle.patterns.specs.First.{Exp, exponents, shift}
use Rattle.patterns.specs.Push.{push, pushes, retag}
use Rattle.table.specs.Nodes.{load}
use Rattle.table.specs.Sides.{node_told, Coded}
use Rattle.table.specs.declared.Item.{Item}
use Rattle.instances.specs.Fillings.{entry}
use Rattle.instances.specs.Walks.{single, walked}
use Rattle.instances.specs.declared.Header.{Header}
use Rattle.instances.specs.declared.Header.TheVariants.{Variable, Symbol, Power, Missing}

-- the word of a filling for a node: 0, unless it is a variable that is listed
unfoldable pub word_of : List ℕ → ℕ → Header → ℕ
word_of w fills (Variable x c) = entry w fills x
word_of w fills (Symbol f n c) = 0
word_of w fills (Power s a b c) = 0
word_of w fills Missing = 0

-- a node comes, reindexed by (i, j), and its numbers are far below what a word holds
pub record ComesAs (i j : ℕ) (h : Header) (r : Item) : Type 0 where
  pub node : (ns : List (Node Exp)) → push exponents ns (node_told r) ≡ pushes exponents ns (retag (shift (i, j)) (single h))
  pub light : load (node_told r ∷ []) < 2 ^ 34
  pub coded : Coded r

-- a node by itself
abbrev pub itself : Node Exp → List (Node Exp)
itself m = m ∷ []

-- a listed variable gives way to its term's nodes as they stand; a power is reindexed
unfoldable pub filled : (book cert w : List ℕ) (fills i j : ℕ) → Node Exp → List (Node Exp)
filled book cert w fills i j (nvar x) =
    cond (eqb (entry w fills x) 0) (nvar x ∷ []) (walked book cert (entry w fills x - 1)).met
filled book cert w fills i j (nfun f) = nfun f ∷ []
filled book cert w fills i j (npow s e) = npow s (shift (i, j) e) ∷ []
