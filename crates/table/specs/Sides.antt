-- A side of the table, 3,072 words for at most 1,024 nodes, and what pushing does to it.
use Rattle.std.specs.Prelude.{ℕ, ◌+◌, ◌%◌, ◌≤◌, ◌<◌, ◌^◌, ◌≡◌, List, [], ◌∷◌, length, get_or}
use Rattle.patterns.specs.Term.{Node, npow}
use Rattle.patterns.specs.First.{Exp, exponents, shift}
use Rattle.patterns.specs.Push.{pushes}
use Rattle.table.specs.Places.{SIDE, NODES}
use Rattle.table.specs.Nodes.{node_of, stack, load}
use Rattle.table.specs.declared.Item.{Item}
use Rattle.table.specs.declared.Item.TheVariants.{Plain, Power}
use Rattle.std.specs.Prelude.{Option, Some, None}

-- the node that the code hands over
unfoldable pub node_told : Item → Node Exp
node_told (Plain code) = node_of code 0 0
node_told (Power s a b) = npow s (a, b)

-- the word of a variable or a symbol is not one that tells a power
unfoldable pub Coded : Item → Type 0
Coded (Plain code) = ¬ (code % 3 ≡ 2)
Coded (Power s a b) = Unit {0}

-- a power of s reindexed by (i, j), with numbers far below what a word holds
pub record Reindexed (s a b i j : ℕ) (r : Item) : Type 0 where
  pub node : node_told r ≡ npow s (shift (i, j) (a, b))
  pub light : load (node_told r ∷ []) < 2 ^ 34
  pub coded : Coded r

-- the side at `base` lies within the table, and n nodes are no more than it can hold
pub record Room (base n : ℕ) (w : List ℕ) : Type 0 where
  pub within : base + SIDE ≤ length w
  pub few : n ≤ NODES

-- no word has changed but the `room` words from `base` on
pub record Kept (base room : ℕ) (w after : List ℕ) : Type 0 where
  pub size : length after ≡ length w
  pub low : (k : ℕ) → k < base → get_or after k 0 ≡ get_or w k 0
  pub high : (k : ℕ) → base + room ≤ k → get_or after k 0 ≡ get_or w k 0

-- the answer for a stack that is wanted: it stands at `base`, or has more than 1,024 nodes
unfoldable pub Stacked : ℕ → List (Node Exp) → List ℕ → Option ℕ → Type 0
Stacked base wanted after (Some k) = (k ≤ NODES) × (stack after base k ≡ wanted)
Stacked base wanted after None = NODES < length wanted

-- the side at `base` became the stack that is wanted, or has no room for it, and nothing else has changed
pub record Became (base : ℕ) (wanted : List (Node Exp)) (w after : List ℕ) (r : Option ℕ) : Type 0 where
  pub holds : Stacked base wanted after r
  pub kept : Kept base SIDE w after

-- the nodes ms were pushed, one after the other, on a side of n nodes
abbrev pub Pushes : ℕ → ℕ → List (Node Exp) → List ℕ → List ℕ → Option ℕ → Type 0
Pushes base n ms w after r = Became base (pushes exponents (stack w base n) ms) w after r
