-- Nodes that come again: some of a side's, and where nothing merges with the last.
use Rattle.std.specs.Prelude.{ℕ, zero, suc, ◌+◌, ◌*◌, ◌≡◌, List, [], ◌∷◌}
use Rattle.patterns.specs.Term.{Node, npow}
use Rattle.patterns.specs.First.{Exp, exponents}
use Rattle.patterns.specs.Push.{put}
use Rattle.table.specs.Nodes.{node_at}

-- a power that comes next is a node of its own
abbrev pub Closed : List (Node Exp) → Type 0
Closed ns = (s : ℕ) (e : Exp) → put exponents s e ns ≡ npow s e ∷ ns

-- the nodes with the numbers from `start` on, so many, the last on top
unfoldable pub part : List ℕ → ℕ → ℕ → ℕ → List (Node Exp)
part w base start zero = []
part w base start (suc k) = node_at w (base + 3 * (start + k)) ∷ part w base start k
