-- A call as it stands in the work table, node after node, and what is left of it from a place on.
use Rattle.std.specs.Prelude.{ℕ, zero, suc, ◌+◌, ◌*◌, ◌-◌, ◌≤◌, ◌<◌, ◌≡◌, List, [], ◌∷◌, length, get_or}
use Rattle.patterns.specs.Term.{Node, nvar, nfun, npow}
use Rattle.patterns.specs.First.{Exp}
use Rattle.covering.specs.Left.{Left, behind}
use Rattle.covering.specs.Search.{number}
use Rattle.table.specs.Places.{WORDS, NODES, FIRST, ENDS}
use Rattle.table.specs.Nodes.{node_at}
use Rattle.calls.specs.declared.Place.{Place}

-- a node of a call, whose powers have no index
unfoldable pub counted : Node Exp → Node ℕ
counted (nvar x) = nvar x
counted (nfun f) = nfun f
counted (npow s e) = npow s (number e)

-- the node of number j
unfoldable pub counted_node : List ℕ → ℕ → Node ℕ
counted_node w j = counted (node_at w (FIRST + 3 * j))

-- the n nodes from number j on
unfoldable pub nodes_from : List ℕ → ℕ → ℕ → Left
nodes_from w j zero = []
nodes_from w j (suc n) = counted_node w j ∷ nodes_from w (suc j) n

-- what is left of a call of k nodes from number j on
unfoldable pub rest : List ℕ → ℕ → ℕ → Left
rest w k j = nodes_from w j (k - j)

-- n applications taken off a node, if it is a power
unfoldable pub less : ℕ → Node ℕ → Node ℕ
less n (nvar x) = nvar x
less n (nfun f) = nfun f
less n (npow s m) = npow s (m - n)

unfoldable pub lessened : ℕ → Left → Left
lessened n [] = []
lessened n (m ∷ ms) = less n m ∷ ms

-- what is left from a place on, which may lie inside a power
unfoldable pub left_at : List ℕ → ℕ → Place → Left
left_at w k p = lessened p.used (rest w k p.node)

-- ---- where each term ends

-- the word that says where the term of node j ends
unfoldable pub end_of : List ℕ → ℕ → ℕ
end_of w j = get_or w (ENDS + j) 0

-- of the k nodes, those from number j on end behind themselves, and inside the call
pub record Spans (w : List ℕ) (k j : ℕ) : Type 0 where
  pub long : WORDS ≤ length w
  pub few : k ≤ NODES
  pub after : (i : ℕ) → j ≤ i → i < k → i < end_of w i
  pub within : (i : ℕ) → j ≤ i → i < k → end_of w i ≤ k

-- and that is where their terms end, `ar` being the arities
pub record Ends (ar : ℕ → ℕ) (w : List ℕ) (k j : ℕ) : Type 0 where
  pub each : (i : ℕ) → j ≤ i → i < k → behind ar (rest w k i) 1 ≡ rest w k (end_of w i)
