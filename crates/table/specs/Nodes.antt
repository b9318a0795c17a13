-- The nodes that the words of the work table tell, three words a node. Any words tell nodes, so nothing is assumed of them.
use Rattle.std.specs.Prelude.{ℕ, zero, suc, ◌+◌, ◌*◌, ◌/◌, ◌%◌, ◌≡◌, cond, List, [], ◌∷◌, reverse, eqb, get_or, set}
use Rattle.patterns.specs.Term.{Node, nvar, nfun, npow}
use Rattle.patterns.specs.First.{Exp}

-- 3x tells the variable x, 3f + 1 the symbol f, and 3s + 2 a power of s with the numbers a and b
unfoldable pub node_of : ℕ → ℕ → ℕ → Node Exp
node_of code a b =
    cond (eqb (code % 3) 0) (nvar (code / 3)) (cond (eqb (code % 3) 1) (nfun (code / 3)) (npow (code / 3) (a, b)))

-- the node that begins at a place
unfoldable pub node_at : List ℕ → ℕ → Node Exp
node_at w p = node_of (get_or w p 0) (get_or w (p + 1) 0) (get_or w (p + 2) 0)

-- the three words at a place are these
pub record Words (w : List ℕ) (p code a b : ℕ) : Type 0 where
  pub first : code ≡ get_or w p 0
  pub second : a ≡ get_or w (p + 1) 0
  pub third : b ≡ get_or w (p + 2) 0

-- the table with a node's three words written at a place
unfoldable pub with_node : List ℕ → ℕ → ℕ → ℕ → ℕ → List ℕ
with_node w p code a b = set (set (set w p code) (p + 1) a) (p + 2) b

-- the n nodes from `base` on, the last on top
unfoldable pub stack : List ℕ → ℕ → ℕ → List (Node Exp)
stack w base zero = []
stack w base (suc n) = node_at w (base + 3 * n) ∷ stack w base n

-- the same nodes in preorder, as they were stored
unfoldable pub side : List ℕ → ℕ → ℕ → List (Node Exp)
side w base n = reverse (stack w base n)

-- the first word of the node on top, 0 where there is none
unfoldable pub top_code : List ℕ → ℕ → ℕ → ℕ
top_code w base zero = 0
top_code w base (suc n) = get_or w (base + 3 * n) 0

-- the sum of all numbers a and b: no word of a power is larger
unfoldable pub load : List (Node Exp) → ℕ
load [] = 0
load (nvar x ∷ ns) = load ns
load (nfun f ∷ ns) = load ns
load (npow s e ∷ ns) = e.0 + e.1 + load ns
