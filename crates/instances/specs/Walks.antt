-- The walk over a packed term, node after node: the nodes that it meets, and the bit where it ends.
use Rattle.std.specs.Prelude.{ℕ, zero, suc, ◌+◌, ◌*◌, ◌-◌, ◌≤◌, ◌<◌, ◌^◌, ◌≡◌, ◌⊎◌, List, [], ◌∷◌, ◌++◌, cond, eqb}
use Rattle.patterns.specs.Term.{Node, nvar, nfun, npow}
use Rattle.patterns.specs.First.{Exp, Level}
use Rattle.instances.specs.Headers.{header_at}
use Rattle.instances.specs.declared.Header.{Header}
use Rattle.instances.specs.declared.Header.TheVariants.{Variable, Symbol, Power, Missing}
use Rattle.instances.specs.declared.Stand.{Stand}

-- the node that a header tells, none where it is missing
unfoldable pub single : Header → List (Node Exp)
single (Variable x c) = nvar x ∷ []
single (Symbol f n c) = nfun f ∷ []
single (Power s a b c) = npow s (a, b) ∷ []
single Missing = []

-- 01: "a node is followed at once by its arguments": where a walk stands behind a header, with so many terms still to come
unfoldable pub next_stand : ℕ → Header → Stand
next_stand pending (Variable x c) = record { at = c.at; pending = pending - 1 }
next_stand pending (Symbol f n c) = record { at = c.at; pending = pending - 1 + n }
next_stand pending (Power s a b c) = record { at = c.at; pending = pending }
next_stand pending Missing = record { at = 0; pending = 0 }

-- q is where it stands, and the count of terms has grown by an arity at most
pub record Next (pending : ℕ) (h : Header) (q : Stand) : Type 0 where
  pub is : q ≡ next_stand pending h
  pub few : q.pending ≤ pending + 65536

-- a lone term is to come
abbrev pub first_stand : ℕ → Stand
first_stand at = record { at = at; pending = 1 }

-- the nodes that a walk meets, and the bit where it ends
pub record Passage : Type 0 where
  pub met : List (Node Exp)
  pub end : ℕ

-- nodes that are met first
abbrev pub ahead : List (Node Exp) → Passage → Passage
ahead ns v = record { met = ns ++ v.met; end = v.end }

-- no term is to come
abbrev pub ended : Stand → Passage
ended p = record { met = []; end = p.at }

-- the walk from where it stands, over at most `left` nodes
unfoldable pub walk : List ℕ → List ℕ → ℕ → Stand → Passage
walk book s zero p = ended p
walk book s (suc left) p =
    cond (eqb p.pending 0) (ended p)
    (ahead (single (header_at book s p.at)) (walk book s left (next_stand p.pending (header_at book s p.at))))

-- the count of terms to come stays far below what a number holds
abbrev pub Within : ℕ → Stand → Type 0
Within left p = p.pending + 65536 * left ≤ 2 ^ 32

-- 01: "variable, 6 bits": a variable that is met has one of 64 names
unfoldable pub Named : Header → Type 0
Named (Variable x c) = x < 64
Named (Symbol f n c) = Unit {0}
Named (Power s a b c) = Unit {0}
Named Missing = Unit {0}

-- a walk is over where no term is to come, or no node is allowed
abbrev pub Ended : ℕ → ℕ → Type 0
Ended left pending = (left ≡ 0) ⊎ (pending ≡ 0)

-- the walk over the term at a bit. 01: terms "have at most 256 nodes"
unfoldable pub walked : List ℕ → List ℕ → ℕ → Passage
walked book s at = walk book s 256 (first_stand at)

-- "a = 0", of a node
unfoldable pub LevelNode : Node Exp → Type 0
LevelNode (nvar x) = Unit {0}
LevelNode (nfun f) = Unit {0}
LevelNode (npow s e) = Level e
