-- A second side that is held against the stored first: what its state tells of the nodes that have come, and what it amounts to in the end.
use Rattle.std.specs.Prelude.{ℕ, ◌+◌, ◌*◌, ◌≤◌, ◌<◌, ◌≡◌, ◌≢◌, Bool, Option, Some, None, List, [], ◌∷◌, reverse, length}
use Rattle.patterns.specs.Term.{Node, npow}
use Rattle.patterns.specs.First.{Exp, exponents}
use Rattle.patterns.specs.Push.{pushes}
use Rattle.table.specs.Places.{NODES}
use Rattle.table.specs.Nodes.{node_at, side, load}
use Rattle.table.specs.Answer.{Says}
use Rattle.table.specs.Repeats.{Closed}
use Rattle.table.specs.declared.Held.{Held}
use Rattle.table.specs.declared.Triple.{Triple}
use Rattle.table.specs.declared.Outcome.{Outcome}
use Rattle.table.specs.declared.Outcome.TheVariants.{Same, Other, Full}

-- ---- where two sides part

-- the n nodes stored at `base` beside those of a stack, the last on top, each by its number: p is the number of the first that differs, and n as
-- long as none does
pub data Parts (w : List ℕ) (base n : ℕ) : List (Node Exp) → ℕ → Type 0 where
  none : {p : ℕ} → p ≡ n → Parts w base n [] p
  before : {m : Node Exp} {ns : List (Node Exp)} {p : ℕ} → Parts w base n ns p → p ≤ length ns → Parts w base n (m ∷ ns) p
  alike : {m : Node Exp} {ns : List (Node Exp)} {p : ℕ} → Parts w base n ns p → length ns < p → node_at w (base + 3 * length ns) ≡ m
      → Parts w base n (m ∷ ns) p
  here : {m : Node Exp} {ns : List (Node Exp)} {p q : ℕ} → Parts w base n ns q → length ns < q → node_at w (base + 3 * length ns) ≢ m → p ≡ length ns
      → Parts w base n (m ∷ ns) p

-- r takes the place of p where m comes as number k
pub record PartsNext (w : List ℕ) (base k p : ℕ) (m : Node Exp) (r : ℕ) : Type 0 where
  pub told : (n : ℕ) (ns : List (Node Exp)) → k ≡ length ns → Parts w base n ns p → Parts w base n (m ∷ ns) r
  pub low : r ≤ p

-- ---- a power that is settled

-- the node at a place is a power of s
pub record IsPower (w : List ℕ) (at code a b : ℕ) (r : Bool) : Type 0 where
  pub told : (s : ℕ) → code ≡ 3 * s + 2 → Says (node_at w at ≡ npow s (a, b)) r

pub record PowerPartsNext (w : List ℕ) (base k p code a b r : ℕ) : Type 0 where
  pub told : (s : ℕ) → code ≡ 3 * s + 2 → PartsNext w base k p (npow s (a, b)) r
  pub low : r ≤ p

-- ---- what the state tells

-- what the two numbers of the power that waits come to
unfoldable pub weight : Option Triple → ℕ
weight (Some power) = power.a + power.b
weight None = 0

-- as many nodes as the stack has are settled, and where they part
pub record Tallied (w : List ℕ) (base n : ℕ) (ns : List (Node Exp)) (h : Held) : Type 0 where
  pub nodes : h.nodes ≡ length ns
  pub parts : Parts w base n ns h.parts

-- the nodes that have come, merged, are those of a stack: all are settled, and a power that comes next is a node of its own; or all but a power on
-- top, that waits for its like
pub data Tracks (w : List ℕ) (base n : ℕ) (h : Held) : List (Node Exp) → Type 0 where
  rests : {ns : List (Node Exp)} → h.power ≡ None → Closed ns → Tallied w base n ns h
      → Tracks w base n h ns
  waits : {ns ms : List (Node Exp)} {power : Triple} (s : ℕ) → h.power ≡ Some power → power.code ≡ 3 * s + 2 → ns ≡ npow s (power.a, power.b) ∷ ms → Tallied w base n ms h
      → Tracks w base n h ns

-- no power waits any more
pub record AtRest (w : List ℕ) (base : ℕ) (h r : Held) : Type 0 where
  pub told : (n : ℕ) (ns : List (Node Exp)) → Tracks w base n h ns → Tallied w base n ns r
  pub none : r.power ≡ None
  pub low : r.parts ≤ h.parts
  pub few : r.nodes ≤ h.nodes + 1
  pub light : weight r.power ≤ weight h.power

-- the nodes ms have come, one after the other
pub record Came (w : List ℕ) (base : ℕ) (ms : List (Node Exp)) (h r : Held) : Type 0 where
  pub told : (n : ℕ) (ns : List (Node Exp)) → Tracks w base n h ns → Tracks w base n r (pushes exponents ns ms)
  pub low : r.parts ≤ h.parts
  pub light : weight r.power ≤ weight h.power + load ms

-- one node has come, and settled at most a power and itself
pub record CameOne (w : List ℕ) (base : ℕ) (m : Node Exp) (h r : Held) : Type 0 where
  pub came : Came w base (m ∷ []) h r
  pub few : r.nodes ≤ h.nodes + 2

-- ---- what it amounts to

-- 01: "A side whose normal form has more than 1,024 nodes is refused with 16"; or its nodes are those that are stored, or not
unfoldable pub Amounts : List (Node Exp) → List (Node Exp) → Outcome → Type 0
Amounts stored ms Same = (length ms ≤ NODES) × (stored ≡ ms)
Amounts stored ms Other = (length ms ≤ NODES) × (stored ≢ ms)
Amounts stored ms Full = NODES < length ms

-- no node is left
pub record Concludes (w : List ℕ) (base n : ℕ) (h : Held) (r : Outcome) : Type 0 where
  pub told : (ns : List (Node Exp)) → Tracks w base n h ns → Amounts (side w base n) (reverse ns) r
