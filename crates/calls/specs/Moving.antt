-- What the ways to go on in a call answer.
use Rattle.std.specs.Prelude.{ℕ, ◌+◌, ◌≤◌, ◌≡◌, List, Bool, Option, Some, None}
use Rattle.std.proofs.Math.Option.{none, some}
use Rattle.std.proofs.Math.Option.{Option as Maybe}
use Rattle.covering.specs.Left.{Left, places, taken, behind}
use Rattle.table.specs.Answer.{Says}
use Rattle.table.specs.Places.{NODES, ENDS}
use Rattle.table.specs.Nodes.{node_of}
use Rattle.table.specs.Sides.{Kept}
use Rattle.calls.specs.Standing.{counted, nodes_from, rest, left_at, Spans, Ends}
use Rattle.calls.specs.declared.Place.{Place}

-- so many terms follow a node with that first word
pub record Follows (ar : ℕ → ℕ) (code r : ℕ) : Type 0 where
  pub told : (a b : ℕ) → r ≡ places ar (counted (node_of code a b))

-- behind n terms from node j on, the call goes on at node r
pub record Passes (w : List ℕ) (k j n r : ℕ) : Type 0 where
  pub told : (ar : ℕ → ℕ) → Ends ar w k j → rest w k r ≡ behind ar (rest w k j) n
  pub after : j ≤ r
  pub within : r ≤ k

-- where each of the k nodes' terms ends is noted, and no other word has changed
pub record NotesEnds (ar : ℕ → ℕ) (k : ℕ) (w after : List ℕ) : Type 0 where
  pub spans : Spans after k 0
  pub ends : Ends ar after k 0
  pub kept : Kept ENDS NODES w after

-- the term of node j has r nodes
pub record Term (w : List ℕ) (k j r : ℕ) : Type 0 where
  pub told : (ar : ℕ → ℕ) → Ends ar w k 0 → taken ar (rest w k j) 1 ≡ nodes_from w j r
  pub some : 1 ≤ r
  pub within : j + r ≤ k

-- whether the terms at two places are the same
pub record SameTerms (w : List ℕ) (k : ℕ) (p q : Place) (r : Bool) : Type 0 where
  pub told : (ar : ℕ → ℕ) → Ends ar w k 0 → Says (taken ar (left_at w k p) 1 ≡ taken ar (left_at w k q) 1) r

-- the place behind a term
pub record Behind (w : List ℕ) (k : ℕ) (p r : Place) : Type 0 where
  pub told : (ar : ℕ → ℕ) → Ends ar w k 0 → left_at w k r ≡ behind ar (left_at w k p) 1
  pub inside : r.node ≤ k

-- what is left of the call behind a move
unfoldable pub moved : List ℕ → ℕ → Option Place → Maybe Left
moved w k (Some p) = some (left_at w k p)
moved w k None = none

unfoldable pub Inside : ℕ → Option Place → Type 0
Inside k (Some p) = p.node ≤ k
Inside k None = Unit {0}

-- a move to where o is left of the call, if it is possible
pub record Goes (w : List ℕ) (k : ℕ) (o : Maybe Left) (r : Option Place) : Type 0 where
  pub is : moved w k r ≡ o
  pub inside : Inside k r
