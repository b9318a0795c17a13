-- What matching a pattern with a call answers: at a node, at one index, and at the first index that fits.
use Rattle.std.specs.Prelude.{ℕ, ◌+◌, ◌≤◌, ◌≡◌, List, Bool, Option, Some, None, length}
use Rattle.std.proofs.Math.Option.{none, some}
use Rattle.std.proofs.Math.Option.{Option as Maybe}
use Rattle.patterns.specs.Term.{Node, nodes}
use Rattle.patterns.specs.First.{Pattern}
use Rattle.covering.specs.Covers.{Call}
use Rattle.covering.specs.Walk.{walk}
use Rattle.covering.specs.Search.{first_from, fits, largest, tries, covering}
use Rattle.table.specs.Places.{FIRST, BOUND}
use Rattle.table.specs.Nodes.{side}
use Rattle.table.specs.Sides.{Kept}
use Rattle.instances.specs.Lying.{arities, TermAt}
use Rattle.instances.specs.Walks.{walked}
use Rattle.calls.specs.Standing.{Ends}
use Rattle.calls.specs.Moving.{Inside}
use Rattle.calls.specs.declared.Place.{Place}
use Rattle.matching.specs.Bound.{state_at, arrived}

-- nodes of a pattern matched from a place on: no word has changed but those of the bindings
pub record Matches (k : ℕ) (p : Place) (ns : List (Node ℕ)) (w after : List ℕ) (r : Option Place) : Type 0 where
  pub told : (ar : ℕ → ℕ) → Ends ar w k 0 → arrived ar after k r ≡ walk ar ns (state_at ar w k p)
  pub inside : Inside k r
  pub kept : Kept BOUND 128 w after

-- the term at a bit matched with the call of k nodes, at index i
pub record FitsAt (book s : List ℕ) (k at i : ℕ) (w after : List ℕ) (r : Bool) : Type 0 where
  pub told : Ends (arities book) w k 0 → r ≡ fits (arities book) (walked book s at).met (side w FIRST k) i
  pub kept : Kept BOUND 128 w after

-- the index that was found
unfoldable pub index_found : Option ℕ → Maybe ℕ
index_found (Some i) = some i
index_found None = none

-- the first of n indices from i on at which it fits
pub record FirstFit (book s : List ℕ) (k at i n : ℕ) (w after : List ℕ) (r : Option ℕ) : Type 0 where
  pub told : Ends (arities book) w k 0
      → index_found r ≡ first_from (fits (arities book) (walked book s at).met (side w FIRST k)) n i
  pub kept : Kept BOUND 128 w after

-- the last index that is worth a try
pub record LastIndex (k : ℕ) (w : List ℕ) (r : ℕ) : Type 0 where
  pub told : largest (side w FIRST k) ≤ 4095 → r ≡ largest (side w FIRST k)
  pub small : r ≤ 4095

-- how many are, from α on
pub record Tries (book s : List ℕ) (k at α : ℕ) (w : List ℕ) (r : ℕ) : Type 0 where
  pub told : (t c : Pattern) → TermAt book s at t → side w FIRST k ≡ nodes c → Call c → r ≡ tries t α c
  pub few : α + r ≤ 4096

-- the search over a pattern that lies at a bit, and a call that stands in the table
pub record SearchesNodes (book s : List ℕ) (k at α : ℕ) (w after : List ℕ) (r : Option ℕ) : Type 0 where
  pub told : (t c : Pattern) → TermAt book s at t → side w FIRST k ≡ nodes c → Call c → index_found r ≡ covering (arities book) t α c
  pub size : length after ≡ length w

-- and over a call that lies in its own bytes
pub record Searches (book cert call : List ℕ) (at α : ℕ) (w after : List ℕ) (r : Option ℕ) : Type 0 where
  pub told : (t c : Pattern) → TermAt book cert at t → TermAt book call 0 c → Call c
      → index_found r ≡ covering (arities book) t α c
  pub size : length after ≡ length w
