-- The term that was spelled last: what is remembered of it while a side is built, or held against another.
use Rattle.std.specs.Prelude.{ℕ, ◌+◌, ◌-◌, ◌≤◌, ◌≡◌, Bool, Option, Some, None, List, []}
use Rattle.patterns.specs.Term.{Node}
use Rattle.patterns.specs.First.{Exp, exponents}
use Rattle.patterns.specs.Push.{pushes}
use Rattle.table.specs.Nodes.{stack}
use Rattle.table.specs.Sides.{Pushes}
use Rattle.table.specs.Answer.{Assures}
use Rattle.table.specs.Places.{NODES}
use Rattle.table.specs.Second.{Tracks, Came}
use Rattle.table.specs.Repeats.{Closed, part}
use Rattle.table.specs.declared.Held.{Held}
use Rattle.instances.specs.Walks.{walked}
use Rattle.instances.specs.declared.Spelt.{Spelt}
use Rattle.instances.specs.declared.Passed.{Passed}
use Rattle.instances.specs.declared.Grown.{Grown}

-- among the first n nodes of the side are those that a term became, and nothing merges with the last of them
pub record Spelled (book cert w : List ℕ) (base n : ℕ) (s : Spelt) : Type 0 where
  pub within : s.from + s.count ≤ n
  pub nodes : part w base s.from s.count ≡ pushes exponents [] (walked book cert (s.word - 1)).met
  pub closed : Closed (stack w base (s.from + s.count))

-- so it is with the term that is remembered, if one is
pub record Remembers (book cert w : List ℕ) (base n : ℕ) (last : Option Spelt) : Type 0 where
  pub told : (s : Spelt) → last ≡ Some s → Spelled book cert w base n s

-- ---- a side that is built

-- `last`, or the term of a word that took the side from n nodes to k
pub record Notes (base n k word : ℕ) (closed : Bool) (last : Option Spelt) (after : List ℕ) (r : Option Spelt) : Type 0 where
  pub told : (book cert w : List ℕ) → Pushes base n (walked book cert (word - 1)).met w after (Some k) → Assures (Closed (stack w base n)) closed
      → Remembers book cert w base n last → Remembers book cert after base k r

-- the answer of a push
unfoldable pub pushed : Option Grown → Option ℕ
pushed (Some r) = Some r.nodes
pushed None = None

unfoldable pub Recalls : List ℕ → List ℕ → ℕ → List ℕ → Option Grown → Type 0
Recalls book cert base w (Some r) = Remembers book cert w base r.nodes r.last
Recalls book cert base w None = Unit {0}

-- the nodes ms were pushed on a side of n nodes, and a term is remembered
pub record Grows (book cert : List ℕ) (base n : ℕ) (ms : List (Node Exp)) (w after : List ℕ) (r : Option Grown) : Type 0 where
  pub took : Pushes base n ms w after (pushed r)
  pub recalls : Recalls book cert base after r

-- ---- a second side

-- the nodes that have come, merged, are those of some stack
pub record Tracked (w : List ℕ) (base : ℕ) (h : Held) : Type 0 where
  pub n : ℕ
  pub ns : List (Node Exp)
  pub tracks : Tracks w base n h ns

-- the term of the word was spelled last, no power waits, and the stored nodes from the next on are those that it became
pub record Repeated (w : List ℕ) (base : ℕ) (h : Held) (word : ℕ) (last : Spelt) : Type 0 where
  pub word_same : word ≡ last.word
  pub none : h.power ≡ None
  pub few : h.nodes + last.count ≤ h.parts
  pub same : part w base h.nodes last.count ≡ part w base last.from last.count

-- no node goes away
pub record Onward (h k : Held) : Type 0 where
  pub grew : h.power ≡ None → k.power ≡ None → h.nodes ≤ k.nodes

-- `last`, or the term of a word that brought the side from h to k
pub record NotesHeld (h k : Held) (word : ℕ) (last r : Option Spelt) : Type 0 where
  pub told : (book cert w : List ℕ) (base : ℕ) → h.parts ≤ NODES → Tracked w base h → Came w base (walked book cert (word - 1)).met h k
      → Remembers book cert w base NODES last → Remembers book cert w base NODES r

-- the nodes ms have come, and a term is remembered
pub record Passes (book cert w : List ℕ) (base : ℕ) (ms : List (Node Exp)) (h : Held) (r : Passed) : Type 0 where
  pub came : Came w base ms h r.held
  pub remembers : Remembers book cert w base NODES r.last
