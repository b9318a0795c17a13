-- What the walks over a packed term answer: where it ends, whether it has an index, and the normal form of an instance.
use Rattle.std.specs.Prelude.{ℕ, ◌≤◌, ◌≡◌, Bool, Option, Some, None}
use mathlib.Core.List.{List, [], reverse, flat_map}
use Rattle.std.proofs.Math.Option.{some}
use Rattle.patterns.specs.Term.{Filling, fill, All}
use Rattle.patterns.specs.Edition.{reindex}
use Rattle.patterns.specs.Certificate.{Mark}
use Rattle.patterns.specs.First.{Exp, Pattern, Level, exponents, one}
use Rattle.patterns.specs.Push.{pushes}
use Rattle.table.specs.Places.{SIDE, NODES}
use Rattle.table.specs.Nodes.{side}
use Rattle.table.specs.Sides.{Kept}
use Rattle.table.specs.Second.{Amounts}
use Rattle.table.specs.Marks.{Built}
use Rattle.table.specs.Answer.{Says}
use Rattle.table.specs.declared.Outcome.{Outcome}
use Rattle.instances.specs.Lying.{TermAt, behind}
use Rattle.instances.specs.Fillings.{FillsTold}
use Rattle.instances.specs.Walks.{walked}
use Rattle.instances.specs.Filled.{filled}
use Rattle.instances.specs.declared.Side.{Side}

-- the answer is where the term ends
pub record Skips (book s : List ℕ) (at r : ℕ) : Type 0 where
  pub told : (t : Pattern) → TermAt book s at t → r ≡ behind at t

-- the answer is whether "a = 0 in every power"
pub record Levels (book s : List ℕ) (at : ℕ) (r : Bool) : Type 0 where
  pub told : (t : Pattern) → TermAt book s at t → Says (All Level t) r

-- the side at `base` has the normal form of m, and `end` is told; or it has more than 1,024 nodes
unfoldable pub Stored : ℕ → Mark Exp → ℕ → List ℕ → Option Side → Type 0
Stored base m end after (Some r) = Built base m after (Some r.nodes) × (r.end ≡ end)
Stored base m end after None = Built base m after None

unfoldable pub FewNodes : Option Side → Type 0
FewNodes (Some r) = r.nodes ≤ NODES
FewNodes None = Unit {0}

-- 01: "An instance is a term reindexed first and then filled; the filling's own terms are not reindexed."
pub record Builds (book s cert : List ℕ) (base at i j fills : ℕ) (w after : List ℕ) (r : Option Side) : Type 0 where
  pub told : (t : Pattern) (θ : Filling Exp) → TermAt book s at t → FillsTold book cert w fills θ
      → Stored base (some (fill θ (reindex one (i, j) t))) (behind at t) after r
  pub few : FewNodes r
  pub kept : Kept base SIDE w after

-- the nodes of the walk over the term at a bit, reindexed, filled and merged, beside the n that are stored at `base`
pub record Against (book s cert : List ℕ) (base n at i j fills : ℕ) (w : List ℕ) (r : Outcome) : Type 0 where
  pub amounts : Amounts (side w base n) (reverse (pushes exponents [] (flat_map (filled book cert w fills i j) (walked book s at).met))) r
