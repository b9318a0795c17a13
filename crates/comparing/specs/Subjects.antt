-- What is built for a comparison: the empty mark, a head or call of a rule filled by the line's own filling, or a term of the certificate
-- reindexed, and filled by nothing or by a use's filling.
use Rattle.std.specs.Prelude.{ℕ, ◌≡◌, Option, List, []}
use Rattle.std.proofs.Math.Option.{none, some, map}
use Rattle.patterns.specs.Term.{Filling, fill}
use Rattle.patterns.specs.Edition.{reindex}
use Rattle.patterns.specs.Certificate.{Mark}
use Rattle.patterns.specs.First.{Exp, Pattern, one}
use Rattle.patterns.specs.Demand.{small, same, Met}
use Rattle.table.specs.Places.{EMPTY, OWN, USED, FIRST, SIDE}
use Rattle.table.specs.Nodes.{side}
use Rattle.table.specs.Sides.{Kept}
use Rattle.table.specs.Marks.{form_nodes}
use Rattle.table.specs.Second.{Amounts}
use Rattle.table.specs.declared.Outcome.{Outcome}
use Rattle.comparing.specs.declared.Subject.{Subject}
use Rattle.comparing.specs.declared.Subject.TheVariants.{Empty, Call, Claimed}
use Rattle.comparing.specs.declared.Filled.{Filled}
use Rattle.comparing.specs.declared.Filled.TheVariants.{Bare, Used}
use Rattle.comparing.specs.declared.Compared.{Compared}
use Rattle.comparing.specs.declared.Compared.TheVariants.{Equal, Unequal, TooBig}
use Rattle.instances.specs.declared.Side.{Side}
use Rattle.instances.specs.Lying.{KnownArities, TermAt, behind}
use Rattle.instances.specs.Fillings.{FillsTold}
use Rattle.instances.specs.Instances.{Stored, FewNodes}
use Rattle.begins.specs.Placed.{RightAt}
use Rattle.begins.specs.Known.{Below}

-- an instance of the term at a bit of s, filled as the words at `fills` tell
pub record InstanceAt (book s cert w : List ℕ) (at i j fills : ℕ) (m : Mark Exp) (end : ℕ) : Type 0 where
  pub term : Pattern
  pub filling : Filling Exp
  pub lies : TermAt book s at term
  pub filled : FillsTold book cert w fills filling
  pub mark : m ≡ some (fill filling (reindex one (i, j) term))
  pub ends : end ≡ behind at term

-- where the words of its filling stand
unfoldable pub fills_of : Filled → ℕ
fills_of Bare = EMPTY
fills_of Used = USED

-- the mark that a subject means, and the bit behind its term
unfoldable pub Means : List ℕ → List ℕ → List ℕ → Subject → Mark Exp → ℕ → Type 0
Means book cert w Empty m end = (m ≡ none) × (end ≡ 0)
Means book cert w (Call at) m end = InstanceAt book book cert w at 1 0 OWN m end
Means book cert w (Claimed at i j f) m end = InstanceAt book cert cert w at i j (fills_of f) m end

-- the first side was built
pub record Sided (book cert : List ℕ) (a : Subject) (w after : List ℕ) (r : Option Side) : Type 0 where
  pub told : (m : Mark Exp) (end : ℕ) → Means book cert w a m end → Stored FIRST m end after r
  pub few : FewNodes r
  pub kept : Kept FIRST SIDE w after

-- the second side was held against the n nodes of the first
pub record Seconded (book cert : List ℕ) (n : ℕ) (b : Subject) (w : List ℕ) (r : Outcome) : Type 0 where
  pub told : (k : Mark Exp) (end : ℕ) → Means book cert w b k end → Amounts (side w FIRST n) (form_nodes k) r

-- 01: "The empty mark has no nodes"
pub record AmountsEmpty (n : ℕ) (r : Outcome) : Type 0 where
  pub told : (w : List ℕ) → Amounts (side w FIRST n) [] r

-- what a comparison settles, where the first side's term ends at `end`
unfoldable pub Settles : Mark Exp → Mark Exp → ℕ → Compared → Type 0
Settles m k end (Equal e) = Met one (small m) × Met one (small k) × Met one (same m k) × (e ≡ end)
Settles m k end Unequal = Met one (small m) × Met one (small k) × (¬ (Met one (same m k)))
Settles m k end TooBig = ¬ (Met one (small m) × Met one (small k))

-- two sides were compared
pub record Compares (book cert : List ℕ) (a b : Subject) (w after : List ℕ) (r : Compared) : Type 0 where
  pub told : (m : Mark Exp) (e : ℕ) → Means book cert w a m e → (k : Mark Exp) (f : ℕ) → Means book cert w b k f → Settles m k e r
  pub below : Below FIRST w after

-- the right that lies at a bit, as a subject
pub record RightMeans (cert : List ℕ) (at i j : ℕ) (f : Filled) (r : Subject) : Type 0 where
  pub told : (book w ars : List ℕ) (θ : Filling Exp) → KnownArities book ars → FillsTold book cert w (fills_of f) θ → (m : Mark Exp) → RightAt cert ars at m
      → (end : ℕ) × Means book cert w r (map (λ t. fill θ (reindex one (i, j) t)) m) end
