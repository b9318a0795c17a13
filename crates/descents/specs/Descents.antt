-- What the checks of a descent find, part by part.
use Rattle.std.specs.Prelude.{ℕ, ◌+◌, ◌≡◌, List, [], ◌∷◌, ◌++◌, length}
use Rattle.std.proofs.Math.Option.{some}
use Rattle.std.proofs.Math.ListN.{get_elem?}
use Rattle.bits.specs.Packed.{width}
use Rattle.patterns.specs.Term.{fill}
use Rattle.patterns.specs.First.{Exp, Pattern, Pair, one}
use Rattle.patterns.specs.Edition.{reindex}
use Rattle.patterns.specs.Derive.{Rule, Book}
use Rattle.patterns.specs.Certificate.{Fills, by, Claim, Use, descends}
use Rattle.patterns.specs.Checks.{instance, instance_mark, reindex_mark}
use Rattle.patterns.specs.Demand.{level}
use Rattle.patterns.specs.Judge.{Check, check, compare, line_checks}
use Rattle.grammar.specs.Listing.{kind_fields, filling_fields}
use Rattle.grammar.specs.Limits.{FillsFit, KindFits, call_counts}
use Rattle.table.specs.Places.{OWN, FIRST}
use Rattle.begins.specs.declared.Instance.{Instance}
use Rattle.instances.specs.Lying.{Lies}
use Rattle.begins.specs.Placed.{RightAt, LeftAt, RuleAt}
use Rattle.begins.specs.Known.{Below, Known, Scene, Uses}
use Rattle.comparing.specs.Found.{Found, Finds}

-- what a descent's parts are judged over: the table, both sides of the line, and its base, which was read
pub record Descending (book cert w ars : List ℕ) (B : Book Exp) (es : List (Claim Exp)) (θ : Fills Exp) (left right : ℕ) (l : Claim Exp) (u : Use Exp Pair) (c : Claim Exp) (base : Instance) : Type 0 where
  pub scene : Scene book cert w ars B es θ
  pub left_at : LeftAt cert ars left l.left
  pub right_at : RightAt cert ars right l.right
  pub base_at : Uses book cert w ars u c base

-- 01, "Descent": parts 0 and 1; 0 to 2; 0 to 3; 0 to 4
abbrev pub base_checks : Use Exp Pair → Claim Exp → Claim Exp → List (Check Exp)
base_checks u c l =
    compare 9 0 (some (instance one u c.left)) (some (reindex one (0, 0) l.left))
    ++ compare 12 1 (instance_mark one u c.right) (reindex_mark one (0, 0) l.right)

abbrev pub head_checks : Use Exp Pair → Claim Exp → Claim Exp → Fills Exp → Pattern → List (Check Exp)
head_checks u c l θ h = base_checks u c l ++ compare 9 2 (some (fill (by θ) h)) (some (reindex one (1, 1) l.left))

abbrev pub call_checks : Use Exp Pair → Claim Exp → Claim Exp → Fills Exp → Pattern → Pattern → List (Check Exp)
call_checks u c l θ h v = head_checks u c l θ h ++ compare 10 3 (some (fill (by θ) v)) (some l.left)

abbrev pub descent_checks : Use Exp Pair → Claim Exp → Claim Exp → Fills Exp → Pattern → Pattern → List (Check Exp)
descent_checks u c l θ h v = call_checks u c l θ h v ++ (check 13 4 (level l.right) ∷ [])

-- all parts, over a base that was read, by a rule that lies at a bit of the book
pub record DescentBy (book cert : List ℕ) (left right : ℕ) (base : Instance) (rule at : ℕ) (w after : List ℕ) (r : Found) : Type 0 where
  pub told : (ars : List ℕ) (B : Book Exp) (es : List (Claim Exp)) (θ : Fills Exp) (l : Claim Exp) (u : Use Exp Pair) (c : Claim Exp)
      → Descending book cert w ars B es θ left right l u c base → (h : Rule Exp) (v : Pattern) → RuleAt book ars rule h → h.calls ≡ v ∷ []
      → Finds (descent_checks u c l θ h.head v) at r
  pub below : Below FIRST w after

-- the rule and the filling behind a base that was read
pub record DescentOn (book cert : List ℕ) (left right : ℕ) (base : Instance) (w after : List ℕ) (r : Found) : Type 0 where
  pub told : (ars : List ℕ) (B : Book Exp) (es : List (Claim Exp)) → Known book cert w ars B es
      → (l : Claim Exp) → LeftAt cert ars left l.left → RightAt cert ars right l.right
      → (u : Use Exp Pair) (c : Claim Exp) → Uses book cert w ars u c base
      → (k : ℕ) (θ : Fills Exp) → get_elem? (call_counts B) k ≡ some 1 → FillsFit ars θ → Lies cert base.end ((8, k) ∷ filling_fields θ)
      → get_elem? es u.line ≡ some c
      → Finds (line_checks one es B l (descends u k θ)) (base.end + width ((8, k) ∷ filling_fields θ)) r
  pub below : Below OWN w after

-- a descent that lies at a bit
pub record DescentAt (book cert : List ℕ) (left right at : ℕ) (w after : List ℕ) (r : Found) : Type 0 where
  pub told : (ars : List ℕ) (B : Book Exp) (es : List (Claim Exp)) → Known book cert w ars B es
      → (l : Claim Exp) → LeftAt cert ars left l.left → RightAt cert ars right l.right
      → (u : Use Exp Pair) (k : ℕ) (θ : Fills Exp) → KindFits ars (call_counts B) (length es) (descends u k θ) → Lies cert at (kind_fields (descends u k θ))
      → Finds (line_checks one es B l (descends u k θ)) (at + width (kind_fields (descends u k θ))) r
  pub below : Below OWN w after
