-- What the checks of an unfold find, part by part.
use Rattle.std.specs.Prelude.{ℕ, ◌+◌, ◌<◌, ◌≡◌, length}
use mathlib.Core.List.{List, [], ◌∷◌, ◌++◌, flat_map}
use Rattle.std.proofs.Math.Option.{Option, some}
use Rattle.std.proofs.Math.ListN.{get_elem?}
use Rattle.bits.specs.Packed.{width}
use Rattle.patterns.specs.Term.{fill}
use Rattle.patterns.specs.First.{Exp, Pattern, Pair, one}
use Rattle.patterns.specs.Every.{Every}
use Rattle.patterns.specs.Derive.{Rule, Book}
use Rattle.patterns.specs.Certificate.{Fills, by, Mark, Claim, Use, Stop, unfolds}
use Rattle.patterns.specs.Checks.{instance, instance_mark}
use Rattle.patterns.specs.Judge.{compare, pending, parts, stops, line_checks}
use Rattle.grammar.specs.Listing.{if_any, use_fields, stop_fields, stop_number, kind_fields}
use Rattle.grammar.specs.Limits.{UseFits, LastFits, StopFits, KindFits, call_counts}
use Rattle.table.specs.Places.{OWN, USED, FIRST}
use Rattle.comparing.specs.declared.Behind.{Behind}
use Rattle.begins.specs.declared.Instance.{Instance}
use Rattle.instances.specs.Lying.{Lies, behind}
use Rattle.begins.specs.Placed.{RightAt, LeftAt, CallsAt}
use Rattle.begins.specs.Known.{Below, Known, Scene, Uses}
use Rattle.comparing.specs.declared.Subject.{Subject}
use Rattle.comparing.specs.Subjects.{Means}
use Rattle.comparing.specs.Found.{Found, Finds}
use Rattle.comparing.specs.Rights.{lead}

-- 01: "for j = i < m it must not be [empty]; else 11": m is `count`, and the calls vs stand behind the j-th
pub record BehindStop (j count : ℕ) (q : Behind) : Type 0 where
  pub told : (vs : List Pattern) → count ≡ j + length vs → (m : Mark Exp) → lead q 11 j m ≡ pending j vs m

-- what an unfold's parts from j on are judged over: the table, the line's right, and the calls
pub record Unfolding (book cert w ars : List ℕ) (B : Book Exp) (es : List (Claim Exp)) (θ : Fills Exp) (right : ℕ) (m : Mark Exp) (call : ℕ) (vs : List Pattern) (j count : ℕ) : Type 0 where
  pub scene : Scene book cert w ars B es θ
  pub right_at : RightAt cert ars right m
  pub calls_at : CallsAt book ars call vs j count

-- part 15: the line's right against what a subject means
pub record StopsBy (book cert : List ℕ) (right : ℕ) (theirs : Subject) (at : ℕ) (w after : List ℕ) (r : Found) : Type 0 where
  pub told : (ars : List ℕ) (B : Book Exp) (es : List (Claim Exp)) (m : Mark Exp) → Known book cert w ars B es → RightAt cert ars right m
      → (k : Mark Exp) (e : ℕ) → Means book cert w theirs k e → Finds (compare 12 15 m k) at r
  pub below : Below USED w after

-- part j, over a use that was read
pub record PartBy (book cert : List ℕ) (j : ℕ) (q : Behind) (call : ℕ) (used : Instance) (w after : List ℕ) (r : Found) : Type 0 where
  pub told : (ars : List ℕ) (B : Book Exp) (es : List (Claim Exp)) (θ : Fills Exp) → Scene book cert w ars B es θ
      → (v : Pattern) (vs : List Pattern) (count : ℕ) → CallsAt book ars call (v ∷ vs) j count
      → (u : Use Exp Pair) (c : Claim Exp) → Uses book cert w ars u c used
      → Finds (lead q 11 j c.right ++ compare 10 j (some (fill (by θ) v)) (some (instance one u c.left))) (behind call v) r
  pub below : Below FIRST w after

-- the last part j, and part 15
pub record EndsBy (book cert : List ℕ) (right j count call : ℕ) (used : Instance) (w after : List ℕ) (r : Found) : Type 0 where
  pub told : (ars : List ℕ) (B : Book Exp) (es : List (Claim Exp)) (θ : Fills Exp) (m : Mark Exp) (v : Pattern) (vs : List Pattern)
      → Unfolding book cert w ars B es θ right m call (v ∷ vs) j count → (u : Use Exp Pair) (c : Claim Exp) → Uses book cert w ars u c used
      → Finds (pending j vs c.right ++ compare 10 j (some (fill (by θ) v)) (some (instance one u c.left)) ++ compare 12 15 m (instance_mark one u c.right))
      used.end r
  pub below : Below USED w after

-- over a use that lies at a bit
pub record EndsUsed (book cert : List ℕ) (right j count call at : ℕ) (w after : List ℕ) (r : Found) : Type 0 where
  pub told : (ars : List ℕ) (B : Book Exp) (es : List (Claim Exp)) (θ : Fills Exp) (m : Mark Exp) (v : Pattern) (vs : List Pattern)
      → Unfolding book cert w ars B es θ right m call (v ∷ vs) j count
      → (u : Use Exp Pair) → UseFits ars (length es) u → Lies cert at (use_fields u)
      → Finds (parts one es θ j (v ∷ vs) [] (some u) m) (at + width (use_fields u)) r
  pub below : Below USED w after

-- with a use or none
pub record Ends (book cert : List ℕ) (right j count call at : ℕ) (w after : List ℕ) (r : Found) : Type 0 where
  pub told : (ars : List ℕ) (B : Book Exp) (es : List (Claim Exp)) (θ : Fills Exp) (m : Mark Exp) (v : Pattern) (vs : List Pattern)
      → Unfolding book cert w ars B es θ right m call (v ∷ vs) j count
      → (last : Option (Use Exp Pair)) → LastFits ars (length es) last → Lies cert at (if_any use_fields last)
      → Finds (parts one es θ j (v ∷ vs) [] last m) (at + width (if_any use_fields last)) r
  pub below : Below USED w after

-- all parts from j on, where `before` calls stand before the one where the unfold stops
pub record PartsAt (book cert : List ℕ) (right j count before call at : ℕ) (w after : List ℕ) (r : Found) : Type 0 where
  pub told : (ars : List ℕ) (B : Book Exp) (es : List (Claim Exp)) (θ : Fills Exp) (m : Mark Exp) (vs : List Pattern)
      → Unfolding book cert w ars B es θ right m call vs j count
      → (us : List (Use Exp Pair)) (last : Option (Use Exp Pair)) → length us ≡ before → before < length vs
      → Every (UseFits ars (length es)) us → LastFits ars (length es) last → Lies cert at (flat_map use_fields us ++ if_any use_fields last)
      → Finds (parts one es θ j vs us last m) (at + width (flat_map use_fields us ++ if_any use_fields last)) r
  pub below : Below USED w after

-- an unfold behind its head: where it stops, and its uses
pub record StopsAt (book cert : List ℕ) (right i count call at : ℕ) (w after : List ℕ) (r : Found) : Type 0 where
  pub told : (ars : List ℕ) (B : Book Exp) (es : List (Claim Exp)) (θ : Fills Exp) (m : Mark Exp) (vs : List Pattern)
      → Unfolding book cert w ars B es θ right m call vs 1 count
      → (s : Stop Exp Pair) → stop_number s ≡ i → StopFits ars (length es) (length vs) s → Lies cert at (stop_fields s)
      → Finds (stops one es θ vs s m) (at + width (stop_fields s)) r
  pub below : Below USED w after

-- an unfold by rule k, whose filling stands in the table
pub record UnfoldsBy (book cert : List ℕ) (left right k i at : ℕ) (w after : List ℕ) (r : Found) : Type 0 where
  pub told : (ars : List ℕ) (B : Book Exp) (es : List (Claim Exp)) (θ : Fills Exp) → Scene book cert w ars B es θ
      → (l : Claim Exp) → LeftAt cert ars left l.left → RightAt cert ars right l.right
      → (u : Rule Exp) → get_elem? B k ≡ some u
      → (s : Stop Exp Pair) → stop_number s ≡ i → StopFits ars (length es) (length u.calls) s → Lies cert at (stop_fields s)
      → Finds (line_checks one es B l (unfolds k θ s)) (at + width (stop_fields s)) r
  pub below : Below USED w after

-- an unfold that lies at a bit
pub record UnfoldAt (book cert : List ℕ) (left right at : ℕ) (w after : List ℕ) (r : Found) : Type 0 where
  pub told : (ars : List ℕ) (B : Book Exp) (es : List (Claim Exp)) → Known book cert w ars B es
      → (l : Claim Exp) → LeftAt cert ars left l.left → RightAt cert ars right l.right
      → (k : ℕ) (θ : Fills Exp) (s : Stop Exp Pair) → KindFits ars (call_counts B) (length es) (unfolds k θ s) → Lies cert at (kind_fields (unfolds k θ s))
      → Finds (line_checks one es B l (unfolds k θ s)) (at + width (kind_fields (unfolds k θ s))) r
  pub below : Below OWN w after
