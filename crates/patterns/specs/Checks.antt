-- The checks of 01 as equations between normal forms, without order: lines, each over the earlier ones, and the closing.
use Rattle.std.specs.Prelude.{ℕ, ◌≡◌, ◌≢◌, List, [], ◌∷◌, ◌++◌, map}
use Rattle.std.proofs.Math.Option
use Rattle.std.proofs.Math.Option.{Option, none, some}
use Rattle.std.proofs.Math.ListN.{get_elem?}
use Rattle.patterns.specs.Term.{Term, fill, All}
use Rattle.patterns.specs.Derive.{Rule, Book}
use Rattle.patterns.specs.Edition.{Edition, reindex, form, Same}
use Rattle.patterns.specs.Certificate.{Fills, by, Mark, Claim, Use, Stop, fact, call, LineKind, unfolds, descends, Line, Closing, Certificate, claim_of}

-- 01: "For j < i the used line's right must be empty; for j = i < m it must not be": what a line may end in, calls behind it or none
unfoldable pub Pending : {E : Type 0} → List (Term E) → Mark E → Type 0
Pending [] m = Unit {0}
Pending (v ∷ vs) m = m ≢ none

-- 01: "right is empty or has a = 0 in every power"
unfoldable pub OnMark : {E : Type 0} → (Term E → Type 0) → Mark E → Type 0
OnMark P none = Unit {0}
OnMark P (some t) = P t

module _ {E I R S : Type 0} (𝓔 : Edition E I R S) where
  -- 01: "The empty mark [..] equals only itself."
  unfoldable pub SameMark : Mark E → Mark E → Type 0
  SameMark m k = Option.map (form 𝓔) m ≡ Option.map (form 𝓔) k

  -- 01: "a term reindexed first and then filled; the filling's own terms are not reindexed"
  unfoldable pub instance : Use E R → Term E → Term E
  instance u t = fill (by u.fills) (reindex 𝓔 u.index t)

  -- 01: the empty mark "is its own instance at any index"
  abbrev pub instance_mark : Use E R → Mark E → Mark E
  instance_mark u m = Option.map (instance u) m

  abbrev pub reindex_mark : R → Mark E → Mark E
  reindex_mark r m = Option.map (reindex 𝓔 r) m

  -- The lines to come are judged over the claims of the earlier ones, `es`: a use that names its own line or a later one finds
  -- nothing there, and no check with it is met.
  module _ (es : List (Claim E)) where
    -- a use at the call v: an earlier line whose instance's left is v
    pub record UsedAt (u : Use E R) (v : Term E) : Type 0 where
      pub claim : Claim E
      pub earlier : get_elem? es u.line ≡ some claim
      pub left : Same 𝓔 v (instance u claim.left)

    -- parts 1 to i and part 15, over the calls from here on
    unfoldable pub Stopped : Fills E → List (Term E) → List (Use E R) → Option (Use E R) → Mark E → Type 0
    Stopped θ [] us last m = ⊥
    Stopped θ (v ∷ vs) [] none m = SameMark m (some (fill (by θ) v))
    Stopped θ (v ∷ vs) [] (some u) m =
        (f : UsedAt u (fill (by θ) v)) × Pending vs f.claim.right × SameMark m (instance_mark u f.claim.right)
    Stopped θ (v ∷ vs) (u ∷ us) last m = (f : UsedAt u (fill (by θ) v)) × (f.claim.right ≡ none) × Stopped θ vs us last m

    -- 01: "If m = 0 then i = 0; else i is 1 to m."
    unfoldable pub Stops : Fills E → List (Term E) → Stop E R → Mark E → Type 0
    Stops θ [] fact m = m ≡ none
    Stops θ [] (call us last) m = ⊥
    Stops θ (v ∷ vs) fact m = ⊥
    Stops θ (v ∷ vs) (call us last) m = Stopped θ (v ∷ vs) us last m

    -- 01, "Unfold": parts 0, 1 to i, and 15
    pub record Unfold (B : Book E) (l : Claim E) (k : ℕ) (θ : Fills E) (s : Stop E R) : Type 0 where
      pub rule : Rule E
      pub listed : get_elem? B k ≡ some rule
      pub head : Same 𝓔 (fill (by θ) rule.head) l.left
      pub stop : Stops θ rule.calls s l.right

    -- 01, "Descent": parts 0 to 4
    pub record Descent (B : Book E) (l : Claim E) (u : Use E R) (k : ℕ) (θ : Fills E) : Type 0 where
      pub base : Claim E
      pub earlier : get_elem? es u.line ≡ some base
      pub rule : Rule E
      pub listed : get_elem? B k ≡ some rule
      pub only_call : Term E
      pub only : rule.calls ≡ only_call ∷ []
      pub base_left : Same 𝓔 (instance u base.left) (reindex 𝓔 𝓔.base l.left)
      pub base_right : SameMark (instance_mark u base.right) (reindex_mark 𝓔.base l.right)
      pub head : Same 𝓔 (fill (by θ) rule.head) (reindex 𝓔 𝓔.up l.left)
      pub falls : Same 𝓔 (fill (by θ) only_call) l.left
      pub level : OnMark (All 𝓔.Level) l.right

    unfoldable pub Checked : Book E → Claim E → LineKind E R → Type 0
    Checked B l (unfolds k θ s) = Unfold B l k θ s
    Checked B l (descends u k θ) = Descent B l u k θ

  -- each line over the claims before it
  unfoldable pub Lines : Book E → List (Claim E) → List (Line E R) → Type 0
  Lines B es [] = Unit {0}
  Lines B es (l ∷ ls) = Checked es B l.claim l.kind × Lines B (es ++ (l.claim ∷ [])) ls

  -- 01, "Closing": part 0, "the line's right is not empty"; part 1, "right reindexed by (1, α) equals left reindexed by (1, α+k)
  -- and then filled"
  pub record Closes (l : Claim E) (c : Closing E S) : Type 0 where
    pub right : Term E
    pub not_empty : l.right ≡ some right
    pub loops :
        Same 𝓔 (reindex 𝓔 (𝓔.from c.pace) right) (fill (by c.fills) (reindex 𝓔 (𝓔.to c.pace) l.left))

  -- every check of a certificate
  pub record Good (B : Book E) (K : Certificate E R S) : Type 0 where
    pub lines : Lines B [] K.lines
    pub claim : Claim E
    pub named : get_elem? (map claim_of K.lines) K.closing.line ≡ some claim
    pub closes : Closes claim K.closing
