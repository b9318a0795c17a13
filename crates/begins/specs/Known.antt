-- What the work table tells: where rules and claims lie, and which filling each of its three tables holds, at the places of `table/specs/Places`.
use Rattle.std.specs.Prelude.{ℕ, ◌+◌, ◌<◌, ◌≡◌, List, length, get_or}
use Rattle.std.proofs.Math.Option.{some}
use Rattle.std.proofs.Math.ListN.{get_elem?}
use Rattle.patterns.specs.First.{Exp, Pair}
use Rattle.patterns.specs.Derive.{Rule, Book}
use Rattle.patterns.specs.Certificate.{Fills, by, Claim, Use}
use Rattle.bits.specs.Packed.{width}
use Rattle.grammar.specs.Listing.{use_fields}
use Rattle.grammar.specs.Limits.{UseFits}
use Rattle.table.specs.Places.{LEFTS, RIGHTS, ROWS, EMPTY, OWN, USED}
use Rattle.begins.specs.declared.Instance.{Instance}
use Rattle.instances.specs.Lying.{Lies, KnownArities}
use Rattle.instances.specs.Fillings.{entry, FillsTold}
use Rattle.begins.specs.Placed.{RuleAt, ClaimAt}

-- no word below n has changed
pub record Below (n : ℕ) (w after : List ℕ) : Type 0 where
  pub size : length after ≡ length w
  pub low : (k : ℕ) → k < n → get_or after k 0 ≡ get_or w k 0

-- the rules of the book, and the claims of the lines before this one
pub record Known (book cert w ars : List ℕ) (B : Book Exp) (es : List (Claim Exp)) : Type 0 where
  pub arity : KnownArities book ars
  pub few_rules : length B < ROWS
  pub few_claims : length es < ROWS
  pub rule : (k : ℕ) (r : Rule Exp) → get_elem? B k ≡ some r → RuleAt book ars (get_or w k 0) r
  pub claim : (k : ℕ) (c : Claim Exp) → get_elem? es k ≡ some c → ClaimAt cert ars (get_or w (LEFTS + k) 0) (get_or w (RIGHTS + k) 0) c
  pub bare : (x : ℕ) → entry w EMPTY x ≡ 0

-- and the line's own filling
pub record Scene (book cert w ars : List ℕ) (B : Book Exp) (es : List (Claim Exp)) (θ : Fills Exp) : Type 0 where
  pub known : Known book cert w ars B es
  pub own : FillsTold book cert w OWN (by θ)

-- a use was read: it names the claim c, and its filling stands in the table
pub record Uses (book cert w ars : List ℕ) (u : Use Exp Pair) (c : Claim Exp) (r : Instance) : Type 0 where
  pub claim_at : ClaimAt cert ars r.left r.right c
  pub i : r.i ≡ u.index.0
  pub j : r.j ≡ u.index.1
  pub used : FillsTold book cert w USED (by u.fills)

-- the use that lies at a bit
pub record ReadsUse (book cert : List ℕ) (at : ℕ) (w after : List ℕ) (r : Instance) : Type 0 where
  pub told : (ars : List ℕ) (B : Book Exp) (es : List (Claim Exp)) → Known book cert w ars B es → (line : ℕ) (u : Use Exp Pair) (c : Claim Exp)
      → UseFits ars line u → Lies cert at (use_fields u) → get_elem? es u.line ≡ some c
      → Uses book cert after ars u c r × (r.end ≡ at + width (use_fields u))
  pub below : Below USED w after
