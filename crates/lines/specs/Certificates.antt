-- What the judging of a line leaves in the table, the verdict on a closing and on all lines, and what an accepted certificate leaves there.
use Rattle.std.specs.Prelude.{ℕ, ◌+◌, ◌<◌, ◌≡◌, length, get_or, Result}
use mathlib.Core.List.{List, [], ◌∷◌, ◌++◌, map, flat_map}
use Rattle.answers.specs.Numbers.{paper_verdict}
use Rattle.bits.specs.Packed.{width}
use Rattle.patterns.specs.Reason.{closing_place}
use Rattle.patterns.specs.First.{Exp, Pair, Pace, one}
use Rattle.patterns.specs.Derive.{Book}
use Rattle.patterns.specs.Certificate.{by, Claim, Line, Closing, Certificate, claim_of}
use Rattle.patterns.specs.Judge.{place, line_checks, closing_checks, checks_from, first_unmet, Ruling, accept, ruling, judge}
use Rattle.grammar.specs.Books.{RuleBook}
use Rattle.grammar.specs.Listing.{line_fields, kind_fields, kind_number, closing_fields, certificate_fields, book_fields}
use Rattle.grammar.specs.Limits.{ClaimFits, KindFits, LinesFit, ClosingFits, call_counts, BookFits, CertificateFits}
use Rattle.table.specs.Places.{LEFTS, RIGHTS, OWN, USED, FIRST}
use Rattle.answers.specs.declared.Acceptance.{Acceptance}
use Rattle.answers.specs.declared.Refusal.{Refusal}
use Rattle.instances.specs.Lying.{Lies, KnownArities}
use Rattle.instances.specs.Fillings.{FillsTold}
use Rattle.begins.specs.Placed.{RightAt, LeftAt}
use Rattle.begins.specs.Known.{Below, Known}
use Rattle.comparing.specs.Found.{Found, Finds}

abbrev pub pace_of : ℕ → ℕ → Pace
pace_of k α = record { k = k; α = α }

-- line k's word of both kinds, and no other
pub record NotesLine (k left right : ℕ) (w after : List ℕ) : Type 0 where
  pub size : length after ≡ length w
  pub left_word : get_or after (LEFTS + k) 0 ≡ left
  pub right_word : get_or after (RIGHTS + k) 0 ≡ right
  pub others : (i : ℕ) → (i ≡ LEFTS + k → ⊥) → (i ≡ RIGHTS + k → ⊥) → get_or after i 0 ≡ get_or w i 0

-- the checks of what stands behind a claim
pub record KindAt (book cert : List ℕ) (tag left right at : ℕ) (w after : List ℕ) (r : Found) : Type 0 where
  pub told : (ars : List ℕ) (B : Book Exp) (es : List (Claim Exp)) → Known book cert w ars B es
      → (l : Line Exp Pair) → LeftAt cert ars left l.claim.left → RightAt cert ars right l.claim.right → kind_number l.kind ≡ tag
      → KindFits ars (call_counts B) (length es) l.kind → Lies cert at (kind_fields l.kind)
      → Finds (line_checks one es B l.claim l.kind) (at + width (kind_fields l.kind)) r
  pub below : Below OWN w after

-- a line's checks, and the table with its claim among those before
pub record LineAt (book cert : List ℕ) (at k : ℕ) (w after : List ℕ) (r : Found) : Type 0 where
  pub told : (ars : List ℕ) (B : Book Exp) (es : List (Claim Exp)) → Known book cert w ars B es → length es ≡ k → k < 255
      → (l : Line Exp Pair) → ClaimFits ars l.claim → KindFits ars (call_counts B) k l.kind → Lies cert at (line_fields l)
      → Finds (line_checks one es B l.claim l.kind) (at + width (line_fields l)) r × Known book cert after ars B (es ++ (l.claim ∷ []))
  pub size : length after ≡ length w

-- the checks of a closing whose filling stands in the table
pub record ClosingFound (book cert : List ℕ) (line k α : ℕ) (w after : List ℕ) (r : Found) : Type 0 where
  pub told : (ars : List ℕ) (B : Book Exp) (es : List (Claim Exp)) → Known book cert w ars B es
      → (c : Closing Exp Pace) → c.line ≡ line → c.pace ≡ pace_of k α → FillsTold book cert w USED (by c.fills) → c.line < length es
      → (end : ℕ) × Finds (closing_checks one es c) end r
  pub below : Below FIRST w after

-- and its verdict
pub record ClosingBy (book cert : List ℕ) (line k α : ℕ) (w after : List ℕ) (r : Result Acceptance Refusal) : Type 0 where
  pub told : (ars : List ℕ) (B : Book Exp) (es : List (Claim Exp)) → Known book cert w ars B es
      → (c : Closing Exp Pace) → c.line ≡ line → c.pace ≡ pace_of k α → FillsTold book cert w USED (by c.fills) → c.line < length es
      → paper_verdict r ≡ ruling one (first_unmet one (map (place one closing_place c.line) (closing_checks one es c))) c
  pub below : Below FIRST w after

-- of a closing that lies at a bit
pub record ClosingAt (book cert : List ℕ) (at : ℕ) (w after : List ℕ) (r : Result Acceptance Refusal) : Type 0 where
  pub told : (ars : List ℕ) (B : Book Exp) (es : List (Claim Exp)) → Known book cert w ars B es
      → (c : Closing Exp Pace) → ClosingFits ars (length es) c → Lies cert at (closing_fields c)
      → paper_verdict r ≡ ruling one (first_unmet one (map (place one closing_place c.line) (closing_checks one es c))) c
  pub below : Below USED w after

-- the verdict that is due. Where it accepts, the table still tells where the rules and the claims of all lines lie
pub record Ruled (book cert after ars : List ℕ) (B : Book Exp) (es : List (Claim Exp)) (due : Ruling Pace) (r : Result Acceptance Refusal) : Type 0 where
  pub is : paper_verdict r ≡ due
  pub known : (line : ℕ) (pace : Pace) → paper_verdict r ≡ accept line pace → Known book cert after ars B es

-- the verdict on the n lines from number k on, and the closing
pub record LinesAt (book cert : List ℕ) (at k n : ℕ) (w after : List ℕ) (r : Result Acceptance Refusal) : Type 0 where
  pub told : (ars : List ℕ) (B : Book Exp) (es : List (Claim Exp)) → Known book cert w ars B es → length es ≡ k
      → (ls : List (Line Exp Pair)) (c : Closing Exp Pace) → length ls ≡ n → LinesFit ars (call_counts B) k ls → ClosingFits ars (k + n) c
      → Lies cert at (flat_map line_fields ls ++ closing_fields c)
      → Ruled book cert after ars B (es ++ map claim_of ls) (ruling one (first_unmet one (checks_from one B es k ls c)) c) r
  pub size : length after ≡ length w

-- the table made ready for a book
pub record Prepares (book w after : List ℕ) : Type 0 where
  pub told : (cert : List ℕ) (b : RuleBook) → KnownArities book b.arities → BookFits b → Lies book 0 (book_fields b)
      → Known book cert after b.arities b.rules []
  pub size : length after ≡ length w

-- the whole: the verdict of the judge over trees
pub record JudgesLines (book cert w after : List ℕ) (r : Result Acceptance Refusal) : Type 0 where
  pub told : (b : RuleBook) → KnownArities book b.arities → BookFits b → Lies book 0 (book_fields b)
      → (K : Certificate Exp Pair Pace) → CertificateFits b K → Lies cert 0 (certificate_fields K)
      → Ruled book cert after b.arities b.rules (map claim_of K.lines) (judge one b.rules K) r
  pub size : length after ≡ length w
