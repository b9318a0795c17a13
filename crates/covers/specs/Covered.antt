-- When a call is covered, and which refusal is the first: 02, Ticket 1, "stated without running the search".
use Rattle.std.specs.Prelude.{ℕ, ◌≡◌, List, [], ◌∷◌, map}
use Rattle.std.proofs.Math.Option.{some}
use Rattle.std.proofs.Math.ListN.{get_elem?}
use Rattle.answers.specs.Carried.{refusal_at}
use Rattle.bits.specs.Packed.{packed}
use Rattle.patterns.specs.Derive.{Query, Steps}
use Rattle.patterns.specs.Edition.{at}
use Rattle.patterns.specs.Reason.{Reason, call_place}
use Rattle.patterns.specs.First.{Exp, Pattern, Pace, one}
use Rattle.patterns.specs.Certificate.{Claim, claim_of}
use Rattle.patterns.specs.Claims.{program}
use Rattle.covering.specs.Covers.{Covers, Smallest}
use Rattle.fields.specs.Faults.{Fault}
use Rattle.grammar.specs.Books.{RuleBook, arity_in}
use Rattle.grammar.specs.Calls.{a_call}
use Rattle.grammar.specs.Limits.{TermFits}
use Rattle.grammar.specs.Listing.{term_fields}
use Rattle.verdicts.specs.Demands.{BookFile, Acceptable, FirstRefusal}
use Rattle.covers.specs.Asking.{not_covered}

-- "one packed call without index (padded as a file)": the bytes are the packed fields of a term within the limits with a = 0
pub record CallFile (b : RuleBook) (call : List ℕ) (c : Pattern) : Type 0 where
  pub limits : TermFits b.arities 1 c
  pub layout : call ≡ packed (term_fields c)

-- "Given an accepted certificate and one packed call": the certificate is accepted, and the call keeps its layout
pub record Asked (book certificate call : List ℕ) (size : ℕ) : Type 0 where
  pub line : ℕ
  pub pace : Pace
  pub accepted : Acceptable book certificate size line pace
  pub claim : Claim Exp
  pub named : get_elem? (map claim_of accepted.tree.lines) line ≡ some claim
  pub term : Pattern
  pub call_file : CallFile accepted.rule_book call term

-- the accepted pattern at index i, somehow filled, is the call; i is the start α or above
abbrev pub CoversAt : {book certificate call : List ℕ} {size : ℕ} → Asked book certificate call size → ℕ → Type 0
CoversAt g i = Covers g.claim.left g.pace.α g.term i

-- "If yes, give the smallest such index."
pub record CoveredAt (book certificate call : List ℕ) (size i : ℕ) : Type 0 where
  pub asked : Asked book certificate call size
  pub smallest : Smallest asked.claim.left asked.pace.α asked.term i

-- no index covers the call
pub record Uncovered (book certificate call : List ℕ) (size : ℕ) : Type 0 where
  pub asked : Asked book certificate call size
  pub never : (i : ℕ) → ¬ CoversAt asked i

-- "Refusals: the judge's own first; then 3 to 7 for the call, with W = 5, where a above 0 is 4; then 17, W = 4, not covered."
pub data FirstDenial (book certificate call : List ℕ) (size : ℕ) (r : Reason) : Type 0 where
  not_accepted : FirstRefusal book certificate size r → FirstDenial book certificate call size r
  -- 3 to 7, as the fields tell that stand in the call
  bad_call : (line : ℕ) (pace : Pace) (a : Acceptable book certificate size line pace) (number place : ℕ)
      → Fault call (a_call (arity_in a.rule_book.arities)) number place → r ≡ refusal_at number call_place place
      → FirstDenial book certificate call size r
  none_covers : Uncovered book certificate call size → r ≡ not_covered → FirstDenial book certificate call size r

-- what a yes says to whoever asked: from the call there is a derivation of exactly n steps, for every n
pub record CallNeverStuck (book call : List ℕ) : Type 0 where
  pub rule_book : RuleBook
  pub book_file : BookFile book rule_book
  pub term : Pattern
  pub call_file : CallFile rule_book call term
  pub derives : (n : ℕ) → (Q : Query) × Steps (program one rule_book.rules) n (at one 0 term ∷ []) Q
