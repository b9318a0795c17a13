-- How many calls each rule has, as the walk over a book notes it; and the numbers that this walk hands back.
use Rattle.std.specs.Prelude.{ℕ, ◌+◌, ◌≡◌, List, [], ◌∷◌, length, set}
use Rattle.patterns.specs.First.{Exp}
use Rattle.patterns.specs.Derive.{Rule, Book}
use Rattle.fields.specs.Source.{Source}
use Rattle.fields.specs.Grammar.{Grammar}
use Rattle.fields.specs.Run.{State, run}
use Rattle.fields.specs.Run.Result.{ok}
use Rattle.fields.specs.Along.{Steps, along}
use Rattle.fields.specs.Along.End.{ok as found}
use Rattle.grammar.specs.Books.{RuleBook, a_book}
use Rattle.grammar.specs.Limits.{call_counts}

-- numbers put into a list from place k on
unfoldable pub noted : List ℕ → ℕ → List ℕ → List ℕ
noted counts k [] = counts
noted counts k (m ∷ ms) = noted (set counts k m) (k + 1) ms

abbrev pub calls_of : Rule Exp → ℕ
calls_of r = length r.calls

abbrev pub how_many_rules : Book Exp → ℕ
how_many_rules rs = length rs

abbrev pub rules_of_book : RuleBook → ℕ
rules_of_book b = length b.rules

-- if the rules were read, each one's number of calls was noted from place k on
pub record Counted (src : Source) (p : Grammar (Book Exp)) (σ : State) (k : ℕ) (before after : List ℕ) : Type 0 where
  pub all : (rs : Book Exp) (τ : State) → run src p σ ≡ ok rs τ → after ≡ noted before k (call_counts rs)

-- the same of a whole book
pub record CountedBook (src : Source) (σ : State) (before after : List ℕ) : Type 0 where
  pub all : (b : RuleBook) (τ : State) → run src a_book σ ≡ ok b τ → after ≡ noted before 0 (call_counts b.rules)

-- the same of walks along fields
pub record CountedAlong {S : Type 0} (st : Steps S) (p : Grammar (Book Exp)) (x : S) (k : ℕ) (before after : List ℕ) : Type 0 where
  pub all : (rs : Book Exp) (y : S) → along st p x ≡ found rs y → after ≡ noted before k (call_counts rs)

pub record CountedBookAlong {S : Type 0} (st : Steps S) (x : S) (before after : List ℕ) : Type 0 where
  pub all : (b : RuleBook) (y : S) → along st a_book x ≡ found b y → after ≡ noted before 0 (call_counts b.rules)
