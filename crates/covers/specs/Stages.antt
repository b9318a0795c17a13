-- What the stages of `covers` are told and answer.
use Rattle.std.specs.Prelude.{ℕ, ◌≡◌, List, Result, Ok}
use Rattle.answers.specs.declared.Refusal.{Refusal}
use Rattle.answers.specs.Numbers.{denied, paper_verdict, paper_coverage}
use Rattle.answers.specs.declared.Acceptance.{Acceptance}
use Rattle.bits.specs.Bits.{Bytes}
use Rattle.patterns.specs.First.{Pattern}
use Rattle.covering.specs.Search.{covering}
use Rattle.grammar.specs.Books.{RuleBook, arity_in}
use Rattle.grammar.specs.Listing.{Fields}
use Rattle.layout.specs.Files.{good, where_good, open_book, open_call}
use Rattle.begins.specs.Placed.{LeftAt}
use Rattle.verdicts.specs.Judging.{judging_files}
use Rattle.judging.specs.Placed.{Placed}
use Rattle.covers.specs.Asking.{told_index}

-- the certificate is accepted with a, and the table tells where the left of the named line lies
pub record Ready (book certificate work : List ℕ) (a : Acceptance) : Type 0 where
  pub book_bytes : Bytes book
  pub certificate_bytes : Bytes certificate
  pub verdict : paper_verdict (Ok a) ≡ judging_files book certificate
  pub placed : Placed book certificate work (Ok a)

-- the answer for a call, where the accepted pattern lies at a bit of the certificate
pub record AsksCall (book certificate call : List ℕ) (at α : ℕ) (r : Result ℕ Refusal) : Type 0 where
  pub told : (b : RuleBook) (fs : Fields) → open_book book ≡ good b fs → (t : Pattern) → LeftAt certificate b.arities at t
      → paper_coverage r ≡ where_good denied (open_call b call) λ c. told_index (covering (arity_in b.arities) t α c)
