-- What an accepted certificate leaves in the work table for whatever asks more of it: the bit where the left of the named line begins.
use Rattle.std.specs.Prelude.{ℕ, ◌+◌, ◌≡◌, List, map, get_or, Result}
use Rattle.std.proofs.Math.Option.{some}
use Rattle.std.proofs.Math.ListN.{get_elem?}
use Rattle.answers.specs.declared.Acceptance.{Acceptance}
use Rattle.answers.specs.declared.Refusal.{Refusal}
use Rattle.answers.specs.Numbers.{paper_verdict}
use Rattle.patterns.specs.First.{Exp, Pair, Pace}
use Rattle.patterns.specs.Certificate.{Claim, Certificate, claim_of}
use Rattle.patterns.specs.Judge.{accept}
use Rattle.grammar.specs.Books.{RuleBook}
use Rattle.grammar.specs.Listing.{Fields}
use Rattle.layout.specs.Files.{good, open_book, open_certificate}
use Rattle.table.specs.Places.{LEFTS}
use Rattle.begins.specs.Placed.{LeftAt}

-- r was answered and the table `after` left. Of a refusal nothing is said.
pub record Placed (book certificate after : List ℕ) (r : Result Acceptance Refusal) : Type 0 where
  pub left : (line : ℕ) (pace : Pace) → paper_verdict r ≡ accept line pace → (b : RuleBook) (fs : Fields) → open_book book ≡ good b fs
      → (K : Certificate Exp Pair Pace) (gs : Fields) → open_certificate b certificate ≡ good K gs
      → (p : Claim Exp) → get_elem? (map claim_of K.lines) line ≡ some p
      → LeftAt certificate b.arities (get_or after (LEFTS + line) 0) p.left
