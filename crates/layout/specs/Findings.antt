-- What the judge finds of a file, where it walks by bits and asks only whether the file is good.
use Rattle.std.specs.Prelude.{ℕ, ◌≡◌, List, cond, length, take, Result, Ok, Err}
use Rattle.answers.specs.Carried.{refusal_at, carried}
use Rattle.answers.specs.Numbers.{paper_refusal}
use Rattle.patterns.specs.Reason.{Reason}
use Rattle.grammar.specs.Books.{RuleBook}
use Rattle.grammar.specs.Limits.{call_counts}
use Rattle.terms.specs.Values.{nothing}
use Rattle.scans.specs.Glance.{Scan}
use Rattle.answers.specs.declared.Refusal.{Refusal}
use Rattle.layout.specs.Files.{Opened, good, bad, ends_at, open_book, open_certificate}

-- a number of a good file, or the refusal
abbrev pub Finding : Type 0
Finding = Result ℕ Refusal

-- the same in 01's numbers
pub data Found : Type 0 where
  has : (value : ℕ) → Found
  faulty : Reason → Found

unfoldable pub finding : Finding → Found
finding (Ok v) = has v
finding (Err r) = faulty (paper_refusal r)

unfoldable pub found_in : {A : Type 0} → (A → ℕ) → Opened A → Found
found_in val (good a fs) = has (val a)
found_in val (bad r) = faulty r

-- the book was walked to its end, and the calls of its rules were noted
pub record BookSeen (s : List ℕ) (r : Finding) (counts : List ℕ) : Type 0 where
  pub told : finding r ≡ found_in (λ b. length b.rules) (open_book s)
  pub noted : (b : RuleBook) (fs : List (ℕ × ℕ)) → open_book s ≡ good b fs
      → take (length b.rules) counts ≡ call_counts b.rules

-- the certificate beside a good book was walked to its end
pub record CertificateSeen (book s : List ℕ) (r : Finding) : Type 0 where
  pub told : (b : RuleBook) (fs : List (ℕ × ℕ)) → open_book book ≡ good b fs → finding r ≡ found_in nothing (open_certificate b s)

-- what a walk by bits comes to once the end of the file is looked at
unfoldable pub seen_to_end : ℕ → List ℕ → Scan → Found
seen_to_end w s (Ok (v, c)) = cond (ends_at s c.at) (has v) (faulty (refusal_at 7 w c.at))
seen_to_end w s (Err (m, c)) = faulty (carried m w c.at 0)

-- how far it went
unfoldable pub scanned_bits : Scan → ℕ
scanned_bits (Ok (v, c)) = c.at
scanned_bits (Err (m, c)) = 0
