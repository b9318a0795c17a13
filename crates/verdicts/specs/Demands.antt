-- Demands 2 and 3 over bytes: when a certificate is to be accepted, which refusal is the first, and what an accepted one promises.
use Rattle.std.specs.Prelude.{ℕ, ◌≤◌, ◌<◌, ◌≡◌, List, [], ◌∷◌, map, length}
use Rattle.std.proofs.Math.Option.{some}
use Rattle.std.proofs.Math.ListN.{get_elem?}
use Rattle.table.specs.Places.{WORDS}
use Rattle.answers.specs.Carried.{refusal_at}
use Rattle.bits.specs.Packed.{packed}
use Rattle.patterns.specs.Term.{Filling, fill}
use Rattle.patterns.specs.Derive.{Query, Steps}
use Rattle.patterns.specs.Edition.{at}
use Rattle.patterns.specs.Certificate.{Claim, Certificate, claim_of}
use Rattle.patterns.specs.Checks.{Good}
use Rattle.patterns.specs.Claims.{program}
use Rattle.patterns.specs.Reason.{Reason, book_place, certificate_place, neither_place}
use Rattle.patterns.specs.Judge.{Small, FirstBroken}
use Rattle.patterns.specs.First.{Exp, Pair, Pace, one}
use Rattle.fields.specs.Faults.{Fault}
use Rattle.grammar.specs.Books.{RuleBook, a_book}
use Rattle.grammar.specs.Limits.{BookFits, CertificateFits}
use Rattle.grammar.specs.Listing.{book_fields, certificate_fields}
use Rattle.layout.specs.Files.{certificate_of}

-- ---- files that keep 01's layout and limits

-- the bytes are the packed fields of a book within the limits
pub record BookFile (book : List ℕ) (b : RuleBook) : Type 0 where
  pub limits : BookFits b
  pub layout : book ≡ packed (book_fields b)
  pub short : length book ≤ 16384

-- the bytes are the packed fields of a certificate within the limits, over its book
pub record CertificateFile (b : RuleBook) (certificate : List ℕ) (K : Certificate Exp Pair Pace) : Type 0 where
  pub limits : CertificateFits b K
  pub layout : certificate ≡ packed (certificate_fields K)
  pub short : length certificate ≤ 32768

-- ---- demand 2

-- both files keep layout and limits, every check holds, no compared side has more than 1,024 nodes; and the answer is the closing's
-- own line, k and α
pub record Acceptable (book certificate : List ℕ) (size line : ℕ) (pace : Pace) : Type 0 where
  pub table : WORDS ≤ size
  pub rule_book : RuleBook
  pub book_file : BookFile book rule_book
  pub tree : Certificate Exp Pair Pace
  pub certificate_file : CertificateFile rule_book certificate tree
  pub good : Good one rule_book.rules tree
  pub small : Small one rule_book.rules tree
  pub own_line : line ≡ tree.closing.line
  pub own_pace : pace ≡ tree.closing.pace

-- 01: "Order: 1; 2 (book first); the whole book field by field; the whole certificate; then lines from 0 up; then closing."
pub data FirstRefusal (book certificate : List ℕ) (size : ℕ) (r : Reason) : Type 0 where
  short_table : size < WORDS → r ≡ refusal_at 1 neither_place 0 → FirstRefusal book certificate size r
  long_book : WORDS ≤ size → 16384 < length book → r ≡ refusal_at 2 book_place 0 → FirstRefusal book certificate size r
  long_certificate : WORDS ≤ size → length book ≤ 16384 → 32768 < length certificate → r ≡ refusal_at 2 certificate_place 0
      → FirstRefusal book certificate size r
  -- 3 to 7, as the fields tell that stand in the file (`Fault`)
  bad_book : WORDS ≤ size → length book ≤ 16384 → length certificate ≤ 32768 → (number place : ℕ) → Fault book a_book number place
      → r ≡ refusal_at number book_place place → FirstRefusal book certificate size r
  bad_certificate : WORDS ≤ size → (b : RuleBook) → BookFile book b → length certificate ≤ 32768 → (number place : ℕ)
      → Fault certificate (certificate_of b) number place → r ≡ refusal_at number certificate_place place
      → FirstRefusal book certificate size r
  broken_check : WORDS ≤ size → (b : RuleBook) → BookFile book b → (K : Certificate Exp Pair Pace)
      → CertificateFile b certificate K → FirstBroken one b.rules K r → FirstRefusal book certificate size r

-- ---- demand 3

-- the left of the named line, at every index from α on and filled by any terms, has a derivation of exactly n steps, for every n
pub record NeverStuck (book certificate : List ℕ) (line α : ℕ) : Type 0 where
  pub rule_book : RuleBook
  pub book_file : BookFile book rule_book
  pub tree : Certificate Exp Pair Pace
  pub certificate_file : CertificateFile rule_book certificate tree
  pub claim : Claim Exp
  pub named : get_elem? (map claim_of tree.lines) line ≡ some claim
  pub derives : (i : ℕ) → α ≤ i → (σ : Filling (Unit {0})) (n : ℕ)
      → (Q : Query) × Steps (program one rule_book.rules) n (fill σ (at one i claim.left) ∷ []) Q
