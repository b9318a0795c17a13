-- What the code's first walk over a file comes to.
use Rattle.std.specs.Prelude.{ℕ, ◌≡◌, List, cond, length, take, eqb, Result, Ok, Err}
use Rattle.answers.specs.Carried.{refusal_at, carried}
use Rattle.answers.specs.Numbers.{paper_refusal}
use Rattle.bits.specs.Packed.{width}
use Rattle.patterns.specs.Reason.{Reason}
use Rattle.fields.specs.Source.{Walk}
use Rattle.grammar.specs.Books.{RuleBook}
use Rattle.grammar.specs.Limits.{call_counts}
use Rattle.terms.specs.Values.{nothing}
use Rattle.answers.specs.declared.Refusal.{Refusal}
use Rattle.layout.specs.declared.Good.{Good}
use Rattle.layout.specs.Files.{Opened, good, bad, ends_at, open_book, open_certificate, open_call}

-- what opening a file comes to: a good file's number, fields and bits, or the refusal
abbrev pub Opening : Type 0
Opening = Result Good Refusal

-- the same in 01's numbers
pub data Sight : Type 0 where
  sees : (value fields bits : ℕ) → Sight
  shut : Reason → Sight

unfoldable pub sight : Opening → Sight
sight (Ok g) = sees g.value g.fields g.bits
sight (Err r) = shut (paper_refusal r)

unfoldable pub seen : {A : Type 0} → (A → ℕ) → Opened A → Sight
seen val (good a fs) = sees (val a) (length fs) (width fs)
seen val (bad r) = shut r

-- the book was opened, and the calls of its rules were noted
pub record BookOpened (s : List ℕ) (r : Opening) (counts : List ℕ) : Type 0 where
  pub told : sight r ≡ seen (λ b. length b.rules) (open_book s)
  pub noted : (b : RuleBook) (fs : List (ℕ × ℕ)) → open_book s ≡ good b fs
      → take (length b.rules) counts ≡ call_counts b.rules

-- the certificate beside a good book was opened
pub record CertificateOpened (book s : List ℕ) (r : Opening) : Type 0 where
  pub told : (b : RuleBook) (fs : List (ℕ × ℕ)) → open_book book ≡ good b fs → sight r ≡ seen nothing (open_certificate b s)

-- the call beside a good book was opened
pub record CallOpened (book s : List ℕ) (r : Opening) : Type 0 where
  pub told : (b : RuleBook) (fs : List (ℕ × ℕ)) → open_book book ≡ good b fs → sight r ≡ seen nothing (open_call b s)

-- what a walk over bytes, or over a list, comes to once its end is looked at
unfoldable pub seen_bytes : ℕ → List ℕ → Walk → Sight
seen_bytes w s (Ok (v, c)) = cond (ends_at s c.bit) (sees v c.n c.bit) (shut (refusal_at 7 w c.bit))
seen_bytes w s (Err (m, c)) = shut (carried m w c.bit 0)

unfoldable pub seen_list : ℕ → List ℕ → Walk → Sight
seen_list w l (Ok (v, c)) = cond (eqb c.n (length l)) (sees v c.n c.bit) (shut (refusal_at 7 w c.n))
seen_list w l (Err (m, c)) = shut (carried m w c.n 0)

-- how far a walk went
unfoldable pub walked_bits : Walk → ℕ
walked_bits (Ok (v, c)) = c.bit
walked_bits (Err (m, c)) = 0

-- a good book, and how many calls each of its rules has
pub record Beside (book counts : List ℕ) : Type 0 where
  pub tree : RuleBook
  pub fields : List (ℕ × ℕ)
  pub opened : open_book book ≡ good tree fields
  pub counted : counts ≡ call_counts tree.rules
