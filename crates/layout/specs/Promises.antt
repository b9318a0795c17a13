-- What the four operations promise, for every input: the answer, and the output afterwards. The contracts cite these records.
use Rattle.std.specs.Prelude.{ℕ, ◌≡◌, List, length, Result}
use Rattle.answers.specs.declared.Refusal.{Refusal}
use Rattle.answers.specs.Numbers.{paper_answer}
use Rattle.bits.specs.Bits.{Bytes}
use Rattle.patterns.specs.Reason.{book_place, certificate_place}
use Rattle.layout.specs.Answers.{Given, reading_book, writing_book, reading_certificate, writing_certificate, told, output}

-- An operation on the file W gives g. It was lent `before`, answered r and left `after`.
pub record Answers (w : ℕ) (g : Given) (before : List ℕ) (r : Result ℕ Refusal) (after : List ℕ) : Type 0 where
  pub answered : paper_answer r ≡ told w g (length before)
  pub filled : after ≡ output g before

-- ---- the four operations; the elements of a `&[u8]` are bytes, and the records say so

pub record BookRead (book before : List ℕ) (r : Result ℕ Refusal) (after : List ℕ) : Type 0 where
  pub bytes : Bytes book
  pub answers : Answers book_place (reading_book book) before r after

pub record BookWritten (fields before : List ℕ) (r : Result ℕ Refusal) (after : List ℕ) : Type 0 where
  pub answers : Answers book_place (writing_book fields) before r after

pub record CertificateRead (book certificate before : List ℕ) (r : Result ℕ Refusal) (after : List ℕ) : Type 0 where
  pub book_bytes : Bytes book
  pub bytes : Bytes certificate
  pub answers : Answers certificate_place (reading_certificate book certificate) before r after

pub record CertificateWritten (book fields before : List ℕ) (r : Result ℕ Refusal) (after : List ℕ) : Type 0 where
  pub book_bytes : Bytes book
  pub answers : Answers certificate_place (writing_certificate book fields) before r after
