-- No second answer and no second output fit a contract: 01's numbers tell the code's enums, and the output is given by an equation.
use Prim.Native.Nat.{ℕ}
use mathlib.Core.Path.{◌≡◌, sym, ◌∙◌}
use mathlib.Core.List.{List}
use Rattle.std.specs.Prelude.{Result}
use Rattle.answers.specs.declared.Refusal.{Refusal}
use Rattle.answers.proofs.Inverses.{answer_tells}
use Rattle.layout.specs.Answers.{Given}
use Rattle.layout.specs.Promises.{Answers, BookRead, BookWritten, CertificateRead, CertificateWritten}

-- ---- the four operations

answers_once : {w : ℕ} {g : Given} {before : List ℕ} {r s : Result ℕ Refusal} {after other : List ℕ}
    → Answers w g before r after → Answers w g before s other → (r ≡ s) × (after ≡ other)
answers_once {w} {g} {before} {r} {s} h k =
    (answer_tells r s (h.answered ∙ sym k.answered), h.filled ∙ sym k.filled)

module _ {before : List ℕ} {r s : Result ℕ Refusal} {after other : List ℕ} where
  pub book_read_once : {book : List ℕ} → BookRead book before r after → BookRead book before s other → (r ≡ s) × (after ≡ other)
  book_read_once h k = answers_once h.answers k.answers

  pub book_written_once : {fields : List ℕ} → BookWritten fields before r after → BookWritten fields before s other
      → (r ≡ s) × (after ≡ other)
  book_written_once h k = answers_once h.answers k.answers

  pub certificate_read_once : {book certificate : List ℕ} → CertificateRead book certificate before r after
      → CertificateRead book certificate before s other → (r ≡ s) × (after ≡ other)
  certificate_read_once h k = answers_once h.answers k.answers

  pub certificate_written_once : {book fields : List ℕ} → CertificateWritten book fields before r after
      → CertificateWritten book fields before s other → (r ≡ s) × (after ≡ other)
  certificate_written_once h k = answers_once h.answers k.answers
