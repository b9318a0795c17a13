-- What a refusal of a file tells when it is the file's first fault. 01, "Refusal numbers", 3 to 7.
use Rattle.std.specs.Prelude.{ℕ, ◌≡◌}
use Rattle.answers.specs.Carried.{refusal_at}
use Rattle.patterns.specs.Reason.{Reason}

-- `Why number place` is `Fault s p` for a file in bytes, and `ListFault l p` for a list of fields; w says which file it is
pub record Faulty (Why : ℕ → ℕ → Type 0) (w : ℕ) (r : Reason) : Type 0 where
  pub number : ℕ
  pub place : ℕ
  pub why : Why number place
  pub told : r ≡ refusal_at number w place
