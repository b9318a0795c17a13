-- What `judge` and `judge_input` promise, for every input: the verdict, and the work table afterwards. The contracts cite these records.
use Rattle.std.specs.Prelude.{ℕ, ◌≡◌, List, length, Result}
use Rattle.answers.specs.declared.Acceptance.{Acceptance}
use Rattle.answers.specs.declared.Refusal.{Refusal}
use Rattle.answers.specs.Numbers.{paper_verdict}
use Rattle.bits.specs.Bits.{Bytes}
use Rattle.verdicts.specs.Judging.{judging, work_after}
use Rattle.verdicts.specs.Program.{judging_input}

-- A book and a certificate, which are bytes, were judged with the table `work` lent; r was answered and `after` left.
pub record Judged (book certificate work : List ℕ) (r : Result Acceptance Refusal) (after : List ℕ) : Type 0 where
  pub book_bytes : Bytes book
  pub bytes : Bytes certificate
  pub answered : paper_verdict r ≡ judging book certificate (length work)
  pub cleared : after ≡ work_after work

-- The same of the program's input, which holds both.
pub record JudgedInput (input work : List ℕ) (r : Result Acceptance Refusal) (after : List ℕ) : Type 0 where
  pub bytes : Bytes input
  pub answered : paper_verdict r ≡ judging_input input (length work)
  pub cleared : after ≡ work_after work
