-- What `covers` promises, for every input: the answer, and the work table afterwards. The contract cites this record.
use Rattle.std.specs.Prelude.{ℕ, ◌≡◌, List, length, Result}
use Rattle.answers.specs.declared.Refusal.{Refusal}
use Rattle.answers.specs.Numbers.{paper_coverage}
use Rattle.bits.specs.Bits.{Bytes}
use Rattle.verdicts.specs.Judging.{work_after}
use Rattle.covers.specs.Asking.{asking}

-- A call was asked for with the table `work` lent; r was answered and `after` left. All three files are bytes.
pub record CoverTold (book certificate call work : List ℕ) (r : Result ℕ Refusal) (after : List ℕ) : Type 0 where
  pub book_bytes : Bytes book
  pub certificate_bytes : Bytes certificate
  pub call_bytes : Bytes call
  pub answered : paper_coverage r ≡ asking book certificate call (length work)
  pub cleared : after ≡ work_after work
