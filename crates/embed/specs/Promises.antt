-- What the functions of the door promise: the numbers of the answer, and what a call leaves in lent memory.
use Rattle.std.specs.Prelude.{ℕ, ◌≡◌, List, length}
use Rattle.layout.specs.Answers.{Given, told, output}
use Rattle.verdicts.specs.Judging.{judging, work_after}
use Rattle.covers.specs.Asking.{asking}
use Rattle.embed.specs.Numbers.{answer_numbers, verdict_numbers, coverage_numbers}

-- A file w was read or written, which gives g: `numbers` are the answer, and `out` has become `after`.
pub record FileTold (w : ℕ) (g : Given) (out after numbers : List ℕ) : Type 0 where
  pub answered : numbers ≡ answer_numbers (told w g (length out))
  pub filled : after ≡ output g out

-- A certificate was judged over its book: `numbers` are the answer, and `work` has become `after`.
pub record JudgeTold (book certificate work after numbers : List ℕ) : Type 0 where
  pub answered : numbers ≡ verdict_numbers (judging book certificate (length work))
  pub cleared : after ≡ work_after work

-- It was asked whether a call is covered: `numbers` are the answer, and `work` has become `after`.
pub record CallTold (book certificate call work after numbers : List ℕ) : Type 0 where
  pub answered : numbers ≡ coverage_numbers (asking book certificate call (length work))
  pub cleared : after ≡ work_after work
