-- `verdicts::refusal_line` meets its contract: a match on the number.
use Rattle.std.proofs.Common.{arith}
use Rattle.verdicts.specs.Printing.{refuse_word}
use Rattle.verdicts.proofs.Printed.{field_printed, part_printed, low_printed, between_printed, high_printed}
use Rattle.verdicts.proofs.refusal_line.Goals as goal
use Rattle.verdicts.proofs.refusal_line.Goals.{in_default-via-then-number-lt3, in_default-via-else-number-lt3+else-number-lt8+then-number-lt9, in_default-via-else-number-lt3+else-number-lt8+else-number-lt9+else-number-lt17}

pub returns-in-3-to-7 : goal.returns-in-3-to-7
unfolding refuse_word
returns-in-3-to-7 c = field_printed _ _ c.w_number-w.ensures (omega arith) (omega arith) c.put_sentence.ensures

pub returns-in-9-to-16 : goal.returns-in-9-to-16
unfolding refuse_word
returns-in-9-to-16 c = part_printed _ _ c.w_number-w.ensures (omega arith) (omega arith) c.put_sentence-in-9-to-16.ensures

pub returns-in_default : goal.returns-in_default
unfolding refuse_word
returns-in_default c =
    elim c.in_default.branch [
      | in_default-via-then-number-lt3 w ↦ low_printed _ _ c.w_number-w.ensures (omega arith) c.put_sentence-in_default.ensures
      | in_default-via-else-number-lt3+else-number-lt8+then-number-lt9 w ↦ between_printed _ _ c.w_number-w.ensures (omega arith) (omega arith) c.put_sentence-in_default.ensures
      | in_default-via-else-number-lt3+else-number-lt8+else-number-lt9+else-number-lt17 w ↦ high_printed _ _ c.w_number-w.ensures (omega arith) c.put_sentence-in_default.ensures
    ]
