-- The verdict of the input, and its line.
use Rattle.std.proofs.Common.{arith}
use Rattle.judge.proofs.Printing.{line_printed}
use Rattle.judge.proofs.line_for.Goals as goal

pub returns-clause-counted : goal.returns-clause-counted
returns-clause-counted c = (line_printed _ _ (omega arith) c.judge_input-verdict.ensures.answered c.verdict_line.ensures).0

pub returns-clause-written : goal.returns-clause-written
returns-clause-written c = (line_printed _ _ (omega arith) c.judge_input-verdict.ensures.answered c.verdict_line.ensures).1
