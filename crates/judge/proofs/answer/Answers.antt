-- What was read is the beginning of the input, and what was written is its line.
use Rattle.std.proofs.Common.{take, arith}
use Rattle.judge.proofs.Taking.{first_taken_on_ok}
use Rattle.judge.proofs.answer.Goals as goal

pub returns : goal.returns
returns g c = (
  take c.read_full-count.result.0 c.read_full-count.new.buf,
  c.read_full-count.ensures.taken,
  first_taken_on_ok _ _ _ _ 65536 _ (omega arith) c.read_full-count.ensures.counted c.read_full-count.ensures.taken c.read_full-count.ensures.ended,
  rw (← c.line_for-length.ensures.written) c.write_all-written.ensures.bytes,
)
