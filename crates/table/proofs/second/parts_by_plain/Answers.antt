-- `table::second::parts_by_plain` meets its contract: as for a power, by one word.
use Rattle.table.proofs.Parting.{next_before, plain_alike, plain_here}
use native.Mathlib.Omega.{arith}
use Rattle.table.proofs.second.parts_by_plain.Goals as goal

pub returns-then-k-parts : goal.returns-then-k-parts
returns-then-k-parts c = next_before (omega arith)

pub returns-then-w-base : goal.returns-then-w-base
returns-then-w-base c = plain_alike (omega arith) c.requires.not_code c.if-w-base.true

pub returns : goal.returns
returns c = plain_here (omega arith) c.if-w-base.false
