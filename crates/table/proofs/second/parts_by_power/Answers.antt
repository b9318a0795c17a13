-- `table::second::parts_by_power` meets its contract: the sides parted before, or the stored node is that power, or they part here.
use Rattle.table.proofs.Parting.{power_before, power_alike, power_here}
use native.Mathlib.Omega.{arith}
use Rattle.table.proofs.second.parts_by_power.Goals as goal

pub returns-then-k-parts : goal.returns-then-k-parts
returns-then-k-parts c = power_before (omega arith)

pub returns-then-is_power : goal.returns-then-is_power
returns-then-is_power c = power_alike (omega arith) c.is_power.ensures c.if-is_power.true

pub returns : goal.returns
returns c = power_here (omega arith) c.is_power.ensures c.if-is_power.false
