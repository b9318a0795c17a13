-- `table::reindexed` meets its contract: the numbers are those of the shifted exponent, and their sum is below 2^34.
use Rattle.table.proofs.Reindexing.{reindexed_power}
use native.Mathlib.Omega.{arith}
use Rattle.table.proofs.reindexed.Goals as goal

pub returns : goal.returns
returns c = reindexed_power _ _ _ _ _ _ _ c.times.ensures.0 c.times-2.ensures.0 c.times.ensures.1 c.times-2.ensures.1 (omega arith)
