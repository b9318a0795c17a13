-- `instances::second::remembered` meets its contract: the term before it, unless no power waits on either end and no node differs.
use Rattle.instances.proofs.Passings.{held_new}
use Rattle.std.proofs.Common.{rules}
use native.Mathlib.Omega.{arith}
use Rattle.instances.proofs.second.remembered.Goals as goal

pub returns-then-after : goal.returns-then-after
returns-then-after c = held_new (search rules) (search rules) (omega arith)
