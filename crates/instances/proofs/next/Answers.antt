-- `instances::next` meets its contract, by the kinds of header.
use native.Mathlib.Omega.{arith}
use Rattle.instances.specs.Walks.{next_stand}
use Rattle.instances.proofs.next.Goals as goal

pub returns-in-Variable : goal.returns-in-Variable
unfolding next_stand
returns-in-Variable c = record { is = simp c.in-Variable.is; few = omega arith }

pub returns-in-Symbol : goal.returns-in-Symbol
unfolding next_stand
returns-in-Symbol c = record { is = simp c.in-Symbol.is; few = omega arith }

pub returns-in-Power : goal.returns-in-Power
unfolding next_stand
returns-in-Power c = record { is = simp c.in-Power.is; few = omega arith }

pub returns-in-Missing : goal.returns-in-Missing
unfolding next_stand
returns-in-Missing c = record { is = simp c.in-Missing.is; few = omega arith }
