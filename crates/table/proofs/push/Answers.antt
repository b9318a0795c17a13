-- `table::push` meets its contract: each kind of node is stored or pushed as the definition says.
use Rattle.table.proofs.Pushing.{push_plain, push_raised, power_fits}
use Rattle.table.proofs.push.Goals as goal

pub push_power-requires-clause-n_bound : goal.push_power-requires-clause-n_bound
push_power-requires-clause-n_bound c = power_fits _ _ _ _ _ _ c.in-Power.is c.requires.n_bound.0

pub returns-in-Plain : goal.returns-in-Plain
returns-in-Plain c = push_plain _ _ _ _ _ _ _ c.in-Plain.is c.requires.n_bound.1 c.store.ensures

pub returns-in-Power : goal.returns-in-Power
returns-in-Power c = push_raised _ _ _ _ _ _ _ _ _ c.in-Power.is c.push_power.ensures
