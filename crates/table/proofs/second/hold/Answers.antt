-- `table::second::hold` meets its contract, by the two kinds of item.
use Rattle.table.proofs.Holding.{comes_as_plain, comes_as_power, plain_code, power_fits_in}
use Rattle.table.proofs.second.hold.Goals as goal

pub hold_plain-requires-clause-nodes_bound : goal.hold_plain-requires-clause-nodes_bound
hold_plain-requires-clause-nodes_bound c = (c.requires.nodes_bound.0, plain_code c.in-Plain.is c.requires.nodes_bound.2)

pub hold_power-requires-clause-nodes_bound : goal.hold_power-requires-clause-nodes_bound
hold_power-requires-clause-nodes_bound c = (c.requires.nodes_bound.0, power_fits_in _ _ c.in-Power.is c.requires.nodes_bound.1)

pub returns-in-Plain : goal.returns-in-Plain
returns-in-Plain c = comes_as_plain c.in-Plain.is c.hold_plain.ensures

pub returns-in-Power : goal.returns-in-Power
returns-in-Power c = comes_as_power c.in-Power.is c.hold_power.ensures
