-- `instances::level_node` meets its contract, by the kinds of header.
use Rattle.instances.proofs.Levels.{level_node_variable, level_node_symbol, level_node_power, level_node_missing}
use Rattle.instances.proofs.level_node.Goals as goal

pub returns-in-Variable : goal.returns-in-Variable
returns-in-Variable c = level_node_variable _ _ _ c.in-Variable.is

pub returns-in-Symbol : goal.returns-in-Symbol
returns-in-Symbol c = level_node_symbol _ _ _ _ c.in-Symbol.is

pub returns-in-Power : goal.returns-in-Power
returns-in-Power c = level_node_power _ _ _ _ _ c.in-Power.is

pub returns-in-Missing : goal.returns-in-Missing
returns-in-Missing c = level_node_missing _ c.in-Missing.is
