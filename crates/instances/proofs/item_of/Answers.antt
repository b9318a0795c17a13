-- `instances::item_of` meets its contract, by the kinds of header.
use Rattle.instances.proofs.Items.{item_variable, item_symbol, item_power, item_missing}
use Rattle.instances.proofs.item_of.Goals as goal

pub returns-in-Variable : goal.returns-in-Variable
returns-in-Variable c = item_variable c.in-Variable.is

pub returns-in-Symbol : goal.returns-in-Symbol
returns-in-Symbol c = item_symbol c.in-Symbol.is

pub returns-in-Power : goal.returns-in-Power
returns-in-Power c = item_power c.in-Power.is c.reindexed.ensures

pub returns-in-Missing : goal.returns-in-Missing
returns-in-Missing c = item_missing c.in-Missing.is
