-- `matching::match_node` meets its contract.
use Rattle.matching.proofs.Meeting.{low_variable, meets_symbol, meets_power, meets_nothing, header_variable, header_symbol, header_power, header_missing}
use native.Mathlib.Omega.{arith}
use Rattle.matching.proofs.match_node.Goals as goal

pub meet-requires : goal.meet-requires
meet-requires c = (c.requires.0, c.requires.1, low_variable c.in-Variable.is c.requires.2)

pub returns-in-Variable : goal.returns-in-Variable
returns-in-Variable c = header_variable _ _ _ _ _ _ c.in-Variable.is c.meet.ensures

pub returns-in-Symbol : goal.returns-in-Symbol
returns-in-Symbol c = header_symbol _ _ _ _ _ _ c.in-Symbol.is (meets_symbol _ c.under.ensures)

pub returns-in-Power : goal.returns-in-Power
returns-in-Power c = header_power _ _ _ _ _ _ c.in-Power.is c.times.ensures.0 (omega arith) (meets_power _ _ c.below.ensures)

pub returns-in-Missing : goal.returns-in-Missing
returns-in-Missing c = header_missing _ _ _ _ _ _ c.in-Missing.is (meets_nothing _ _ _ c.requires.1)
