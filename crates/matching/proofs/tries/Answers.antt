-- `matching::tries` meets its contract.
use Rattle.matching.proofs.Searching.{tries_level, tries_more}
use Rattle.matching.proofs.tries.Goals as goal

pub returns-then-level : goal.returns-then-level
returns-then-level c = tries_level _ _ _ _ _ _ c.requires.2 c.level.ensures c.if-level.true

pub returns : goal.returns
returns c = tries_more _ _ _ _ _ _ c.requires.2 c.level.ensures c.if-level.false c.last_index.ensures c.saturating_sub.ensures
