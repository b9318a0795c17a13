-- `instances::second::hold_filled` meets its contract: a listed variable's term comes, any other node reindexed.
use Rattle.instances.proofs.Comings.{came_unlisted}
use Rattle.instances.proofs.Instances.{gives_term}
use Rattle.instances.proofs.Passings.{passes_as, passes}
use Rattle.instances.proofs.second.hold_filled.Goals as goal

pub returns-then-word-eq0 : goal.returns-then-word-eq0
returns-then-word-eq0 c = passes (came_unlisted _ _ _ _ _ _ _ c.word_of-word.ensures c.if-word-eq0.true c.item_of.ensures c.hold.ensures) c.requires.nodes_bound.3

pub returns : goal.returns
returns c = passes_as (gives_term _ _ _ _ _ _ _ _ c.word_of-word.ensures c.if-word-eq0.false) c.hold_listed.ensures
