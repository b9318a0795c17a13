-- `instances::second::hold_listed` meets its contract: compared or read, the nodes of the term have come.
use Rattle.instances.proofs.Passings.{onward, came_repeated, passes, passes_noted}
use Rattle.instances.proofs.second.hold_listed.Goals as goal

pub is_repeated-requires-clause-nodes_bound : goal.is_repeated-requires-clause-nodes_bound
is_repeated-requires-clause-nodes_bound c = (c.requires.nodes_bound.0, (c.requires.nodes_bound.3.told _ c.in-Some.is).within)

pub returns : goal.returns
returns c = passes (came_repeated (c.requires.nodes_bound.3.told _ c.in-Some.is) (c.is_repeated.ensures.so c.if-is_repeated.true)) c.requires.nodes_bound.3

pub remembered-requires : goal.remembered-requires
remembered-requires c = onward _ c.requires.nodes_bound.4 c.hold_term-k.ensures

pub returns-2 : goal.returns-2
returns-2 c = passes_noted c.requires.room.few c.requires.nodes_bound.4 c.hold_term-k.ensures c.requires.nodes_bound.3 c.remembered.ensures
