-- `instances::level` meets its contract. The loop's invariant: a = 0 in every node met so far.
use Rattle.instances.proofs.Levels.{levelling_start, levelling_over, levelling_not, levelling_on}
use mathlib.Core.Bool.{not}
use Rattle.std.proofs.Common.{ap}
use Rattle.instances.proofs.level.Goals as goal

pub loop-header-init : goal.loop-header-init
loop-header-init c = rw c.into_iter-header-iterator.ensures.into_iter_gives (levelling_start c.new-header-items.ensures)

pub returns-then-not-level_node : goal.returns-then-not-level_node
returns-then-not-level_node c = levelling_not c.loop-header.invariant c.in-Some.ensures.steps _ c.level_node.ensures (ap not c.if-not-level_node.true)

pub loop-header-preserved : goal.loop-header-preserved
loop-header-preserved c = levelling_on c.loop-header.invariant c.in-Some.ensures.steps _ c.level_node.ensures (ap not c.if-not-level_node.false)

pub returns : goal.returns
returns c = levelling_over c.loop-header.invariant c.in-None.ensures.steps
