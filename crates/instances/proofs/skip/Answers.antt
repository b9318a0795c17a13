-- `instances::skip` meets its contract. The loop's invariant: the walk is under way.
use Rattle.instances.proofs.Goings.{going_start, going_over, going_on, skipped}
use Rattle.instances.proofs.skip.Goals as goal

pub loop-init : goal.loop-init
loop-init c = going_start c.new-walk.ensures tt

pub loop-preserved : goal.loop-preserved
loop-preserved c = going_on c.loop.invariant c.in-Some.ensures.steps tt

pub returns : goal.returns
returns c = skipped _ _ _ _ _ (going_over c.loop.invariant c.in_default.ensures.steps)
