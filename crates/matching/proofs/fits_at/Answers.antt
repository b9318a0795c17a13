-- `matching::fits_at` meets its contract. The loop's invariant: the nodes met so far match.
use Rattle.instances.proofs.Goings.{meets}
use Rattle.matching.proofs.Walking.{walking_start, walking_spans, walking_over, walking_off, walking_on}
use Rattle.matching.proofs.fits_at.Goals as goal

pub loop-header-init : goal.loop-header-init
loop-header-init c = rw c.into_iter-header-iterator.ensures.into_iter_gives (walking_start _ _ _ _ _ _ c.requires c.forget.ensures c.new-header-items.ensures)

pub match_node-requires : goal.match_node-requires
match_node-requires c = (
  walking_spans _ _ _ _ _ _ c.requires c.loop-header.invariant,
  c.loop-header.invariant.inside,
  (meets c.loop-header.invariant.going c.in-Some.ensures.steps).named,
)

pub returns-in_default : goal.returns-in_default
returns-in_default c = walking_off _ _ _ _ _ _ c.requires c.loop-header.invariant c.in-Some.ensures.steps c.match_node.ensures c.in_default.is

pub loop-header-preserved : goal.loop-header-preserved
loop-header-preserved c = walking_on _ _ _ _ _ _ c.requires c.loop-header.invariant c.in-Some.ensures.steps c.match_node.ensures c.in-Some-match_node.is

pub returns : goal.returns
returns c = walking_over _ _ _ _ _ _ c.requires c.loop-header.invariant c.in-None.ensures.steps
