-- `instances::second::hold_term` meets its contract. The loop's invariant: the nodes met so far have come, and each settled two at most.
use native.Mathlib.Omega.{arith}
use Rattle.instances.specs.Filled.{itself}
use Rattle.instances.proofs.Goings.{meets}
use Rattle.instances.proofs.Comings.{coming_start, coming_over, coming_on, came_term, came_plain, term_comes}
use Rattle.instances.proofs.second.hold_term.Goals as goal

pub loop-header-init : goal.loop-header-init
loop-header-init c = rw c.into_iter-header-iterator.ensures.into_iter_gives (coming_start itself _ _ _ c.new-header-items.ensures, omega (arith, c.requires.nodes_bound.0, c.new-header-items.ensures.left_is))

pub hold-h-requires : goal.hold-h-requires
hold-h-requires c =
    let h = term_comes c.loop-header.invariant.0 c.item_of.ensures c.requires.room c.loop-header.invariant.1 c.requires.nodes_bound.1 in
    record { room = h.0; nodes_bound = h.1 }

pub loop-header-preserved : goal.loop-header-preserved
loop-header-preserved c =
    let turn = c.in-Some.ensures.steps in (
      coming_on itself c.loop-header.invariant.0 turn (came_plain c.item_of.ensures c.hold-h.ensures),
      omega (arith, c.loop-header.invariant.1, c.hold-h.ensures.few, (meets c.loop-header.invariant.0 turn).some),
    )

pub returns : goal.returns
returns c = came_term _ _ _ (coming_over itself c.loop-header.invariant.0 c.in-None.ensures.steps)
