-- `instances::first::spell` meets its contract. The loop's invariant: the nodes met so far were pushed.
use Rattle.instances.proofs.Pushings.{took_plain, pushing_start, pushing_over, pushing_full, pushing_on, spelling_fits, spelled}
use Rattle.instances.proofs.first.spell.Goals as goal

pub loop-header-init : goal.loop-header-init
loop-header-init c = rw c.into_iter-header-iterator.ensures.into_iter_gives (pushing_start _ _ _ _ _ _ _ c.new-header-items.ensures c.requires.room.few)

pub push-requires : goal.push-requires
push-requires c =
    let h = spelling_fits _ _ _ _ _ _ _ _ _ c.loop-header.invariant (c.requires.room, c.requires.count_bound) c.item_of.ensures in
    record { room = h.0; n_bound = h.1 }

pub returns-in_err-n : goal.returns-in_err-n
returns-in_err-n c = spelled _ _ _ _ (pushing_full _ _ _ _ _ _ _ _ _ _ c.loop-header.invariant c.in-Some.ensures.steps (took_plain _ c.item_of.ensures c.push.ensures) c.in_err-n.was c.from_residual.ensures)

pub loop-header-preserved : goal.loop-header-preserved
loop-header-preserved c = pushing_on _ _ _ _ _ _ _ _ _ _ c.loop-header.invariant c.in-Some.ensures.steps (took_plain _ c.item_of.ensures c.push.ensures) c.in_ok-n.was

pub returns : goal.returns
returns c = spelled _ _ _ _ (pushing_over _ _ _ _ _ _ _ _ _ _ c.loop-header.invariant c.in-None.ensures.steps)
