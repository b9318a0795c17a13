-- `instances::second::hold_instance` meets its contract. The loop's invariant: what the nodes met so far give has come, that is no more than fits, and a term is remembered.
use mathlib.Core.Path.{refl}
use native.Mathlib.Omega.{arith}
use Rattle.instances.proofs.Repeats.{remembers_none}
use Rattle.instances.proofs.Comings.{coming_start, coming_on, instance_comes, against_over, against_full}
use Rattle.instances.proofs.second.hold_instance.Goals as goal

pub loop-header-init : goal.loop-header-init
loop-header-init c =
    let zeros = c.default.ensures in
    rw c.into_iter-header-iterator.ensures.into_iter_gives (
      coming_start _ _ _ _ c.new-header-items.ensures,
      omega (arith, zeros.0),
      remembers_none,
      record { nodes = zeros.0; parts = refl; power = zeros.1.1 },
    )

pub hold_filled-passed-requires : goal.hold_filled-passed-requires
hold_filled-passed-requires c = let h = instance_comes _ _ _ _ _ _ _ _ _ _ c.loop-header.invariant.3 c.loop-header.invariant.0 c.requires.room c.requires.fills_in_bounds c.loop-header.invariant.1 (omega arith) (omega arith) c.loop-header.invariant.2 in record { room = h.0; nodes_bound = h.1 }

pub returns-then-passed-gt-NODES : goal.returns-then-passed-gt-NODES
returns-then-passed-gt-NODES c = against_full _ _ _ _ _ _ _ _ _ _ c.loop-header.invariant.3 (coming_on _ c.loop-header.invariant.0 c.in-Some.ensures.steps c.hold_filled-passed.ensures.came) (omega (arith, c.if-passed-gt-NODES.true))

pub loop-header-preserved : goal.loop-header-preserved
loop-header-preserved c = (coming_on _ c.loop-header.invariant.0 c.in-Some.ensures.steps c.hold_filled-passed.ensures.came, omega (arith, c.if-passed-gt-NODES.false), c.hold_filled-passed.ensures.remembers, c.loop-header.invariant.3)

pub returns : goal.returns
returns c = against_over _ _ _ _ _ _ _ _ _ _ c.loop-header.invariant.3 c.loop-header.invariant.0 c.in-None.ensures.steps c.outcome.ensures
