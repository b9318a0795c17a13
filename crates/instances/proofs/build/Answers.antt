-- `instances::build` meets its contract. The loop's invariant: what the nodes met so far give was pushed, and a term is remembered.
use native.Mathlib.Omega.{arith}
use Rattle.instances.proofs.Pushings.{pushing_start, pushing_full, pushing_on}
use mathlib.Core.Path.{refl}
use Rattle.instances.proofs.Repeats.{remembers_none, grown_full, grown_to, recalled}
use Rattle.instances.proofs.Instances.{step_filled, building_fits, built_over, built_full}
use Rattle.instances.proofs.build.Goals as goal

pub loop-header-init : goal.loop-header-init
loop-header-init c = (pushing_start _ _ _ _ _ _ _ c.new-walk.ensures (omega arith), remembers_none)

pub push_filled-requires : goal.push_filled-requires
push_filled-requires c = let h = building_fits _ _ _ _ _ _ _ _ _ _ _ _ c.loop-header.invariant.0 c.requires (omega arith) (omega arith) c.loop-header.invariant.1 in record { room = h.0; n_bound = h.1 }

pub returns-in_err-grown : goal.returns-in_err-grown
returns-in_err-grown c = built_full _ _ _ _ _ _ _ _ _ _ (pushing_full _ _ _ _ _ _ _ _ _ _ c.loop-header.invariant.0 c.in-Some.ensures.steps (step_filled _ _ _ _ _ _ _ _ c.requires.1 c.loop-header.invariant.0.holds.kept c.push_filled.ensures.took) (grown_full c.in_err-grown.was) refl) c.from_residual.ensures

pub loop-header-preserved : goal.loop-header-preserved
loop-header-preserved c = (pushing_on _ _ _ _ _ _ _ _ _ _ c.loop-header.invariant.0 c.in-Some.ensures.steps (step_filled _ _ _ _ _ _ _ _ c.requires.1 c.loop-header.invariant.0.holds.kept c.push_filled.ensures.took) (grown_to c.in_ok-grown.was), recalled c.in_ok-grown.was c.push_filled.ensures.recalls)

pub returns : goal.returns
returns c = built_over _ _ _ _ _ _ _ _ _ _ c.loop-header.invariant.0 c.in_default.ensures.steps
