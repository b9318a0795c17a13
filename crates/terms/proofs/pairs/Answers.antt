-- `terms::pairs` meets its contract.
use Prim.Native.Nat.{◌+◌, ◌-◌}
use native.Mathlib.Omega.{arith}
use mathlib.Core.Path.{refl, ap}
use Rattle.std.proofs.Common.{rules}
use Rattle.fields.proofs.AlongRounds.{rounds_end, rounds_no, rounds_on}
use Rattle.terms.proofs.Fillings.{pairs_rounds, pair_below}
use Rattle.terms.proofs.pairs.Goals as goal

pub returns-in_err-next : goal.returns-in_err-next
returns-in_err-next g c = rounds_no (pairs_rounds _) _ _ c.loop.invariant (c.args.n - (c.loop.counter + 1)) (omega arith) c.pair.ensures c.in_err-next.was (search rules)

pub overflow_add-next : goal.overflow_add-next
overflow_add-next g c = let h = pair_below _ _ c.pair.ensures c.in_ok-next.was in omega arith

pub loop-preserved : goal.loop-preserved
loop-preserved g c = rounds_on (pairs_rounds _) _ _ c.loop.invariant (c.args.n - (c.loop.counter + 1)) (omega arith) c.pair.ensures _ c.in_ok-next.was (λ p e. ap (λ x. x + 1) e) (λ p ps. refl)

pub returns : goal.returns
returns g c = rounds_end (pairs_rounds _) _ _ c.loop.invariant (omega arith)
