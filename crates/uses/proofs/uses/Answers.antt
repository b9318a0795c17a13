-- `uses::uses` meets its contract.
use Prim.Native.Nat.{◌+◌, ◌-◌}
use native.Mathlib.Omega.{arith}
use mathlib.Core.Path.{refl}
use Rattle.std.proofs.Common.{rules}
use Rattle.fields.proofs.AlongRounds.{rounds_end, rounds_no, rounds_on}
use Rattle.uses.proofs.Cases.{uses_many}
use Rattle.uses.proofs.uses.Goals as goal

pub returns-in_err-use_line : goal.returns-in_err-use_line
returns-in_err-use_line g c = rounds_no (uses_many _ _) _ 0 c.loop.invariant (c.args.n - (c.loop.counter + 1)) (omega arith) c.use_line.ensures c.in_err-use_line.was (search rules)

pub loop-preserved : goal.loop-preserved
loop-preserved g c = rounds_on (uses_many _ _) _ 0 c.loop.invariant (c.args.n - (c.loop.counter + 1)) (omega arith) c.use_line.ensures 0 c.in_ok-use_line.was (λ u e. refl) (λ u us. refl)

pub returns : goal.returns
returns g c = rounds_end (uses_many _ _) _ 0 c.loop.invariant (omega arith)
