-- `certificates::lines` meets its contract.
use Prim.Native.Nat.{◌+◌, ◌-◌}
use native.Mathlib.Omega.{arith}
use mathlib.Core.Path.{refl}
use Rattle.std.proofs.Common.{rules}
use Rattle.fields.proofs.AlongRounds.{rounds_end, rounds_no, rounds_on}
use Rattle.certificates.proofs.Cases.{lines_rounds}
use Rattle.certificates.proofs.lines.Goals as goal

pub returns-in_err-line : goal.returns-in_err-line
returns-in_err-line g c = rounds_no (lines_rounds _ _) _ _ c.loop-number.invariant (c.args.n - (c.loop-number.number + 1)) (omega arith) c.line.ensures c.in_err-line.was (search rules)

pub loop-number-preserved : goal.loop-number-preserved
loop-number-preserved g c = rounds_on (lines_rounds _ _) _ _ c.loop-number.invariant (c.args.n - (c.loop-number.number + 1)) (omega arith) c.line.ensures _ c.in_ok-line.was (λ l e. refl) (λ l ls. refl)

pub returns : goal.returns
returns g c = rounds_end (lines_rounds _ _) _ _ c.loop-number.invariant (omega arith)
