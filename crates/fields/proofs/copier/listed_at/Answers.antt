-- `fields::copier::listed_at` meets its contract.
use Rattle.bits.proofs.Shifts.{one_shifted}
use Rattle.fields.proofs.Sources.{listed_got, listed_wide, listed_past}
use native.Mathlib.Omega.{arith}
use mathlib.Core.Path.{sym}
use Rattle.fields.proofs.copier.listed_at.Goals as goal

pub returns-then-from-w : goal.returns-then-from-w
returns-then-from-w c = sym (listed_got _ _ _ c.if-n-l.true (omega (arith, one_shifted c.args.w (omega arith))))

pub returns-then-n-l : goal.returns-then-n-l
returns-then-n-l c = sym (listed_wide _ _ _ c.if-n-l.true (omega (arith, one_shifted c.args.w (omega arith))))

pub returns : goal.returns
returns c = sym (listed_past _ _ _ c.if-n-l.false)
