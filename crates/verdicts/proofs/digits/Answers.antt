-- `verdicts::digits` meets its contract: between two powers of ten there is one digit more than the lower has noughts.
use native.Mathlib.Omega.{arith}
use Rattle.verdicts.proofs.Decimal.{length_last, length_between}
use Rattle.verdicts.proofs.digits.Goals as goal

pub returns-in-Some : goal.returns-in-Some
returns-in-Some c = let e = length_between _ _ c.in-Some.ensures.power_le c.in-Some.ensures.next_power_gt in (omega (arith, e), omega (arith, c.in-Some.ensures.bound))

pub returns-in-None : goal.returns-in-None
returns-in-None c = (omega (arith, length_last c.args.n (omega (arith, c.in-None.ensures.none))), omega arith)
