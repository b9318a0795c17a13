-- `verdicts::put_number` meets its contract: the last digit first, and a tenth is left.
use native.Mathlib.Omega.{arith}
use Rattle.verdicts.proofs.Turns.{digits_put_none, digits_put_more, digits_put_all}
use Rattle.verdicts.proofs.put_number.Goals as goal

pub loop-k-init : goal.loop-k-init
loop-k-init c = digits_put_none c.requires (omega (arith, c.digits.ensures.0))

pub loop-k-preserved : goal.loop-k-preserved
loop-k-preserved c = digits_put_more c.requires _ c.loop-k-test.true (omega arith) c.digit.ensures c.loop-k.invariant

pub returns-clause-filled : goal.returns-clause-filled
returns-clause-filled c = digits_put_all c.requires (omega arith) c.loop-k.invariant
