-- `bits::weave` meets its contract: no shift loses a bit, and no sum wraps.
use Rattle.bits.proofs.Shifts.{head_small, weave_small, weave_is}
use native.Mathlib.Omega.{arith}
use Rattle.bits.proofs.weave.Goals as goal

pub overflow_add-result : goal.overflow_add-result
overflow_add-result c = record { fits = weave_small _ _ c.args.x _ (head_small c.args.x c.args.p c.args.w c.args.v _ c.requires.0 c.requires.1 c.requires.2 (omega arith)) (omega arith) c.requires.0 }

pub returns : goal.returns
returns c = weave_is c.args.x c.args.p c.args.w c.args.v c.requires.0 c.requires.1 c.requires.2
