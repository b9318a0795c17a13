-- `verdicts::put_spaced` meets its contract: a space and a number, one after the other.
use native.Mathlib.Omega.{arith}
use lib.ListN.{length-set}
use Rattle.verdicts.proofs.Turns.{listed_none, listed_room, listed_more}
use Rattle.verdicts.proofs.put_spaced.Goals as goal

pub loop-n-init : goal.loop-n-init
loop-n-init c = listed_none _ _ _

pub bounds-out-k : goal.bounds-out-k
bounds-out-k c = omega (arith, listed_room c.requires (omega arith) c.loop-n.invariant)

pub overflow_add-k : goal.overflow_add-k
overflow_add-k c = omega (arith, listed_room c.requires (omega arith) c.loop-n.invariant)

pub put_number-k-requires : goal.put_number-k-requires
put_number-k-requires c = simp length-set (listed_room c.requires (omega arith) c.loop-n.invariant)

pub loop-n-preserved : goal.loop-n-preserved
loop-n-preserved c = listed_more c.requires (omega arith) c.loop-n.invariant c.put_number-k.ensures.answered c.put_number-k.ensures.filled
