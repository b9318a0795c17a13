-- `instances::fillings::list_pairs` meets its contract. The loop's invariant: where the pairs that are left are noted from here on, all are.
use Rattle.instances.proofs.Noting.{rest_first, rest_pair, rest_none}
use native.Mathlib.Omega.{arith}
use Rattle.instances.proofs.fillings.list_pairs.Goals as goal

pub loop-init : goal.loop-init
loop-init c = rest_first _ _ _ _ _ _

pub loop-preserved : goal.loop-preserved
loop-preserved c = rest_pair _ _ _ _ _ _ c.loop.invariant (omega arith) c.loop-test.true c.field-variable.ensures c.skip-end.ensures

pub returns : goal.returns
returns c = rest_none _ _ _ _ _ _ c.loop.invariant (omega arith)
