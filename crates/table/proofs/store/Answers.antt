-- `table::store` meets its contract: the node is written behind the last, unless there are 1,024 already.
use Rattle.table.proofs.Pushing.{store_full, store_one}
use native.Mathlib.Omega.{arith}
use Rattle.table.proofs.store.Goals as goal

pub returns-then-n-eq-NODES : goal.returns-then-n-eq-NODES
returns-then-n-eq-NODES c = store_full _ _ _ _ _ _ c.requires (omega arith)

pub returns : goal.returns
returns c = store_one _ _ _ _ _ _ c.requires _ c.if-n-eq-NODES.false c.write_node.ensures
