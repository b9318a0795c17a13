-- `table::copy` meets its contract. The loop's invariant: k nodes are copied.
use native.Mathlib.Omega.{arith}
use Rattle.table.proofs.Nodes.{words_written}
use Rattle.table.proofs.Copies.{copied_none, copied_full, copied_more}
use Rattle.table.proofs.copy.Goals as goal

pub returns-then-n-count-gt-NODES : goal.returns-then-n-count-gt-NODES
returns-then-n-count-gt-NODES c = copied_full _ _ _ _ c.requires.room _ (omega arith)

pub loop-k-init : goal.loop-k-init
loop-k-init c = copied_none _ _ _ _ c.requires.room

pub loop-k-preserved : goal.loop-k-preserved
loop-k-preserved c =
    copied_more _ _ _ _ c.requires.room _ _ c.loop-k.invariant _ (omega (arith, c.requires.count_bound)) (omega (arith, c.if-n-count-gt-NODES.false)) (words_written _ c.stored.ensures c.write_node.ensures)
