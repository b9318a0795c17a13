-- `calls::same_term` meets its contract.
use borrow.Author.Tests.{ne_eqb}
use native.Mathlib.Omega.{arith}
use Rattle.calls.proofs.Sameness.{same_gone, same_not_gone, same_longer, same_nodes}
use Rattle.calls.proofs.same_term.Goals as goal

pub returns-then-p-k : goal.returns-then-p-k
returns-then-p-k c = same_gone _ _ c.requires _ _ c.if-p-k.true

pub returns-then-q-k : goal.returns-then-q-k
returns-then-q-k c = same_not_gone _ _ c.requires _ _ (omega (arith, c.if-p-k.false)) c.if-q-k.true

pub returns-then-nodes_of-n : goal.returns-then-nodes_of-n
returns-then-nodes_of-n c = same_nodes _ _ _ _ _ _ c.nodes_of-n.ensures c.nodes_of.ensures c.if-nodes_of-n.true c.same_nodes.ensures

pub returns-else-nodes_of-n : goal.returns-else-nodes_of-n
returns-else-nodes_of-n c = rw (ne_eqb _ _ c.if-nodes_of-n.false) (same_longer _ _ _ _ _ _ c.nodes_of-n.ensures c.nodes_of.ensures c.if-nodes_of-n.false)
