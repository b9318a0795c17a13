-- `calls::nodes_of` meets its contract.
use Rattle.calls.specs.Standing.{end_of}
use native.Mathlib.Omega.{arith}
use Rattle.calls.proofs.Sameness.{term_nodes}
use Rattle.calls.proofs.nodes_of.Goals as goal

pub overflow_sub-result : goal.overflow_sub-result
unfolding end_of
overflow_sub-result c = omega (arith, c.requires.0.after _ (omega arith) c.requires.1)

pub returns : goal.returns
unfolding end_of
returns c = term_nodes c.requires.0 c.requires.1
