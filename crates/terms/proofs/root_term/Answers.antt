-- `terms::root_term` meets its contract.
use native.Mathlib.Omega.{arith}
use Rattle.grammar.specs.Terms.{root_term}
use Rattle.terms.proofs.Powers.{one_term}
use Rattle.terms.proofs.root_term.Goals as goal

pub returns : goal.returns
unfolding root_term
returns g c = one_term _ 256 (c.args-2.ensures 256 (omega arith))
