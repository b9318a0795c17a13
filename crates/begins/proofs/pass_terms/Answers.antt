-- `begins::pass_terms` meets its contract. The loop's invariant: where the terms left end, all do.
use native.Mathlib.Omega.{arith}
use Rattle.begins.proofs.Passing.{terms_here, terms_end, terms_on}
use Rattle.begins.proofs.pass_terms.Goals as goal

pub loop-init : goal.loop-init
loop-init c = terms_here (omega arith)

pub loop-preserved : goal.loop-preserved
loop-preserved c = terms_on c.loop.invariant (λ z. omega arith) (omega arith) c.skip-end.ensures

pub returns : goal.returns
returns c = terms_end c.loop.invariant (omega arith)
