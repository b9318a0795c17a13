-- `certificates::claim` meets its contract.
use Rattle.std.proofs.Common.{rules}
use Rattle.fields.proofs.Alongs.{seq_no}
use Rattle.grammar.specs.Certificates.{a_claim}
use Rattle.uses.proofs.Cases.{silent_both}
use Rattle.certificates.proofs.claim.Goals as goal

pub returns-in_err-any_term : goal.returns-in_err-any_term
unfolding a_claim
returns-in_err-any_term g c = seq_no c.any_term.ensures _ c.in_err-any_term.was (search rules)

pub returns : goal.returns
unfolding a_claim
returns g c = silent_both _ c.any_term.ensures c.in_ok-any_term.was c.right.ensures
