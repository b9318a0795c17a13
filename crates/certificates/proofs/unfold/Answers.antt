-- `certificates::unfold` meets its contract.
use Rattle.std.proofs.Common.{rules}
use Rattle.fields.proofs.Alongs.{seq_no, seq_at}
use Rattle.grammar.specs.Certificates.{an_unfold}
use Rattle.uses.proofs.Cases.{silent_last}
use Rattle.certificates.proofs.Cases.{rule_bounded}
use Rattle.certificates.proofs.unfold.Goals as goal

pub returns-in_err-k : goal.returns-in_err-k
unfolding an_unfold
returns-in_err-k g c = seq_no (c.take.ensures.comes _ _ (rule_bounded _ c.min-end.ensures)) _ c.in_err-k.was (search rules)

pub returns : goal.returns
unfolding an_unfold
returns g c = seq_at _ (c.take.ensures.comes _ _ (rule_bounded _ c.min-end.ensures)) c.in_ok-k.was (silent_last _ (rw (← c.calls.ensures.counted) c.stop_at.ensures))
