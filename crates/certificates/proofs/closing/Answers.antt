-- `certificates::closing` meets its contract.
use Rattle.std.proofs.Common.{rules}
use Rattle.fields.specs.Kinds.{FieldKind as kind}
use Rattle.fields.proofs.Ranges.{from_to_bounded}
use Rattle.fields.proofs.Alongs.{seq_no, seq_at}
use Rattle.grammar.specs.Certificates.{a_closed, a_closing}
use Rattle.uses.proofs.Cases.{silent_last, silent_both}
use Rattle.certificates.proofs.closing.Goals as goal

pub returns-in_err-take : goal.returns-in_err-take
unfolding a_closing
returns-in_err-take g c = seq_no (c.take.ensures.comes _ _ (from_to_bounded kind.named_line _ _)) _ c.in_err-take.was (search rules)

pub returns-in_err-pace : goal.returns-in_err-pace
unfolding a_closed a_closing
returns-in_err-pace g c = seq_at _ (c.take.ensures.comes _ _ (from_to_bounded kind.named_line _ _)) c.in_ok-take.was (silent_last _ (seq_no c.pace.ensures _ c.in_err-pace.was (search rules)))

pub returns : goal.returns
unfolding a_closed a_closing
returns g c = seq_at _ (c.take.ensures.comes _ _ (from_to_bounded kind.named_line _ _)) c.in_ok-take.was (silent_last _ (silent_both _ c.pace.ensures c.in_ok-pace.was c.filling.ensures))
