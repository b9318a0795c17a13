-- `uses::use_line` meets its contract.
use Rattle.std.proofs.Common.{rules}
use Rattle.fields.specs.Kinds.{FieldKind as kind}
use Rattle.fields.proofs.Ranges.{from_to_bounded}
use Rattle.fields.proofs.Alongs.{seq_no, seq_at}
use Rattle.grammar.specs.Certificates.{an_instance, a_use}
use Rattle.uses.proofs.Cases.{silent_last, silent_both}
use Rattle.uses.proofs.use_line.Goals as goal

pub returns-in_err-take : goal.returns-in_err-take
unfolding a_use
returns-in_err-take g c = seq_no (c.take.ensures.comes _ _ (from_to_bounded kind.used_line _ _)) _ c.in_err-take.was (search rules)

pub returns-in_err-index : goal.returns-in_err-index
unfolding an_instance a_use
returns-in_err-index g c = seq_at _ (c.take.ensures.comes _ _ (from_to_bounded kind.used_line _ _)) c.in_ok-take.was (silent_last _ (seq_no c.index.ensures _ c.in_err-index.was (search rules)))

pub returns : goal.returns
unfolding an_instance a_use
returns g c = seq_at _ (c.take.ensures.comes _ _ (from_to_bounded kind.used_line _ _)) c.in_ok-take.was (silent_last _ (silent_both _ c.index.ensures c.in_ok-index.was c.filling.ensures))
