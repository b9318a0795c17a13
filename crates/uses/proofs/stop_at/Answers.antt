-- `uses::stop_at` meets its contract.
use Rattle.std.proofs.Common.{rules}
use Rattle.fields.specs.Kinds.{FieldKind as kind}
use Rattle.fields.proofs.Ranges.{from_to_bounded}
use Rattle.fields.proofs.Alongs.{seq_no, seq_at}
use Rattle.grammar.specs.Certificates.{a_stopped, a_stop_at}
use Rattle.uses.proofs.Cases.{silent_both}
use Rattle.uses.proofs.stop_at.Goals as goal

pub returns-in_err-i : goal.returns-in_err-i
unfolding a_stop_at
returns-in_err-i g c = rw (← c.min.ensures) (seq_no (c.take.ensures.comes _ _ (from_to_bounded kind.stop_number _ _)) _ c.in_err-i.was (search rules))

pub returns-in_err-filling : goal.returns-in_err-filling
unfolding a_stopped a_stop_at
returns-in_err-filling g c = rw (← c.min.ensures) (seq_at _ (c.take.ensures.comes _ _ (from_to_bounded kind.stop_number _ _)) c.in_ok-i.was (seq_no c.filling.ensures _ c.in_err-filling.was (search rules)))

pub returns : goal.returns
unfolding a_stopped a_stop_at
returns g c = rw (← c.min.ensures) (seq_at _ (c.take.ensures.comes _ _ (from_to_bounded kind.stop_number _ _)) c.in_ok-i.was (silent_both _ c.filling.ensures c.in_ok-filling.was c.stop.ensures))
