-- `certificates::certificate` meets its contract.
use native.Mathlib.Omega.{arith}
use Rattle.std.proofs.Common.{rules}
use Rattle.fields.specs.Kinds.{FieldKind as kind}
use Rattle.fields.proofs.Ranges.{any_bounded}
use Rattle.fields.proofs.Alongs.{seq_no, seq_at}
use Rattle.grammar.specs.Certificates.{a_certificate_of, a_certificate}
use Rattle.uses.proofs.Cases.{silent_both}
use Rattle.certificates.proofs.certificate.Goals as goal

pub returns-in_err-n : goal.returns-in_err-n
unfolding a_certificate
returns-in_err-n g c = seq_no (c.take.ensures.comes _ _ (any_bounded kind.line_count (omega arith))) _ c.in_err-n.was (search rules)

pub returns-in_err-lines : goal.returns-in_err-lines
unfolding a_certificate_of a_certificate
returns-in_err-lines g c = seq_at _ (c.take.ensures.comes _ _ (any_bounded kind.line_count (omega arith))) c.in_ok-n.was (seq_no c.lines.ensures _ c.in_err-lines.was (search rules))

pub returns : goal.returns
unfolding a_certificate_of a_certificate
returns g c = seq_at _ (c.take.ensures.comes _ _ (any_bounded kind.line_count (omega arith))) c.in_ok-n.was (silent_both _ c.lines.ensures c.in_ok-lines.was c.closing.ensures)
