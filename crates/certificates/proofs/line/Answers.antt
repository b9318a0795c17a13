-- `certificates::line` meets its contract.
use native.Mathlib.Omega.{arith}
use Rattle.std.proofs.Common.{rules}
use Rattle.fields.specs.Kinds.{FieldKind as kind}
use Rattle.fields.proofs.Ranges.{any_bounded}
use Rattle.fields.proofs.Alongs.{seq_no, seq_at}
use Rattle.grammar.specs.Certificates.{a_line_of, a_line}
use Rattle.uses.proofs.Cases.{silent_both}
use Rattle.certificates.proofs.line.Goals as goal

pub returns-in_err-tag : goal.returns-in_err-tag
unfolding a_line
returns-in_err-tag g c = seq_no (c.take.ensures.comes _ _ (any_bounded kind.line_kind (omega arith))) _ c.in_err-tag.was (search rules)

pub returns-in_err-claim : goal.returns-in_err-claim
unfolding a_line_of a_line
returns-in_err-claim g c = seq_at _ (c.take.ensures.comes _ _ (any_bounded kind.line_kind (omega arith))) c.in_ok-tag.was (seq_no c.claim.ensures _ c.in_err-claim.was (search rules))

pub returns : goal.returns
unfolding a_line_of a_line
returns g c = seq_at _ (c.take.ensures.comes _ _ (any_bounded kind.line_kind (omega arith))) c.in_ok-tag.was (silent_both _ c.claim.ensures c.in_ok-claim.was c.kind.ensures)
