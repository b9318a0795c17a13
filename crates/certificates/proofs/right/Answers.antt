-- `certificates::right` meets its contract.
use native.Mathlib.Omega.{arith}
use Rattle.std.proofs.Common.{rules}
use Rattle.fields.specs.Kinds.{FieldKind as kind}
use Rattle.fields.proofs.Ranges.{any_bounded}
use Rattle.fields.proofs.Alongs.{seq_no, seq_at}
use Rattle.grammar.specs.Certificates.{a_right}
use Rattle.certificates.proofs.Cases.{right_empty_comes, right_no, right_term_comes}
use Rattle.certificates.proofs.right.Goals as goal

pub returns-in_err-take : goal.returns-in_err-take
unfolding a_right
returns-in_err-take g c = seq_no (c.take.ensures.comes _ _ (any_bounded kind.right_bit (omega arith))) _ c.in_err-take.was (search rules)

pub returns-in-0 : goal.returns-in-0
unfolding a_right
returns-in-0 g c = seq_at _ (c.take.ensures.comes _ _ (any_bounded kind.right_bit (omega arith))) c.in_ok-take.was (right_empty_comes _ c.in-0.is)

pub returns-in_err-any_term-in_default : goal.returns-in_err-any_term-in_default
unfolding a_right
returns-in_err-any_term-in_default g c = seq_at _ (c.take.ensures.comes _ _ (any_bounded kind.right_bit (omega arith))) c.in_ok-take.was (right_no _ (λ z. omega arith) c.any_term.ensures c.in_err-any_term-in_default.was (search rules))

pub returns-in_ok-any_term-in_default : goal.returns-in_ok-any_term-in_default
unfolding a_right
returns-in_ok-any_term-in_default g c = seq_at _ (c.take.ensures.comes _ _ (any_bounded kind.right_bit (omega arith))) c.in_ok-take.was (right_term_comes _ (λ z. omega arith) c.any_term.ensures c.in_ok-any_term-in_default.was)
