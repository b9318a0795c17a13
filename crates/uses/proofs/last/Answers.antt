-- `uses::last` meets its contract.
use native.Mathlib.Omega.{arith}
use Rattle.std.proofs.Common.{rules}
use Rattle.fields.specs.Kinds.{FieldKind as kind}
use Rattle.fields.proofs.Ranges.{any_bounded}
use Rattle.fields.proofs.Alongs.{seq_no, seq_at}
use Rattle.grammar.specs.Certificates.{a_last}
use Rattle.uses.proofs.Cases.{last_none_comes, last_some_comes}
use Rattle.uses.proofs.last.Goals as goal

pub returns-in_err-take : goal.returns-in_err-take
unfolding a_last
returns-in_err-take g c = seq_no (c.take.ensures.comes _ _ (any_bounded kind.use_bit (omega arith))) _ c.in_err-take.was (search rules)

pub returns-in-0 : goal.returns-in-0
unfolding a_last
returns-in-0 g c = seq_at _ (c.take.ensures.comes _ _ (any_bounded kind.use_bit (omega arith))) c.in_ok-take.was (last_none_comes _ _ c.in-0.is)

pub returns-in_default : goal.returns-in_default
unfolding a_last
returns-in_default g c = seq_at _ (c.take.ensures.comes _ _ (any_bounded kind.use_bit (omega arith))) c.in_ok-take.was (last_some_comes _ _ (λ z. omega arith) c.use_line.ensures)
