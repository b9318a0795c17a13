-- `terms::heads::exponent` meets its contract.
use native.Mathlib.Omega.{arith}
use Rattle.std.proofs.Common.{rules}
use Rattle.fields.specs.Kinds.{FieldKind as kind}
use Rattle.fields.proofs.Ranges.{from_to_bounded, beside_bounded}
use Rattle.fields.proofs.Alongs.{seq_no, seq_on, seq_at, comes_done}
use Rattle.grammar.specs.Terms.{an_exponent}
use Rattle.terms.proofs.heads.exponent.Goals as goal

pub returns-in_err-a : goal.returns-in_err-a
unfolding an_exponent
returns-in_err-a g c = seq_no (c.take.ensures.comes _ _ (from_to_bounded kind.power_a _ _)) _ c.in_err-a.was (search rules)

pub returns-in_err-take : goal.returns-in_err-take
unfolding an_exponent
returns-in_err-take g c = seq_at _ (c.take.ensures.comes _ _ (from_to_bounded kind.power_a _ _)) c.in_ok-a.was (seq_no (c.take-2.ensures.comes _ _ (beside_bounded kind.power_b _ c.least_beside.ensures (omega arith))) _ c.in_err-take.was (search rules))

pub returns : goal.returns
unfolding an_exponent
returns g c = seq_at _ (c.take.ensures.comes _ _ (from_to_bounded kind.power_a _ _)) c.in_ok-a.was (seq_on (c.take-2.ensures.comes _ _ (beside_bounded kind.power_b _ c.least_beside.ensures (omega arith))) _ c.in_ok-take.was (λ b q. comes_done _ _))
