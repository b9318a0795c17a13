-- `certificates::pace` meets its contract.
use native.Mathlib.Omega.{arith}
use mathlib.Core.Path.{refl}
use Rattle.std.proofs.Common.{rules}
use Rattle.fields.specs.Kinds.{FieldKind as kind}
use Rattle.fields.proofs.Ranges.{any_bounded, from_to_bounded}
use Rattle.fields.proofs.AlongAlways.{taken_below}
use Rattle.fields.proofs.Alongs.{seq_no, seq_at, seq_last}
use Rattle.grammar.specs.Certificates.{a_pace}
use Rattle.certificates.proofs.pace.Goals as goal

pub overflow_sub-k : goal.overflow_sub-k
overflow_sub-k g c = let h = taken_below kind.step_k 0 4096 (c.take.ensures.comes _ _ (from_to_bounded kind.step_k 0 4096)) c.in_ok-k.was in search rules

pub returns-in_err-k : goal.returns-in_err-k
unfolding a_pace
returns-in_err-k g c = seq_no (c.take.ensures.comes _ _ (any_bounded kind.step_k (omega arith))) _ c.in_err-k.was (search rules)

pub returns : goal.returns
unfolding a_pace
returns g c = seq_at _ (c.take.ensures.comes _ _ (any_bounded kind.step_k (omega arith))) c.in_ok-k.was (seq_last _ (λ α. refl) (c.take-2.ensures.comes _ _ (from_to_bounded kind.start_α _ _)))
