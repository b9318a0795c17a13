-- `uses::index` meets its contract.
use native.Mathlib.Omega.{arith}
use mathlib.Core.Path.{refl}
use Rattle.std.proofs.Common.{rules}
use Rattle.fields.specs.Kinds.{FieldKind as kind}
use Rattle.fields.proofs.Ranges.{any_bounded}
use Rattle.fields.proofs.Alongs.{seq_no, seq_at, seq_last}
use Rattle.grammar.specs.Certificates.{an_index}
use Rattle.uses.proofs.index.Goals as goal

pub returns-in_err-take : goal.returns-in_err-take
unfolding an_index
returns-in_err-take g c = seq_no (c.take.ensures.comes _ _ (any_bounded kind.index_i (omega arith))) _ c.in_err-take.was (search rules)

pub returns : goal.returns
unfolding an_index
returns g c = seq_at _ (c.take.ensures.comes _ _ (any_bounded kind.index_i (omega arith))) c.in_ok-take.was (seq_last _ (λ j. refl) (c.take-2.ensures.comes _ _ (any_bounded kind.index_j (omega arith))))
