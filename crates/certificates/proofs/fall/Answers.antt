-- `certificates::fall` meets its contract.
use mathlib.Core.Path.{refl}
use Rattle.std.proofs.Common.{rules}
use Rattle.fields.proofs.Alongs.{seq_no, seq_at}
use Rattle.grammar.specs.Certificates.{a_fall}
use Rattle.uses.proofs.Cases.{silent_last}
use Rattle.certificates.proofs.Cases.{fall_bad, fall_not, fall_one}
use Rattle.certificates.proofs.fall.Goals as goal

pub returns-in_err-k : goal.returns-in_err-k
unfolding a_fall
returns-in_err-k g c = seq_no (fall_bad _ _ c.look.ensures.found c.in_err-k.was refl) _ refl (search rules)

pub returns-then-calls-ne1 : goal.returns-then-calls-ne1
unfolding a_fall
returns-then-calls-ne1 g c = seq_no (fall_not _ _ c.look.ensures.found c.in_ok-k.was c.calls.ensures.counted c.if-calls-ne1.true) _ refl refl

pub returns : goal.returns
unfolding a_fall
returns g c = seq_at _ (fall_one _ _ c.look.ensures.found c.in_ok-k.was c.calls.ensures.counted c.if-calls-ne1.false c.pass.ensures) refl (silent_last _ c.filling.ensures)
