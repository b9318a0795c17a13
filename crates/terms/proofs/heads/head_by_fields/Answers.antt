-- `terms::heads::head_by_fields` meets its contract.
use native.Mathlib.Omega.{arith}
use Rattle.std.proofs.Common.{rules}
use Rattle.fields.specs.Kinds.{FieldKind as kind}
use Rattle.fields.proofs.Ranges.{any_bounded}
use Rattle.terms.proofs.HeadsByFields.{tag_no, variable_no, variable_in, applied_no, applied_in, raised_no, raised_in}
use Rattle.terms.proofs.heads.head_by_fields.Goals as goal

pub returns-in_err-take : goal.returns-in_err-take
returns-in_err-take g c = tag_no _ c.take.ensures c.in_err-take.was (search rules)

pub returns-in_err-take-in-0 : goal.returns-in_err-take-in-0
returns-in_err-take-in-0 g c = variable_no _ c.take.ensures c.in_ok-take.was c.in-0.is (c.take-in-0.ensures.comes _ _ (any_bounded kind.variable (omega arith))) c.in_err-take-in-0.was (search rules)

pub returns-in_ok-take-in-0 : goal.returns-in_ok-take-in-0
returns-in_ok-take-in-0 g c = variable_in _ c.take.ensures c.in_ok-take.was c.in-0.is (c.take-in-0.ensures.comes _ _ (any_bounded kind.variable (omega arith))) c.in_ok-take-in-0.was

pub returns-in_err-symbol-in-1 : goal.returns-in_err-symbol-in-1
returns-in_err-symbol-in-1 g c = applied_no _ c.take.ensures c.in_ok-take.was c.in-1.is c.symbol.ensures c.in_err-symbol-in-1.was (search rules)

pub returns-in_ok-symbol-in-1 : goal.returns-in_ok-symbol-in-1
returns-in_ok-symbol-in-1 g c = applied_in _ c.take.ensures c.in_ok-take.was c.in-1.is c.symbol.ensures c.in_ok-symbol-in-1.was

pub returns-in_err-raise-in_default : goal.returns-in_err-raise-in_default
returns-in_err-raise-in_default g c = raised_no _ c.take.ensures c.in_ok-take.was (λ z. omega arith) (λ z. omega arith) c.raise.ensures c.in_err-raise-in_default.was (search rules)

pub returns-in_ok-raise-in_default : goal.returns-in_ok-raise-in_default
returns-in_ok-raise-in_default g c = raised_in _ c.take.ensures c.in_ok-take.was (λ z. omega arith) (λ z. omega arith) c.raise.ensures c.in_ok-raise-in_default.was
