-- `answers::carried` meets its contract: a match on the number.
use Rattle.answers.specs.Numbers.{paper_refusal}
use Rattle.answers.proofs.Carrying.{carried_field, carried_part, carried_low, carried_between, carried_high}
use mathlib.Core.Path.{sym}
use native.Mathlib.Omega.{arith}
use Rattle.answers.proofs.carried.Goals as goal

pub returns-in-3-to-7 : goal.returns-in-3-to-7
unfolding paper_refusal
returns-in-3-to-7 c = sym (carried_field _ _ _ (omega arith) (omega arith))

pub returns-in-9-to-16 : goal.returns-in-9-to-16
unfolding paper_refusal
returns-in-9-to-16 c = sym (carried_part _ _ _ (omega arith) (omega arith))

pub returns-in_default : goal.returns-in_default
unfolding paper_refusal
returns-in_default c = sym (carried_low _ _ _ (omega arith))

pub returns-in_default-2 : goal.returns-in_default-2
unfolding paper_refusal
returns-in_default-2 c = sym (carried_between _ _ _ (omega arith) (omega arith))

pub returns-in_default-3 : goal.returns-in_default-3
unfolding paper_refusal
returns-in_default-3 c = sym (carried_high _ _ _ (omega arith))
