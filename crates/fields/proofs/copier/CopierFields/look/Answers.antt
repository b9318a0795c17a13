-- `fields::copier::Copier` hands out the field that stands there.
use Rattle.fields.specs.Source.{of_bits}
use Rattle.fields.proofs.Sources.{field_wide, field_many, field_far, field_listed, field_packed}
use Rattle.fields.proofs.Gives.{got_small, found_small}
use native.Mathlib.Omega.{arith}
use mathlib.Core.Path.{sym, ◌∙◌, ap}
use Rattle.fields.proofs.copier.CopierFields.look.Goals as goal

pub returns-then-w-gt16-clause-found : goal.returns-then-w-gt16-clause-found
returns-then-w-gt16-clause-found c = sym (field_wide _ _ _ _ (omega arith))

pub returns-then-n-gt4294967295-clause-found : goal.returns-then-n-gt4294967295-clause-found
returns-then-n-gt4294967295-clause-found c = sym (field_many _ _ _ _ (omega arith) (omega arith))

pub returns-then-at-gt4294967295-clause-found : goal.returns-then-at-gt4294967295-clause-found
returns-then-at-gt4294967295-clause-found c = sym (field_far _ _ _ _ (omega arith) (omega arith) (omega arith))

pub returns-then-self-clause-found : goal.returns-then-self-clause-found
returns-then-self-clause-found c = c.listed_at.ensures ∙ sym (field_listed _ _ _ _ (omega arith) (omega arith) (omega arith) c.if-self.true)

pub returns-in-Some-clause-found : goal.returns-in-Some-clause-found
returns-in-Some-clause-found c = ap of_bits (sym c.in-Some.is) ∙ sym (field_packed _ _ _ _ (omega arith) (omega arith) (omega arith) c.if-self.false _ c.take.ensures)

pub returns-in-None-clause-found : goal.returns-in-None-clause-found
returns-in-None-clause-found c = ap of_bits (sym c.in-None.is) ∙ sym (field_packed _ _ _ _ (omega arith) (omega arith) (omega arith) c.if-self.false _ c.take.ensures)

pub returns-then-self-clause-narrow : goal.returns-then-self-clause-narrow
returns-then-self-clause-narrow c = found_small _ _ _ _ (c.listed_at.ensures ∙ sym (field_listed c.args.self.now.s.now c.args.self.now.l.now c.args.w c.args.self.now.at (omega arith) (omega arith) (omega arith) c.if-self.true))

pub returns-in-Some-clause-narrow : goal.returns-in-Some-clause-narrow
returns-in-Some-clause-narrow c = got_small _ _ _ _ _ (field_packed c.args.self.now.s.now c.args.self.now.l.now c.args.w c.args.self.now.at (omega arith) (omega arith) (omega arith) c.if-self.false _ c.take.ensures ∙ sym (ap of_bits (sym c.in-Some.is)))
