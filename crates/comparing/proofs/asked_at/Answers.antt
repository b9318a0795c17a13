-- `comparing::asked_at` meets its contract.
use Rattle.std.proofs.Common.{rules, eq-eqb, ne_eqb}
use Rattle.comparing.specs.Asked.{asked_at}
use Rattle.comparing.proofs.asked_at.Goals as goal

pub returns-in-0 : goal.returns-in-0
unfolding asked_at
returns-in-0 c = simp (c.in-Unfold.is, eq-eqb _ _ c.in-0.is)

pub returns-in-15 : goal.returns-in-15
unfolding asked_at
returns-in-15 c = simp (c.in-Unfold.is, c.in-15.is)

pub returns-in_default : goal.returns-in_default
unfolding asked_at
returns-in_default c = simp (c.in-Unfold.is, ne_eqb c.args.part 0 (search rules), ne_eqb c.args.part 15 (search rules))

pub returns-in-0-part : goal.returns-in-0-part
unfolding asked_at
returns-in-0-part c = simp (c.in-Descent.is, c.in-0-part.is)

pub returns-in-1 : goal.returns-in-1
unfolding asked_at
returns-in-1 c = simp (c.in-Descent.is, c.in-1.is)

pub returns-in-2 : goal.returns-in-2
unfolding asked_at
returns-in-2 c = simp (c.in-Descent.is, c.in-2.is)

pub returns-in-3 : goal.returns-in-3
unfolding asked_at
returns-in-3 c = simp (c.in-Descent.is, c.in-3.is)

pub returns-in_default-part : goal.returns-in_default-part
unfolding asked_at
returns-in_default-part c = simp (c.in-Descent.is, ne_eqb c.args.part 0 (search rules), ne_eqb c.args.part 1 (search rules), ne_eqb c.args.part 2 (search rules), ne_eqb c.args.part 3 (search rules))

pub returns-in-0-part-2 : goal.returns-in-0-part-2
unfolding asked_at
returns-in-0-part-2 c = simp (c.in-Closing.is, eq-eqb _ _ c.in-0-part-2.is)

pub returns-in_default-part-2 : goal.returns-in_default-part-2
unfolding asked_at
returns-in_default-part-2 c = simp (c.in-Closing.is, ne_eqb c.args.part 0 (search rules))
