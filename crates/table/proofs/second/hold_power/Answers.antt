-- `table::second::hold_power` meets its contract: a power is dropped, added to its like that waits, or waits itself once the other is settled.
use mathlib.Core.Path.{◌≡◌, sym, ap, ◌∙◌}
use Rattle.std.proofs.lemmas.Option.{none-some}
use Rattle.table.proofs.Holding.{rest_none, weight_some, comes_dropped, comes_added, comes_kept}
use Rattle.table.specs.declared.Triple.{Triple}
use native.Mathlib.Omega.{arith}
use Rattle.table.proofs.second.hold_power.Goals as goal

pub overflow_add-result : goal.overflow_add-result
overflow_add-result c = omega (arith, weight_some c.in-Some.is, c.requires.nodes_bound.1)

pub overflow_add-result-then-power-code : goal.overflow_add-result-then-power-code
overflow_add-result-then-power-code c = omega (arith, weight_some c.in-Some.is, c.requires.nodes_bound.1)

pub returns-then-a-b-eq0 : goal.returns-then-a-b-eq0
returns-then-a-b-eq0 c = comes_dropped _ _ _ c.if-a-b-eq0.true

pub returns-in_default : goal.returns-in_default
returns-in_default c = comes_kept _ _ _ c.if-a-b-eq0.false (λ v z q. none-some v (sym c.in_default.is ∙ z)) (rest_none c.in_default.is)

pub returns-then-power-code : goal.returns-then-power-code
returns-then-power-code c = comes_added _ _ _ c.if-a-b-eq0.false c.in-Some.is c.if-power-code.true

pub returns : goal.returns
returns c = comes_kept _ _ _ c.if-a-b-eq0.false (λ v z q. let same : c.in-Some.power ≡ v = cc in c.if-power-code.false (ap (λ (t : Triple). t.code) same ∙ q)) c.settle.ensures
