-- `table::push_power` meets its contract: a power is dropped, added to its like on top, or stored; the sum of all numbers fits, so that neither addition wraps.
use Rattle.table.proofs.Loads.{top_light}
use Rattle.table.proofs.Pushing.{push_dropped, push_stored, push_added, top_some}
use native.Mathlib.Omega.{arith}
use mathlib.Core.Path.{sym, ◌∙◌}
use Rattle.table.proofs.push_power.Goals as goal

pub returns-then-a-b-eq0 : goal.returns-then-a-b-eq0
returns-then-a-b-eq0 c = push_dropped _ _ _ _ _ _ c.requires.room.few (omega arith)

pub overflow_sub-at : goal.overflow_sub-at
overflow_sub-at c = top_some _ _ _ _ (sym c.top_code.ensures ∙ c.if-top_code-code.true)

pub overflow_add-more_a-then-top_code-code : goal.overflow_add-more_a-then-top_code-code
overflow_add-more_a-then-top_code-code c = omega (arith, top_light _ _ _ _ (sym c.top_code.ensures ∙ c.if-top_code-code.true))

pub overflow_add-more_b-then-top_code-code : goal.overflow_add-more_b-then-top_code-code
overflow_add-more_b-then-top_code-code c = omega (arith, top_light _ _ _ _ (sym c.top_code.ensures ∙ c.if-top_code-code.true))

pub returns-then-top_code-code : goal.returns-then-top_code-code
returns-then-top_code-code c = push_added _ _ _ _ _ _ _ c.requires.room c.if-a-b-eq0.false (sym c.top_code.ensures ∙ c.if-top_code-code.true) c.write_node.ensures

pub returns : goal.returns
returns c = push_stored _ _ _ _ _ _ _ _ c.if-a-b-eq0.false (λ z. c.if-top_code-code.false (c.top_code.ensures ∙ z)) c.store.ensures
