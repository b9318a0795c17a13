-- `comparing::rights::level` meets its contract.
use Rattle.std.proofs.Common.{eq-eqb}
use mathlib.Core.Path.{sym, ◌∙◌}
use mathlib.Core.Bool.{true≢false}
use Rattle.comparing.proofs.Looking.{level_none, level_yes, level_no}
use Rattle.comparing.proofs.rights.level.Goals.{then-any-eq0, else-any-eq0}
use Rattle.comparing.proofs.rights.level.Goals as goal

pub returns-then-level : goal.returns-then-level
returns-then-level c =
    elim c.if-any-eq0.branch [
      | then-any-eq0 w ↦ level_none c.field-any.ensures w.if-any-eq0.true
      | else-any-eq0 w ↦ level_yes c.field-any.ensures w.if-any-eq0.false w.level.ensures (sym w.value-is ∙ c.if-level.true)
    ]

pub returns-else-level : goal.returns-else-level
returns-else-level c =
    elim c.if-any-eq0.branch [
      | then-any-eq0 w ↦ absurd (true≢false (sym (w.value-is ∙ eq-eqb _ _ w.if-any-eq0.true) ∙ c.if-level.false))
      | else-any-eq0 w ↦ level_no c.field-any.ensures w.if-any-eq0.false w.level.ensures (sym w.value-is ∙ c.if-level.false)
    ]
