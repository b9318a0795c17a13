-- `comparing::rights::led` meets its contract, by what stands behind the call.
use mathlib.Core.Bool.{true≢false}
use mathlib.Core.Path.{sym, ◌∙◌}
use Rattle.comparing.proofs.Looking.{spent_met, spent_unmet, present_met, present_unmet, not_met, not_unmet, led_nothing, led_by}
use Rattle.comparing.proofs.rights.led.Goals.{in-Judged, in-Pending, in-Nothing}
use Rattle.comparing.proofs.rights.led.Goals as goal

pub returns-then-met : goal.returns-then-met
returns-then-met c =
    elim c.match-behind.branch [
      | in-Judged w ↦ led_by w.in-Judged.is (spent_met w.is_empty-met.ensures (sym w.met-is ∙ c.if-met.true))
      | in-Pending w ↦ led_by w.in-Pending.is (present_met w.is_empty.ensures (not_met _ (sym w.met-is ∙ c.if-met.true)))
      | in-Nothing w ↦ led_by w.in-Nothing.is led_nothing
    ]

pub returns : goal.returns
returns c =
    elim c.match-behind.branch [
      | in-Judged w ↦ led_by w.in-Judged.is (spent_unmet w.is_empty-met.ensures (sym w.met-is ∙ c.if-met.false))
      | in-Pending w ↦ led_by w.in-Pending.is (present_unmet w.is_empty.ensures (not_unmet _ (sym w.met-is ∙ c.if-met.false)))
      | in-Nothing w ↦ absurd (true≢false (sym w.met-is ∙ c.if-met.false))
    ]
