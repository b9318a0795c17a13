-- `comparing::check` meets its contract.
use Rattle.comparing.proofs.Asking.{made_same, made_led, made_level, made_present}
use Rattle.comparing.proofs.check.Goals as goal

pub returns-in-Same : goal.returns-in-Same
returns-in-Same c = made_same c.asked_at.ensures c.in-Same.is c.equal.ensures

pub returns-in-Led : goal.returns-in-Led
returns-in-Led c = made_led c.asked_at.ensures c.in-Led.is c.led_equal.ensures

pub returns-in-Level : goal.returns-in-Level
returns-in-Level c = made_level c.asked_at.ensures c.in-Level.is c.level.ensures

pub returns-in-Present : goal.returns-in-Present
returns-in-Present c = made_present c.asked_at.ensures c.in-Present.is c.led.ensures
