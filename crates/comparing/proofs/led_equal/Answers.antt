-- `comparing::led_equal` meets its contract.
use Rattle.comparing.proofs.Asking.{led_fault, led_on}
use Rattle.comparing.proofs.Finding.{handed_on}
use Rattle.comparing.proofs.led_equal.Goals as goal

pub returns-in_err-led : goal.returns-in_err-led
returns-in_err-led c = rw (handed_on c.from_residual.result c.from_residual.ensures.1) (led_fault c.led.ensures c.in_err-led.was)

pub returns : goal.returns
returns c = led_on c.led.ensures c.in_ok-led.was c.equal.ensures
