-- `covers::ask_accepted` meets its contract.
use native.Mathlib.Omega.{arith}
use mathlib.Core.Path.{refl}
use Rattle.covers.proofs.Stages.{line_small, start_small, accepted_asked}
use Rattle.covers.proofs.ask_accepted.Goals as goal

pub overflow_add-a : goal.overflow_add-a
overflow_add-a c = omega (arith, line_small c.requires.1)

pub noted-left-requires : goal.noted-left-requires
noted-left-requires c = (omega (arith, line_small c.requires.1), c.requires.0)

pub overflow_cast-alpha : goal.overflow_cast-alpha
overflow_cast-alpha c = omega (arith, start_small c.requires.1)

pub ask_call-requires : goal.ask_call-requires
ask_call-requires c = (c.requires.0, omega (arith, start_small c.requires.1))

pub returns : goal.returns
returns c = record {
  answered = accepted_asked c.requires.1 c.noted-left.ensures refl c.ask_call.ensures.answered;
  lent = c.ask_call.ensures.lent;
}
