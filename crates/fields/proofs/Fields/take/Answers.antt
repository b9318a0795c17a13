-- `fields::Fields::take` meets its contract, whatever hands out the fields.
use mathlib.Core.Path.{sym, ◌∙◌}
use Rattle.fields.proofs.Alongs.{takes_no, takes_low, takes_high, takes_in}
use Rattle.std.proofs.Common.{rules}
use Rattle.fields.proofs.Fields.take.Goals as goal

pub returns-in_err-v : goal.returns-in_err-v
returns-in_err-v g c = takes_no c.look.ensures.found c.in_err-v.was (search rules)

pub returns-then-v-least : goal.returns-then-v-least
returns-then-v-least g c = takes_low c.look.ensures.found c.in_ok-v.was c.in_ok-v.ensures.narrow c.if-v-least.true

pub returns-then-v-end : goal.returns-then-v-end
returns-then-v-end g c = takes_high c.look.ensures.found c.in_ok-v.was c.in_ok-v.ensures.narrow c.if-v-least.false c.if-v-end.true

pub pass-requires : goal.pass-requires
pass-requires g c = sym c.look.ensures.found ∙ c.in_ok-v.was

pub returns : goal.returns
returns g c = takes_in c.look.ensures.found c.in_ok-v.was c.in_ok-v.ensures.narrow c.if-v-least.false c.if-v-end.false c.pass.ensures
