-- `scans::heads::power` meets its contract.
use Rattle.scans.proofs.Powers.{power_past, power_not, power_like, power_a_past, power_a_high, power_b_past, power_zero, power_in}
use Rattle.scans.proofs.heads.power.Goals as goal

pub returns-then-left-lt10 : goal.returns-then-left-lt10
returns-then-left-lt10 g c = power_past _ c.if-left-lt10.true

pub returns-then-n-ne1 : goal.returns-then-n-ne1
returns-then-n-ne1 g c = power_not _ c.arity-n.ensures c.if-left-lt10.false c.if-n-ne1.true

pub returns-then-f-above : goal.returns-then-f-above
returns-then-f-above g c = power_like _ c.arity-n.ensures c.if-left-lt10.false c.if-n-ne1.false c.if-f-above.true

pub returns-then-left-lt22 : goal.returns-then-left-lt22
returns-then-left-lt22 g c = power_a_past _ c.arity-n.ensures c.if-left-lt10.false c.if-n-ne1.false c.if-f-above.false c.if-left-lt22.true

pub returns-then-x-end : goal.returns-then-x-end
returns-then-x-end g c = power_a_high _ c.arity-n.ensures c.if-left-lt10.false c.if-n-ne1.false c.if-f-above.false c.if-left-lt22.false c.if-x-end.true

pub returns-then-left-lt34 : goal.returns-then-left-lt34
returns-then-left-lt34 g c = power_b_past _ c.arity-n.ensures c.if-left-lt10.false c.if-n-ne1.false c.if-f-above.false c.if-left-lt22.false c.if-x-end.false c.if-left-lt34.true

pub returns-then-x-eq0 : goal.returns-then-x-eq0
returns-then-x-eq0 g c = power_zero _ c.arity-n.ensures c.if-left-lt10.false c.if-n-ne1.false c.if-f-above.false c.if-left-lt22.false c.if-x-end.false c.if-left-lt34.false c.if-x-eq0.true

pub returns : goal.returns
returns g c = power_in _ c.arity-n.ensures c.if-left-lt10.false c.if-n-ne1.false c.if-f-above.false c.if-left-lt22.false c.if-x-end.false c.if-left-lt34.false c.if-x-eq0.false
