-- `begins::note_rules` meets its contract. The loop's invariant: what is noted of the rules left is noted of all.
use native.Mathlib.Omega.{arith}
use Rattle.begins.proofs.Noting.{rules_here, rules_end, rules_on}
use Rattle.begins.proofs.note_rules.Goals as goal

pub loop-row-init : goal.loop-row-init
loop-row-init c = rules_here (omega arith)

pub loop-row-preserved : goal.loop-row-preserved
loop-row-preserved c = rules_on c.loop-row.invariant (λ z. omega arith) (omega arith) (omega arith) c.pass_rule-next.ensures

pub returns : goal.returns
returns c = rules_end c.loop-row.invariant (omega arith)
