-- `books::rules` meets its contract.
use Prim.Native.Nat.{◌+◌, ◌-◌}
use native.Mathlib.Omega.{arith}
use mathlib.Core.Path.{refl}
use Rattle.std.proofs.Common.{rules}
use Rattle.fields.proofs.AlongRounds.{rounds_end, rounds_no, rounds_on}
use Rattle.books.proofs.Counting.{rules_many, rule_few}
use Rattle.books.proofs.Noting.{notes_end, notes_no, notes_on}
use Rattle.books.proofs.rules.Goals as goal

pub returns-in_err-m : goal.returns-in_err-m
returns-in_err-m g c = record {
  walked = rounds_no (rules_many _) _ 0 c.loop-k.invariant.left (c.args.n - (c.loop-k.k + 1)) (omega arith) c.rule.ensures c.in_err-m.was (search rules);
  counted = notes_no _ _ _ c.loop-k.invariant.noted (c.args.n - (c.loop-k.k + 1)) (omega arith) c.rule.ensures c.in_err-m.was;
}

pub overflow_cast-m : goal.overflow_cast-m
overflow_cast-m g c = let h = rule_few _ c.rule.ensures c.in_ok-m.was in omega arith

pub loop-k-preserved : goal.loop-k-preserved
loop-k-preserved g c = record {
  left = rounds_on (rules_many _) _ 0 c.loop-k.invariant.left (c.args.n - (c.loop-k.k + 1)) (omega arith) c.rule.ensures 0 c.in_ok-m.was (λ a e. refl) (λ a b. refl);
  noted = notes_on _ _ _ c.loop-k.invariant.noted (c.args.n - (c.loop-k.k + 1)) (omega arith) c.rule.ensures c.in_ok-m.was c.note.ensures;
}

pub returns : goal.returns
returns g c = record {
  walked = rounds_end (rules_many _) _ 0 c.loop-k.invariant.left (omega arith);
  counted = notes_end _ _ _ c.loop-k.invariant.noted (omega arith);
}
