-- `books::rule_list` meets its contract.
use native.Mathlib.Omega.{arith}
use Rattle.std.proofs.Common.{rules}
use Rattle.fields.specs.Kinds.{FieldKind as kind}
use Rattle.fields.proofs.Ranges.{any_bounded}
use Rattle.fields.proofs.Alongs.{refused, seq_no, seq_at, comes_no}
use Rattle.grammar.specs.Books.{a_rule_list}
use Rattle.books.proofs.Counting.{rules_all, list_no, list_on}
use Rattle.books.proofs.rule_list.Goals as goal

pub returns-in_err-n : goal.returns-in_err-n
unfolding a_rule_list
returns-in_err-n g c = record {
  walked = seq_no (c.take.ensures.comes _ _ (any_bounded kind.rule_count (omega arith))) _ c.in_err-n.was (search rules);
  counted = list_no _ _ _ (c.take.ensures.comes _ _ (any_bounded kind.rule_count (omega arith))) c.in_err-n.was;
}

pub returns-in_err-rules : goal.returns-in_err-rules
unfolding a_rule_list
returns-in_err-rules g c = record {
  walked = seq_at _ (c.take.ensures.comes _ _ (any_bounded kind.rule_count (omega arith))) c.in_ok-n.was (comes_no (refused c.rules.ensures.walked c.in_err-rules.was) (search rules));
  counted = list_on _ _ _ (c.take.ensures.comes _ _ (any_bounded kind.rule_count (omega arith))) c.in_ok-n.was c.rules.ensures.counted;
}

pub returns : goal.returns
unfolding a_rule_list
returns g c = record {
  walked = seq_at _ (c.take.ensures.comes _ _ (any_bounded kind.rule_count (omega arith))) c.in_ok-n.was (rules_all _ _ c.rules.ensures.walked c.in_ok-rules.was);
  counted = list_on _ _ _ (c.take.ensures.comes _ _ (any_bounded kind.rule_count (omega arith))) c.in_ok-n.was c.rules.ensures.counted;
}
