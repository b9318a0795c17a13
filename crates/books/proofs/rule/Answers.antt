-- `books::rule` meets its contract.
use Rattle.std.proofs.Common.{rules}
use Rattle.fields.specs.Kinds.{FieldKind as kind}
use Rattle.fields.proofs.Ranges.{from_to_bounded}
use Rattle.fields.proofs.Alongs.{refused, seq_no, seq_at, comes_no}
use Rattle.grammar.specs.Books.{a_rule}
use Rattle.books.proofs.Counting.{rule_counted}
use Rattle.books.proofs.rule.Goals as goal

pub returns-in_err-n : goal.returns-in_err-n
unfolding a_rule
returns-in_err-n g c = seq_no (c.take.ensures.comes _ _ (from_to_bounded kind.call_count _ _)) _ c.in_err-n.was (search rules)

pub returns-in_err-rule_of : goal.returns-in_err-rule_of
unfolding a_rule
returns-in_err-rule_of g c = seq_at _ (c.take.ensures.comes _ _ (from_to_bounded kind.call_count _ _)) c.in_ok-n.was (comes_no (refused c.rule_of.ensures c.in_err-rule_of.was) (search rules))

pub returns : goal.returns
unfolding a_rule
returns g c = seq_at _ (c.take.ensures.comes _ _ (from_to_bounded kind.call_count _ _)) c.in_ok-n.was (rule_counted _ _ c.rule_of.ensures c.in_ok-rule_of.was)
