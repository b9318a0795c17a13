-- `terms::pair` meets its contract.
use Rattle.std.proofs.Common.{rules}
use Rattle.fields.specs.Kinds.{FieldKind as kind}
use Rattle.fields.proofs.Ranges.{from_to_bounded}
use Rattle.fields.proofs.Alongs.{seq_no, seq_on, seq_at, comes_done}
use Rattle.grammar.specs.Terms.{a_pair}
use Rattle.terms.proofs.pair.Goals as goal

pub returns-in_err-x : goal.returns-in_err-x
unfolding a_pair
returns-in_err-x g c = seq_no (c.take.ensures.comes _ _ (from_to_bounded kind.filled_variable _ _)) _ c.in_err-x.was (search rules)

pub returns-in_err-any_term : goal.returns-in_err-any_term
unfolding a_pair
returns-in_err-any_term g c = seq_at _ (c.take.ensures.comes _ _ (from_to_bounded kind.filled_variable _ _)) c.in_ok-x.was (seq_no c.any_term.ensures _ c.in_err-any_term.was (search rules))

pub returns : goal.returns
unfolding a_pair
returns g c = seq_at _ (c.take.ensures.comes _ _ (from_to_bounded kind.filled_variable _ _)) c.in_ok-x.was (seq_on c.any_term.ensures _ c.in_ok-any_term.was (λ b q. comes_done _ _))
