-- `books::rule_of` meets its contract.
use mathlib.Core.Path.{refl}
use Rattle.std.proofs.Common.{rules}
use Rattle.fields.proofs.Alongs.{seq_no, seq_on, seq_last}
use Rattle.grammar.specs.Books.{a_rule_of}
use Rattle.books.proofs.rule_of.Goals as goal

pub returns-in_err-root_term : goal.returns-in_err-root_term
unfolding a_rule_of
returns-in_err-root_term g c = seq_no c.root_term.ensures _ c.in_err-root_term.was (search rules)

pub returns : goal.returns
unfolding a_rule_of
returns g c = seq_on c.root_term.ensures _ c.in_ok-root_term.was (λ a q. seq_last _ (λ b. refl) c.calls.ensures)
