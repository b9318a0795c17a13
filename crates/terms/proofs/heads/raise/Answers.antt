-- `terms::heads::raise` meets its contract.
use Rattle.std.proofs.Common.{rules}
use Rattle.fields.proofs.Alongs.{seq_no, seq_on, seq_at, comes_done}
use Rattle.grammar.specs.Terms.{a_raise}
use Rattle.terms.proofs.heads.raise.Goals as goal

pub returns-in_err-f : goal.returns-in_err-f
unfolding a_raise
returns-in_err-f g c = seq_no c.unary.ensures _ c.in_err-f.was (search rules)

pub returns-in_err-exponent : goal.returns-in_err-exponent
unfolding a_raise
returns-in_err-exponent g c = seq_at _ c.unary.ensures c.in_ok-f.was (seq_no c.exponent.ensures _ c.in_err-exponent.was (search rules))

pub returns : goal.returns
unfolding a_raise
returns g c = seq_at _ c.unary.ensures c.in_ok-f.was (seq_on c.exponent.ensures _ c.in_ok-exponent.was (λ b q. comes_done _ _))
