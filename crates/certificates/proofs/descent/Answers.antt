-- `certificates::descent` meets its contract.
use Rattle.std.proofs.Common.{rules}
use Rattle.fields.proofs.Alongs.{seq_no}
use Rattle.grammar.specs.Certificates.{a_descent}
use Rattle.uses.proofs.Cases.{silent_both}
use Rattle.certificates.proofs.descent.Goals as goal

pub returns-in_err-use_line : goal.returns-in_err-use_line
unfolding a_descent
returns-in_err-use_line g c = seq_no c.use_line.ensures _ c.in_err-use_line.was (search rules)

pub returns : goal.returns
unfolding a_descent
returns g c = silent_both _ c.use_line.ensures c.in_ok-use_line.was c.fall.ensures
