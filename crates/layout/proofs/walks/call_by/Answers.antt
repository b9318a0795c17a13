-- `layout::walks::call_by` meets its contract.
use mathlib.Core.Path.{refl}
use Rattle.fields.proofs.Alongs.{seq_no, seq_on, comes_done}
use Rattle.fields.proofs.Copies.{copier_ran, copier_keeps}
use Rattle.grammar.specs.Calls.{a_call}
use Rattle.layout.proofs.walks.call_by.Goals as goal

pub returns-in-Ok : goal.returns-in-Ok
unfolding a_call
returns-in-Ok c = record { lent = copier_keeps c.call_term.ensures; walked = copier_ran (seq_on c.call_term.ensures _ c.in-Ok.is (λ g q. comes_done _ _)) }

pub returns-in-Err : goal.returns-in-Err
unfolding a_call
returns-in-Err c = record { lent = copier_keeps c.call_term.ensures; walked = copier_ran (seq_no c.call_term.ensures _ c.in-Err.is refl) }
