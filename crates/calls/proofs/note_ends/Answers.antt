-- `calls::note_ends` meets its contract.
use mathlib.Core.Path.{subst}
use native.Mathlib.Omega.{arith}
use Rattle.calls.proofs.Passing.{Noting, noting_on}
use Rattle.calls.proofs.note_ends.Goals as goal

pub loop-j-preserved : goal.loop-j-preserved
loop-j-preserved c = noting_on _ (subst (Noting _ _ _ _) (omega arith) c.loop-j.invariant) c.followers-n.ensures c.pass-end.ensures
