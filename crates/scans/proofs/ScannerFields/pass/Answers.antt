-- `scans::Scanner` goes past a field that stands there.
use native.Mathlib.Omega.{arith}
use Rattle.scans.proofs.Taking.{packed_room}
use Rattle.scans.proofs.ScannerFields.pass.Goals as goal

pub overflow_add-self : goal.overflow_add-self
overflow_add-self c = let h = packed_room _ _ _ _ c.requires in omega arith
