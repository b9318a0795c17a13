-- `scans::Scanner` hands out the head that stands there.
use Rattle.scans.proofs.ScannerHeads.{head_in, head_no}
use Rattle.scans.proofs.heads.ScannerHeads.head.Goals as goal

pub returns-in-Ok : goal.returns-in-Ok
returns-in-Ok g c = head_in c.head_at.ensures c.in-Ok.is

pub returns-in-Err : goal.returns-in-Err
returns-in-Err g c = head_no c.head_at.ensures c.in-Err.is
