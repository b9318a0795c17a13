-- `scans::files::certificate` meets its contract.
use mathlib.Core.Path.{refl}
use Rattle.fields.proofs.Alongs.{told_on_with, told_no_with}
use Rattle.scans.proofs.Scanners.{scanner_scans}
use Rattle.scans.proofs.files.certificate.Goals as goal

pub returns-in-Ok : goal.returns-in-Ok
returns-in-Ok c = scanner_scans (told_on_with c.certificate.ensures 0 (λ a. refl) c.in-Ok.is)

pub returns-in-Err : goal.returns-in-Err
returns-in-Err c = scanner_scans (told_no_with c.certificate.ensures c.in-Err.is)
