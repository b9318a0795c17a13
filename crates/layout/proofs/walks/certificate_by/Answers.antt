-- `layout::walks::certificate_by` meets its contract.
use mathlib.Core.Path.{refl}
use Rattle.fields.proofs.Alongs.{told_on_with, told_no_with}
use Rattle.fields.proofs.Copies.{copier_ran, copier_keeps}
use Rattle.layout.proofs.walks.certificate_by.Goals as goal

pub returns-in-Ok : goal.returns-in-Ok
returns-in-Ok c = record { lent = copier_keeps c.certificate.ensures; walked = copier_ran (told_on_with c.certificate.ensures 0 (λ a. refl) c.in-Ok.is) }

pub returns-in-Err : goal.returns-in-Err
returns-in-Err c = record { lent = copier_keeps c.certificate.ensures; walked = copier_ran (told_no_with c.certificate.ensures c.in-Err.is) }
