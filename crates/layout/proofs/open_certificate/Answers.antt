-- `layout::open_certificate` meets its contract.
use Rattle.layout.proofs.Giving.{certificate_opened}
use Rattle.layout.proofs.FileEnds.{inside_bytes}
use Rattle.layout.proofs.Besides.{beside_ran}
use Rattle.layout.proofs.open_certificate.Goals as goal

pub opened-requires : goal.opened-requires
opened-requires c = inside_bytes _ _ _ (beside_ran _ _ _ c.requires.0 c.certificate-w.ensures)

pub returns : goal.returns
returns c = certificate_opened _ _ c.requires.0 _ c.certificate-w.ensures c.opened.ensures
