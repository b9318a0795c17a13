-- `layout::seeing::see_certificate` meets its contract.
use Rattle.layout.proofs.Findings.{beside_inside, certificate_seen}
use Rattle.layout.proofs.seeing.see_certificate.Goals as goal

pub looked-requires : goal.looked-requires
looked-requires c = beside_inside _ _ c.requires c.certificate-scan.ensures

pub returns : goal.returns
returns c = certificate_seen _ _ c.requires c.certificate-scan.ensures c.looked.ensures
