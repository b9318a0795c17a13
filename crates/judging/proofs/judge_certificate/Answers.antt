-- `judging::judge_certificate` meets its contract.
use mathlib.Core.Path.{◌≡◌, refl}
use Rattle.std.proofs.Common.{rules, Err}
use Rattle.judging.proofs.Opened.{certificate_shut, certificate_judged, refused_placed, judged_placed}
use Rattle.judging.proofs.judge_certificate.Goals as goal

pub returns-in_err-see_certificate : goal.returns-in_err-see_certificate
returns-in_err-see_certificate c =
    let e : c.from_residual.result ≡ Err c.in_err-see_certificate.field-0.0 = search rules in
    record {
      answered = rw e (certificate_shut c.requires.0 c.see_certificate.ensures c.in_err-see_certificate.was);
      lent = refl;
      placed = rw e refused_placed;
    }

pub returns : goal.returns
returns c = record {
  answered = certificate_judged c.requires.0 c.see_certificate.ensures c.in_ok-see_certificate.was c.judge_lines.ensures;
  lent = c.judge_lines.ensures.size;
  placed = judged_placed c.judge_lines.ensures;
}
