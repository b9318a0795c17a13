-- `layout::list_certificate` meets its contract.
use Rattle.std.proofs.Common.{rules, Err}
use Rattle.layout.proofs.GoodFiles.{listed_short, listed_filled}
use Rattle.answers.specs.Numbers.{w_of}
use Rattle.layout.proofs.Giving.{certificate_is, bad_listed}
use Rattle.layout.proofs.Answering.{answers_shut, opening_shut, opening_good}
use Rattle.layout.proofs.Besides.{beside_ran}
use Rattle.layout.specs.Files.{certificate_of, open_certificate}
use Rattle.patterns.specs.Reason.{certificate_place}
use mathlib.Core.Path.{◌≡◌, ◌∙◌}
use Rattle.answers.proofs.Refusing.{refused_answer}
use Rattle.layout.proofs.list_certificate.Goals as goal

pub returns-then-file-out : goal.returns-then-file-out
unfolding w_of open_certificate
returns-then-file-out c = let g = opening_good _ _ (c.open_certificate.ensures.told _ _ c.requires.0.opened) c.in_ok-file.was in listed_short certificate_place (certificate_of c.requires.0.tree) _ g (certificate_is _ _ c.requires.0 _) _ c.if-file-out.true (refused_answer _ c.whole.ensures)

pub returns-in_err-file : goal.returns-in_err-file
returns-in_err-file c = let e : c.from_residual.result ≡ Err c.in_err-file.field-0.0 = search rules in rw e (answers_shut _ _ _ _ (certificate_is _ _ c.requires.0 _ ∙ bad_listed _ (opening_shut _ _ (c.open_certificate.ensures.told _ _ c.requires.0.opened) c.in_err-file.was)))

pub returns : goal.returns
unfolding open_certificate
returns c = let g = opening_good _ _ (c.open_certificate.ensures.told _ _ c.requires.0.opened) c.in_ok-file.was in listed_filled certificate_place (certificate_of c.requires.0.tree) _ g (certificate_is _ _ c.requires.0 _) c.if-file-out.false (beside_ran _ _ _ c.requires.0 c.certificate-again.ensures)
