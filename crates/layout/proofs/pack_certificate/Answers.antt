-- `layout::pack_certificate` meets its contract.
use Rattle.std.proofs.Common.{rules, Err}
use Rattle.layout.proofs.GoodFiles.{packed_over, packed_short, packed_filled}
use mathlib.Core.Path.{◌≡◌, ◌∙◌}
use native.Mathlib.Omega.{arith}
use Rattle.answers.specs.Numbers.{w_of}
use Rattle.patterns.specs.Reason.{certificate_place}
use Rattle.terms.specs.Values.{nothing}
use Rattle.answers.specs.declared.W.TheVariants.{Certificate}
use Rattle.layout.specs.Files.{certificate_of}
use Rattle.layout.proofs.Besides.{beside_ran}
use Rattle.layout.proofs.Answering.{answers_shut, opening_shut, opening_good}
use Rattle.layout.proofs.Giving.{list_told, writing_is, bad_written}
use Rattle.answers.proofs.Refusing.{refused_answer}
use Rattle.layout.proofs.pack_certificate.Goals as goal

pub returns-in_err-check_length : goal.returns-in_err-check_length
unfolding w_of
returns-in_err-check_length c = let e : c.from_residual-in_err-check_length.result ≡ Err c.in_err-check_length.field-0.0 = search rules in let g = opening_good _ _ (list_told _ (certificate_of c.requires.tree) nothing _ Certificate (beside_ran _ _ _ c.requires c.certificate-w.ensures) c.opened_list.ensures) c.in_ok-file.was in rw e (packed_over certificate_place _ _ g 32768 (writing_is _ _ c.requires _) _ (omega (arith, c.in_err-check_length.ensures.0, c.bytes_for-n.ensures)) (refused_answer _ c.in_err-check_length.ensures.1))

pub returns-then-n-out : goal.returns-then-n-out
unfolding w_of
returns-then-n-out c = let g = opening_good _ _ (list_told _ (certificate_of c.requires.tree) nothing _ Certificate (beside_ran _ _ _ c.requires c.certificate-w.ensures) c.opened_list.ensures) c.in_ok-file.was in packed_short certificate_place _ _ g 32768 (writing_is _ _ c.requires _) _ (omega (arith, c.in_ok-check_length.ensures, c.bytes_for-n.ensures)) (omega (arith, c.if-n-out.true, c.bytes_for-n.ensures)) (refused_answer _ c.whole.ensures)

pub returns-in_err-file : goal.returns-in_err-file
unfolding w_of
returns-in_err-file c = let e : c.from_residual.result ≡ Err c.in_err-file.field-0.0 = search rules in rw e (answers_shut _ _ _ _ (writing_is _ _ c.requires _ ∙ bad_written certificate_place 32768 _ (opening_shut _ _ (list_told _ (certificate_of c.requires.tree) nothing _ Certificate (beside_ran _ _ _ c.requires c.certificate-w.ensures) c.opened_list.ensures) c.in_err-file.was)))

pub returns : goal.returns
unfolding w_of
returns c = let g = opening_good _ _ (list_told _ (certificate_of c.requires.tree) nothing _ Certificate (beside_ran _ _ _ c.requires c.certificate-w.ensures) c.opened_list.ensures) c.in_ok-file.was in packed_filled certificate_place _ _ g 32768 (writing_is _ _ c.requires _) c.bytes_for-n.ensures c.in_ok-check_length.ensures (omega arith) c.if-n-out.false (beside_ran _ _ _ c.requires c.certificate-again.ensures)
