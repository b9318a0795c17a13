-- `layout::read_certificate` meets its contract.
use lib.ListN.{length-take}
use mathlib.Core.Path.{◌≡◌, refl, ◌∙◌}
use native.Mathlib.Omega.{arith}
use Rattle.answers.specs.Numbers.{w_of}
use Rattle.layout.proofs.Besides.{few_rules, is_beside}
use Rattle.layout.proofs.Answering.{answers_shut, answers_refusal, opening_shut}
use Rattle.layout.proofs.Giving.{certificate_book_long, certificate_long, certificate_read, listing_bad}
use Rattle.answers.proofs.Refusing.{refused_answer}
use Rattle.std.proofs.Common.{rules, Err}
use Rattle.layout.proofs.read_certificate.Goals as goal

pub returns-in_err-check_length : goal.returns-in_err-check_length
unfolding w_of
returns-in_err-check_length c = let e : c.from_residual.result ≡ Err c.in_err-check_length.field-0.0 = search rules in record { book_bytes = λ i. (c.type_inv.book i).fits; bytes = λ i. (c.type_inv.certificate i).fits; answers = rw e (answers_refusal _ _ _ _ (certificate_book_long _ _ c.in_err-check_length.ensures.0) (refused_answer _ c.in_err-check_length.ensures.1)) }

pub returns-in_err-check_length-2 : goal.returns-in_err-check_length-2
unfolding w_of
returns-in_err-check_length-2 c = let e : c.from_residual-in_err-check_length-2.result ≡ Err c.in_err-check_length-2.field-0.0 = search rules in record { book_bytes = λ i. (c.type_inv.book i).fits; bytes = λ i. (c.type_inv.certificate i).fits; answers = rw e (answers_refusal _ _ _ _ (certificate_long _ _ c.in_ok-check_length.ensures c.in_err-check_length-2.ensures.0) (refused_answer _ c.in_err-check_length-2.ensures.1)) }

pub slice_bounds-counts-end : goal.slice_bounds-counts-end
slice_bounds-counts-end c = let h = few_rules c.open_book.ensures c.in_ok-file.was in search rules

pub slice_bounds-list_certificate-end : goal.slice_bounds-list_certificate-end
slice_bounds-list_certificate-end c = let h = few_rules c.open_book.ensures c.in_ok-file.was in omega (arith, length-take c.in_ok-file.file.value c.open_book.new.counts)

pub list_certificate-requires : goal.list_certificate-requires
list_certificate-requires c = (is_beside c.open_book.ensures c.in_ok-file.was refl, omega (arith, c.in_ok-check_length-2.ensures))

pub returns-in_err-file : goal.returns-in_err-file
returns-in_err-file c = let e : c.from_residual-in_err-file.result ≡ Err c.in_err-file.field-0.0 = search rules in record { book_bytes = λ i. (c.type_inv.book i).fits; bytes = λ i. (c.type_inv.certificate i).fits; answers = rw e (answers_shut _ _ _ _ (certificate_read _ _ c.in_ok-check_length.ensures c.in_ok-check_length-2.ensures ∙ listing_bad _ _ (opening_shut _ _ c.open_book.ensures.told c.in_err-file.was))) }

pub returns : goal.returns
returns c = record { book_bytes = λ i. (c.type_inv.book i).fits; bytes = λ i. (c.type_inv.certificate i).fits; answers = rw (certificate_read _ _ c.in_ok-check_length.ensures c.in_ok-check_length-2.ensures) c.list_certificate.ensures }
