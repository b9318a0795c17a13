-- `layout::write_certificate` meets its contract.
use lib.ListN.{length-take}
use mathlib.Core.Path.{◌≡◌, refl, ◌∙◌}
use native.Mathlib.Omega.{arith}
use Rattle.answers.specs.Numbers.{w_of}
use Rattle.layout.proofs.Besides.{few_rules, is_beside}
use Rattle.layout.proofs.Answering.{answers_shut, answers_refusal, opening_shut}
use Rattle.layout.proofs.Giving.{writing_book_long, certificate_written, writing_bad}
use Rattle.answers.proofs.Refusing.{refused_answer}
use Rattle.std.proofs.Common.{rules, Err}
use Rattle.layout.proofs.write_certificate.Goals as goal

pub returns-in_err-check_length : goal.returns-in_err-check_length
unfolding w_of
returns-in_err-check_length c = let e : c.from_residual.result ≡ Err c.in_err-check_length.field-0.0 = search rules in record { book_bytes = λ i. (c.type_inv.book i).fits; answers = rw e (answers_refusal _ _ _ _ (writing_book_long _ _ c.in_err-check_length.ensures.0) (refused_answer _ c.in_err-check_length.ensures.1)) }

pub slice_bounds-counts-end : goal.slice_bounds-counts-end
slice_bounds-counts-end c = let h = few_rules c.open_book.ensures c.in_ok-file.was in search rules

pub slice_bounds-pack_certificate-end : goal.slice_bounds-pack_certificate-end
slice_bounds-pack_certificate-end c = let h = few_rules c.open_book.ensures c.in_ok-file.was in omega (arith, length-take c.in_ok-file.file.value c.open_book.new.counts)

pub pack_certificate-requires : goal.pack_certificate-requires
pack_certificate-requires c = is_beside c.open_book.ensures c.in_ok-file.was refl

pub returns-in_err-file : goal.returns-in_err-file
returns-in_err-file c = let e : c.from_residual-in_err-file.result ≡ Err c.in_err-file.field-0.0 = search rules in record { book_bytes = λ i. (c.type_inv.book i).fits; answers = rw e (answers_shut _ _ _ _ (certificate_written _ _ c.in_ok-check_length.ensures ∙ writing_bad _ _ (opening_shut _ _ c.open_book.ensures.told c.in_err-file.was))) }

pub returns : goal.returns
returns c = record { book_bytes = λ i. (c.type_inv.book i).fits; answers = rw (certificate_written _ _ c.in_ok-check_length.ensures) c.pack_certificate.ensures }
