-- `layout::read_book` meets its contract.
use Rattle.std.proofs.Common.{rules, Err}
use Rattle.layout.proofs.GoodFiles.{listed_short, listed_filled}
use Rattle.answers.specs.Numbers.{w_of}
use Rattle.layout.proofs.Answering.{answers_shut}
use mathlib.Core.Path.{◌≡◌, ◌∙◌}
use Rattle.patterns.specs.Reason.{book_place}
use Rattle.grammar.specs.Books.{a_book}
use Rattle.layout.specs.Files.{open_book}
use Rattle.layout.proofs.Answering.{answers_refusal, opening_shut, opening_good}
use Rattle.layout.proofs.Giving.{book_too_long, book_read, bad_listed}
use Rattle.answers.proofs.Refusing.{refused_answer}
use Rattle.layout.proofs.read_book.Goals as goal

pub returns-in_err-check_length : goal.returns-in_err-check_length
unfolding w_of
returns-in_err-check_length c = let e : c.from_residual.result ≡ Err c.in_err-check_length.field-0.0 = search rules in record { bytes = λ i. (c.type_inv.book i).fits; answers = rw e (answers_refusal _ _ _ _ (book_too_long _ c.in_err-check_length.ensures.0) (refused_answer _ c.in_err-check_length.ensures.1)) }

pub returns-then-file-out : goal.returns-then-file-out
unfolding w_of open_book
returns-then-file-out c = record { bytes = λ i. (c.type_inv.book i).fits; answers = listed_short book_place a_book _ (opening_good _ _ c.open_book.ensures.told c.in_ok-file.was) (book_read _ c.in_ok-check_length.ensures) _ c.if-file-out.true (refused_answer _ c.whole.ensures) }

pub returns-in_err-file : goal.returns-in_err-file
returns-in_err-file c = let e : c.from_residual-in_err-file.result ≡ Err c.in_err-file.field-0.0 = search rules in record { bytes = λ i. (c.type_inv.book i).fits; answers = rw e (answers_shut _ _ _ _ (book_read _ c.in_ok-check_length.ensures ∙ bad_listed _ (opening_shut _ _ c.open_book.ensures.told c.in_err-file.was))) }

pub returns : goal.returns
unfolding open_book
returns c = record { bytes = λ i. (c.type_inv.book i).fits; answers = listed_filled book_place a_book _ (opening_good _ _ c.open_book.ensures.told c.in_ok-file.was) (book_read _ c.in_ok-check_length.ensures) c.if-file-out.false c.book-again.ensures.walked }
