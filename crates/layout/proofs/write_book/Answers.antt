-- `layout::write_book` meets its contract.
use Rattle.std.proofs.Common.{rules, Err}
use Rattle.layout.proofs.GoodFiles.{packed_over, packed_short, packed_filled}
use native.Mathlib.Omega.{arith}
use mathlib.Core.Path.{◌≡◌, refl}
use Rattle.answers.specs.Numbers.{w_of}
use Rattle.patterns.specs.Reason.{book_place}
use Rattle.grammar.specs.Books.{a_book}
use Rattle.books.specs.Counts.{rules_of_book}
use Rattle.answers.specs.declared.W.TheVariants.{Book}
use Rattle.layout.specs.Answers.{writing_book}
use Rattle.layout.proofs.Answering.{answers_shut, opening_shut, opening_good}
use Rattle.layout.proofs.Giving.{list_told, bad_written}
use Rattle.answers.proofs.Refusing.{refused_answer}
use Rattle.layout.proofs.write_book.Goals as goal

pub returns-in_err-check_length : goal.returns-in_err-check_length
unfolding w_of writing_book
returns-in_err-check_length c = let e : c.from_residual-in_err-check_length.result ≡ Err c.in_err-check_length.field-0.0 = search rules in let g = opening_good _ _ (list_told _ a_book rules_of_book _ Book c.book-w.ensures.walked c.opened_list.ensures) c.in_ok-file.was in record { answers = rw e (packed_over book_place a_book _ g 16384 refl _ (omega (arith, c.in_err-check_length.ensures.0, c.bytes_for-n.ensures)) (refused_answer _ c.in_err-check_length.ensures.1)) }

pub returns-then-n-out : goal.returns-then-n-out
unfolding w_of writing_book
returns-then-n-out c = let g = opening_good _ _ (list_told _ a_book rules_of_book _ Book c.book-w.ensures.walked c.opened_list.ensures) c.in_ok-file.was in record { answers = packed_short book_place a_book _ g 16384 refl _ (omega (arith, c.in_ok-check_length.ensures, c.bytes_for-n.ensures)) (omega (arith, c.if-n-out.true, c.bytes_for-n.ensures)) (refused_answer _ c.whole.ensures) }

pub returns-in_err-file : goal.returns-in_err-file
unfolding w_of writing_book
returns-in_err-file c = let e : c.from_residual.result ≡ Err c.in_err-file.field-0.0 = search rules in record { answers = rw e (answers_shut _ _ _ _ (bad_written book_place 16384 _ (opening_shut _ _ (list_told _ a_book rules_of_book _ Book c.book-w.ensures.walked c.opened_list.ensures) c.in_err-file.was))) }

pub returns : goal.returns
unfolding w_of writing_book
returns c = let g = opening_good _ _ (list_told _ a_book rules_of_book _ Book c.book-w.ensures.walked c.opened_list.ensures) c.in_ok-file.was in record { answers = packed_filled book_place a_book _ g 16384 refl c.bytes_for-n.ensures c.in_ok-check_length.ensures (omega arith) c.if-n-out.false c.book-again.ensures.walked }
