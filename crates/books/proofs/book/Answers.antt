-- `books::book` meets its contract.
use Rattle.std.proofs.Common.{rules}
use Rattle.books.proofs.Whole.{book_no, book_on, book_counted, book_uncounted}
use Rattle.books.proofs.book.Goals as goal

pub returns-in_err-signature : goal.returns-in_err-signature
returns-in_err-signature g c = record {
  walked = book_no _ c.signature.ensures c.in_err-signature.was (search rules);
  counted = book_uncounted _ c.signature.ensures c.in_err-signature.was;
}

pub returns : goal.returns
returns g c = record {
  walked = book_on _ c.signature.ensures c.in_ok-signature.was c.rule_list.ensures.walked;
  counted = book_counted _ c.signature.ensures c.in_ok-signature.was c.rule_list.ensures.counted;
}
