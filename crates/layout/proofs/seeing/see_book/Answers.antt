-- `layout::seeing::see_book` meets its contract.
use Rattle.layout.proofs.Findings.{inside_bits, book_seen}
use Rattle.layout.proofs.seeing.see_book.Goals as goal

pub looked-requires : goal.looked-requires
looked-requires c = inside_bits _ _ _ c.book-scan.ensures.walked

pub returns : goal.returns
returns c = book_seen _ c.book-scan.ensures.walked c.book-scan.ensures.counted c.requires c.looked.ensures
