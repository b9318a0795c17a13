-- `layout::open_book` meets its contract.
use Rattle.layout.proofs.FileEnds.{inside_bytes}
use Rattle.layout.proofs.Opens.{book_opened}
use Rattle.layout.proofs.open_book.Goals as goal

pub opened-requires : goal.opened-requires
opened-requires c = inside_bytes _ _ _ c.book-w.ensures.walked

pub returns : goal.returns
returns c = book_opened _ c.book-w.ensures.walked c.book-w.ensures.counted c.requires.1 c.opened.ensures
