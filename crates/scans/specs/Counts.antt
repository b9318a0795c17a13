-- How many calls each rule has, as the walk by bits over a book notes it.
use Rattle.std.specs.Prelude.{ℕ, ◌≡◌, List}
use Rattle.bits.specs.declared.Cursor.{Cursor}
use Rattle.grammar.specs.Books.{RuleBook, a_book}
use Rattle.grammar.specs.Limits.{call_counts}
use Rattle.books.specs.Counts.{noted}
use Rattle.scans.specs.Glance.{glance, first_bit}
use Rattle.scans.specs.Glance.Glance.{ok}

-- if a whole book was read, each rule's number of calls was noted from place 0 on
pub record CountedBook (s before after : List ℕ) : Type 0 where
  pub all : (b : RuleBook) (d : Cursor) → glance s a_book first_bit ≡ ok b d → after ≡ noted before 0 (call_counts b.rules)
