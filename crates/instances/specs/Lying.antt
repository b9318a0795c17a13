-- Where a tree lies in the bytes of a file: its fields stand there, one after the other.
use Rattle.std.specs.Prelude.{ℕ, ◌+◌, ◌≤◌, ◌≡◌, List, [], false}
use Rattle.bits.specs.Bits.{room_of}
use Rattle.bits.specs.Packed.{width, Reads}
use Rattle.patterns.specs.Term.{size}
use Rattle.patterns.specs.First.{Pattern}
use Rattle.patterns.specs.Formed.{Formed}
use Rattle.grammar.specs.Books.{arity_in}
use Rattle.grammar.specs.Listing.{Fields, term_fields}
use Rattle.terms.specs.Arity.{arity_at}

-- the fields stand from bit `at` on
pub record Lies (s : List ℕ) (at : ℕ) (fs : Fields) : Type 0 where
  pub reads : Reads s at fs
  pub room : at + width fs ≤ room_of s

-- the arities that a book's bytes tell
abbrev pub arities : List ℕ → ℕ → ℕ
arities book f = arity_at book [] false f

-- the arities of a book that was read are those that its bytes tell
abbrev pub KnownArities : List ℕ → List ℕ → Type 0
KnownArities book ars = arities book ≡ arity_in ars

-- the term t lies at bit `at` of s, and keeps to the arities of the book
pub record TermAt (book s : List ℕ) (at : ℕ) (t : Pattern) : Type 0 where
  pub lies : Lies s at (term_fields t)
  pub small : size t ≤ 256
  pub formed : Formed (arities book) t

-- the bit behind it
abbrev pub behind : ℕ → Pattern → ℕ
behind at t = at + width (term_fields t)
