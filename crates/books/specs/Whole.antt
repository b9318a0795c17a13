-- What the walk over a whole book comes to, if the arities that it is given are those that the book begins with.
use Rattle.std.specs.Prelude.{ℕ, ◌≡◌, List, Result}
use Rattle.fields.specs.Along.{Steps, along, Comes}
use Rattle.fields.specs.Along.End.{ok}
use Rattle.grammar.specs.Books.{arity_in, a_signature, a_book}
use Rattle.books.specs.Counts.{rules_of_book, CountedBookAlong}

-- `ar` is the look-up of the arities that a walk from x on begins with
abbrev pub Agrees : {S : Type 0} → Steps S → (ℕ → ℕ) → S → Type 0
Agrees {S} st ar x = (arities : List ℕ) (y : S) → along st a_signature x ≡ ok arities y → ar ≡ arity_in arities

pub record ReadsBook {S : Type 0} (st : Steps S) (ar : ℕ → ℕ) (x : S) (r : Result ℕ ℕ) (y : S) : Type 0 where
  pub comes : Agrees st ar x → Comes st a_book x rules_of_book r y

pub record CountsBook {S : Type 0} (st : Steps S) (ar : ℕ → ℕ) (x : S) (before after : List ℕ) : Type 0 where
  pub counted : Agrees st ar x → CountedBookAlong st x before after
