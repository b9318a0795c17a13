-- 01, "Refusal numbers", and what 02 adds to it, as one table: the number, W, A and B of every refusal that there is.
use Rattle.std.specs.Prelude.{ℕ, ◌≤◌, ◌≡◌, ◌⊎◌}
use mathlib.Core.List.{List, [], ◌∷◌, ◌++◌}
use Rattle.patterns.specs.Reason.{Reason, book_place, certificate_place, line_place, closing_place, neither_place, call_place}
use Rattle.patterns.specs.Certificate.{LineKind, unfolds, descends}

-- what stands in a column: one number, all numbers from one to another, or any number
pub data Column : Type 0 where
  only : ℕ → Column
  span : ℕ → ℕ → Column
  every : Column

unfoldable pub Allows : Column → ℕ → Type 0
Allows (only n) m = m ≡ n
Allows (span least most) m = (least ≤ m) × (m ≤ most)
Allows every m = Unit {0}

pub record Row : Type 0 where
  pub number : Column
  pub w : Column
  pub a : Column
  pub b : Column

abbrev pub row : Column → Column → Column → Column → Row
row number w a b = record { number = number; w = w; a = a; b = b }

-- a refusal that a row allows
pub record InRow (q : Row) (r : Reason) : Type 0 where
  pub number : Allows q.number r.number
  pub w : Allows q.w r.w
  pub a : Allows q.a r.a
  pub b : Allows q.b r.b

-- a refusal that one of the rows allows
unfoldable pub Among : List Row → Reason → Type 0
Among [] r = ⊥
Among (q ∷ qs) r = InRow q r ⊎ Among qs r

-- ---- 1 to 8: the work table, the files and the program

-- "W (0 book, 1 certificate, 2 line, 3 closing, 4 neither)"
abbrev pub a_file : Column
a_file = span book_place certificate_place

abbrev pub neither : Column
neither = only neither_place

-- "Otherwise both are 0"
abbrev pub zero_only : Column
zero_only = only 0

-- 1, "and 1 has W = 4"; "The refusals 2 and 8 name the file they speak of"; "For 3 to 7, W is the file, A is the bit offset [..]
-- (for 7, the first bit after the last field; in the file being written, the field's number from 0 instead [..]) and B is 0"; and
-- the program's own 2 and 3, "both with W = 4 and A and B 0"
abbrev pub file_rows : List Row
file_rows =
    row (only 1) neither zero_only zero_only
    ∷ row (only 2) a_file zero_only zero_only
    ∷ row (span 3 7) a_file every zero_only
    ∷ row (only 8) a_file zero_only zero_only
    ∷ row (span 2 3) neither zero_only zero_only
    ∷ []

-- ---- 9 to 16: "A is the line judged, in the closing the line named, and B is the part"

-- a line's number: at most 255 lines are counted in 8 bits
abbrev pub line_number : Column
line_number = span 0 254

abbrev pub at_line : ℕ → Column → Row
at_line number part = row (only number) (only line_place) line_number part

abbrev pub at_closing : ℕ → Column → Row
at_closing number part = row (only number) (only closing_place) line_number part

-- "Unfold": part 0, "else 9"; part j, for the at most 8 calls of a rule, "else 11", if calls stand behind it, "else 10"; part 15,
-- "else 12". 16 stands where sides are compared.
abbrev pub unfold_rows : List Row
unfold_rows =
    at_line 9 (only 0)
    ∷ at_line 11 (span 1 7)
    ∷ at_line 10 (span 1 8)
    ∷ at_line 12 (only 15)
    ∷ at_line 16 (span 0 8)
    ∷ at_line 16 (only 15)
    ∷ []

-- "Descent": parts 0 to 4, "else 9", "else 12", "else 9", "else 10", "else 13"
abbrev pub descent_rows : List Row
descent_rows =
    at_line 9 (only 0)
    ∷ at_line 12 (only 1)
    ∷ at_line 9 (only 2)
    ∷ at_line 10 (only 3)
    ∷ at_line 13 (only 4)
    ∷ at_line 16 (span 0 3)
    ∷ []

-- "Closing": part 0, "else 14"; part 1, "else 15"
abbrev pub closing_rows : List Row
closing_rows = at_closing 14 (only 0) ∷ at_closing 15 (only 1) ∷ at_closing 16 (only 1) ∷ []

-- the rows of a line, by its kind
unfoldable pub line_rows : {E R : Type 0} → LineKind E R → List Row
line_rows (unfolds k θ s) = unfold_rows
line_rows (descends u k θ) = descent_rows

-- ---- 02, Ticket 1: "then 3 to 7 for the call, with W = 5, [..]; then 17, W = 4, not covered"

-- A is a bit offset in the call, and B is 0, as in the files; 17 has no place.
abbrev pub call_rows : List Row
call_rows = row (span 3 7) (only call_place) every zero_only ∷ row (only 17) neither zero_only zero_only ∷ []

-- ---- the whole table

abbrev pub refusal_rows : List Row
refusal_rows = file_rows ++ unfold_rows ++ descent_rows ++ closing_rows ++ call_rows

unfoldable pub InTable : Reason → Type 0
InTable r = Among refusal_rows r
