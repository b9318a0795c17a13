-- 01, "The table to be proved": its twelve cases in its order, and its one whole case of the program.
use Rattle.std.specs.Prelude.{ℕ, ◌≡◌, List, [], ◌∷◌, ◌++◌}
use Rattle.table.specs.Places.{WORDS}
use Rattle.bits.specs.Packed.{packed}
use Rattle.patterns.specs.Term.{fill}
use Rattle.patterns.specs.Edition.{reindex, form}
use Rattle.patterns.specs.Certificate.{by, Line}
use Rattle.patterns.specs.Checks.{Lines}
use Rattle.patterns.specs.Judge.{Ruling, accept, refuse}
use Rattle.patterns.specs.First.{Exp, Pattern, Pair, Pace, one}
use Rattle.patterns.specs.Examples.{x, y, s, r, f, w_book, gt_base, gt_line, add_base, add_line, while_line, certificate}
use Rattle.grammar.specs.Listing.{book_fields, certificate_fields}
use Rattle.verdicts.specs.Judging.{judging}
use Rattle.verdicts.specs.Program.{judging_input}
use Rattle.verdicts.specs.Printing.{line_of}

-- what a case says
pub data Case : Type 0 where
  -- a term has a normal form
  has_form : Pattern → Pattern → Case
  -- a term is another
  is : Pattern → Pattern → Case
  -- lines over W are good, each over the earlier ones
  good : List (Line Exp Pair) → Case
  -- a book and a certificate, in bytes, get a verdict
  gets : List ℕ → List ℕ → Ruling Pace → Case
  -- an input gets a verdict, and a line is printed for it
  prints : List ℕ → Ruling Pace → List ℕ → Case

-- with a work table of 8,192 numbers
unfoldable pub True : Case → Type 0
True (has_form t u) = form one t ≡ u
True (is t u) = t ≡ u
True (good ls) = Lines one w_book [] ls
True (gets book certificate v) = judging book certificate WORDS ≡ v
True (prints input v line) = (judging_input input WORDS ≡ v) × (line_of v ≡ line)

-- the book W in bytes: the arities of s, 0, gt, add and while, and the rules
abbrev pub w_file : List ℕ
w_file = packed (book_fields (record { arities = 1 ∷ 0 ∷ 2 ∷ 3 ∷ 2 ∷ []; rules = w_book }))

-- the certificate of cases 9 and 10 in bytes, with the start α
abbrev pub w_certificate : ℕ → List ℕ
w_certificate α = packed (certificate_fields (certificate α))

-- "The book `01 00 11 40 10 00` holds one constant and the rule "a if a"."
abbrev pub whole_book : List ℕ
whole_book = 0x01 ∷ 0x00 ∷ 0x11 ∷ 0x40 ∷ 0x10 ∷ 0x00 ∷ []

-- "The certificate is `01 20 14 00 00 40 00 00 00 00 00 00`."
abbrev pub whole_certificate : List ℕ
whole_certificate = 0x01 ∷ 0x20 ∷ 0x14 ∷ 0x00 ∷ 0x00 ∷ 0x40 ∷ 0x00 ∷ 0x00 ∷ 0x00 ∷ 0x00 ∷ 0x00 ∷ 0x00 ∷ []

-- "accept 0 0 0" and a newline
abbrev pub whole_line : List ℕ
whole_line = 97 ∷ 99 ∷ 99 ∷ 101 ∷ 112 ∷ 116 ∷ 32 ∷ 48 ∷ 32 ∷ 48 ∷ 32 ∷ 48 ∷ 10 ∷ []

abbrev pub cases : List Case
cases =
    has_form (s 1 0 (s 1 1 x)) (s 2 1 x)
    ∷ has_form (reindex one (0, 0) (s 1 0 x)) x
    ∷ has_form (reindex one (0, 0) (s 0 1 (r 1 0 (s 0 1 x)))) (s 0 2 x)
    ∷ is (fill (by ((0, y) ∷ (1, x) ∷ [])) (f x y)) (f y x)
    ∷ is (reindex one (3, 2) (s 2 1 x)) (s 6 5 x)
    ∷ good (gt_base ∷ gt_line ∷ [])
    ∷ good (add_base ∷ add_line 0 ∷ [])
    ∷ good (gt_base ∷ gt_line ∷ add_base ∷ add_line 2 ∷ while_line ∷ [])
    ∷ gets w_file (w_certificate 1) (accept 4 (record { k = 1; α = 1 }))
    ∷ gets w_file (w_certificate 0) (refuse (record { number = 15; w = 3; a = 4; b = 1 }))
    ∷ gets (0x00 ∷ 0x00 ∷ []) (0x00 ∷ []) (refuse (record { number = 3; w = 1; a = 8; b = 0 }))
    ∷ gets (0x00 ∷ 0x00 ∷ []) (0x00 ∷ 0x00 ∷ []) (refuse (record { number = 4; w = 1; a = 8; b = 0 }))
    ∷ prints (0x00 ∷ 0x06 ∷ whole_book ++ whole_certificate) (accept 0 (record { k = 0; α = 0 })) whole_line
    ∷ []
