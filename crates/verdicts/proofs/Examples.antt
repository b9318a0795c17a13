-- Computed examples: the refusals before any file and their order; some lines and decimals.
use mathlib.Core.Path.{◌≡◌, refl}
use mathlib.Core.List.{List, [], ◌∷◌}
use Prim.Native.Nat.{ℕ}
use lib.ListN.{replicate}
use Rattle.table.specs.Places.{WORDS}
use Rattle.answers.specs.Carried.{of_a_field, of_a_part, carried}
use Rattle.patterns.specs.Reason.{closing_place}
use Rattle.patterns.specs.Judge.{accept, refuse}
use Rattle.verdicts.specs.Program.{judging_framed, judging_input, book_length}
use Rattle.verdicts.specs.Decimal.{decimal_within, decimal}
use Rattle.verdicts.specs.Printing.{accept_word, refuse_word, spaced, sentence, refusal_line, line_of}

-- ---- 1, then 2, then 3, each with W = 4 and A and B 0

-- a table of 8,191 numbers is refused with 1, whatever the input is
pub short_table_input_case : (input : List ℕ) → judging_input input 8191 ≡ refuse (record { number = 1; w = 4; a = 0; b = 0 })
unfolding judging_input
short_table_input_case input = refl

-- 49,155 bytes are refused with 2, also where they say that the book has 65,535
pub long_input_case : judging_input (replicate 49155 255) WORDS ≡ refuse (record { number = 2; w = 4; a = 0; b = 0 })
unfolding judging_input judging_framed book_length
long_input_case = refl

-- no byte, one byte, and a book that lacks a byte are refused with 3
pub empty_input_case : judging_input [] WORDS ≡ refuse (record { number = 3; w = 4; a = 0; b = 0 })
unfolding judging_input judging_framed book_length
empty_input_case = refl

pub one_byte_case : judging_input (0 ∷ []) WORDS ≡ refuse (record { number = 3; w = 4; a = 0; b = 0 })
unfolding judging_input judging_framed book_length
one_byte_case = refl

pub cut_input_case : judging_input (0 ∷ 2 ∷ 0 ∷ []) WORDS ≡ refuse (record { number = 3; w = 4; a = 0; b = 0 })
unfolding judging_input judging_framed book_length
cut_input_case = refl

-- ---- lines and decimals

-- `accept 2 1 40`: the line, then k, then α
pub accept_case : line_of (accept 2 (record { k = 1; α = 40 }))
    ≡ 97 ∷ 99 ∷ 99 ∷ 101 ∷ 112 ∷ 116 ∷ 32 ∷ 50 ∷ 32 ∷ 49 ∷ 32 ∷ 52 ∷ 48 ∷ 10 ∷ []
unfolding line_of sentence accept_word spaced decimal decimal_within
accept_case = refl

-- `refuse 15 3 20 1`: the number, W, A and B
pub refuse_case : line_of (refuse (record { number = 15; w = closing_place; a = 20; b = 1 }))
    ≡ 114 ∷ 101 ∷ 102 ∷ 117 ∷ 115 ∷ 101 ∷ 32 ∷ 49 ∷ 53 ∷ 32 ∷ 51 ∷ 32 ∷ 50 ∷ 48 ∷ 32 ∷ 49 ∷ 10 ∷ []
unfolding line_of refusal_line carried of_a_field of_a_part sentence refuse_word spaced decimal decimal_within
refuse_case = refl

-- the largest `usize`, 20 digits
pub largest : decimal 18446744073709551615
    ≡ 49 ∷ 56 ∷ 52 ∷ 52 ∷ 54 ∷ 55 ∷ 52 ∷ 52 ∷ 48 ∷ 55 ∷ 51 ∷ 55 ∷ 48 ∷ 57 ∷ 53 ∷ 53 ∷ 49 ∷ 54 ∷ 49 ∷ 53 ∷ []
unfolding decimal decimal_within
largest = refl
