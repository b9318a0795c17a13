-- What the program answers for its input. 01, "The program".
use Rattle.std.specs.Prelude.{ℕ, ◌+◌, ◌*◌, ◌/◌, ◌%◌, ◌≤◌, ◌<◌, ◌≡◌, List, ◌∷◌, ◌++◌, cond, length, take, drop, get_or, ltb}
use Rattle.table.specs.Places.{WORDS}
use Rattle.answers.specs.Carried.{refusal_at}
use Rattle.patterns.specs.Reason.{neither_place}
use Rattle.patterns.specs.First.{Pace}
use Rattle.patterns.specs.Judge.{Ruling, refuse}
use Rattle.verdicts.specs.Judging.{judging_files, refusal_one, with_table, judging}
use Rattle.verdicts.specs.Demands.{Acceptable}

-- "two bytes, the book's length, high byte first"
unfoldable pub book_length : List ℕ → ℕ
book_length input = 256 * get_or input 0 0 + get_or input 1 0

-- "both with W = 4 and A and B 0"
abbrev pub unframed : ℕ → Ruling Pace
unframed number = refuse (refusal_at number neither_place 0)

-- "then the book; the certificate begins at the next byte after the book and takes the rest"
abbrev pub judging_parts : ℕ → List ℕ → Ruling Pace
judging_parts n input = judging_files (take n (drop 2 input)) (drop (2 + n) input)

-- all but refusal 1. "More than 49,154 bytes is refusal 2, fewer than two bytes or fewer than the length says is 3": 2 stands before
-- 3, and both before all that the two files give.
unfoldable pub judging_framed : List ℕ → Ruling Pace
judging_framed input =
    cond (ltb 49154 (length input)) (unframed 2)
    (cond (ltb (length input) (2 + book_length input)) (unframed 3) (judging_parts (book_length input) input))

-- 01: "Order: 1; ..": a work table that is too short is refused here too, before the framing. "The work table is all zeros after
-- every call but refusal 1, which doesn't touch it", as `work_after` says.
unfoldable pub judging_input : List ℕ → ℕ → Ruling Pace
judging_input input size = with_table size (judging_framed input)

-- ---- the same, without a run: which answer each input gets

-- the input that holds a book and a certificate
unfoldable pub framing : List ℕ → List ℕ → List ℕ
framing book certificate = length book / 256 ∷ length book % 256 ∷ book ++ certificate

pub data InputVerdict (input : List ℕ) (size : ℕ) (v : Ruling Pace) : Type 0 where
  short_table : size < WORDS → v ≡ refusal_one → InputVerdict input size v
  too_long : WORDS ≤ size → 49154 < length input → v ≡ unframed 2 → InputVerdict input size v
  cut_short : WORDS ≤ size → length input ≤ 49154 → length input < 2 + book_length input → v ≡ unframed 3
      → InputVerdict input size v
  framed : WORDS ≤ size → length input ≤ 49154 → (book certificate : List ℕ) → input ≡ framing book certificate
      → v ≡ judging book certificate size → InputVerdict input size v

-- an input that is to be accepted
pub record AcceptableInput (input : List ℕ) (size line : ℕ) (pace : Pace) : Type 0 where
  pub book : List ℕ
  pub certificate : List ℕ
  pub parts : input ≡ framing book certificate
  pub acceptable : Acceptable book certificate size line pace
