-- What the judge answers for a book and a certificate in bytes, and what it leaves in the work table. 01, "Refusal numbers":
-- "Order: 1; 2 (book first); the whole book field by field; the whole certificate; then lines from 0 up; then closing."
use Rattle.std.specs.Prelude.{ℕ, List, cond, length, replicate, ltb}
use Rattle.table.specs.Places.{WORDS}
use Rattle.answers.specs.Carried.{refusal_at}
use Rattle.patterns.specs.Reason.{book_place, certificate_place, neither_place}
use Rattle.patterns.specs.First.{Pace, one}
use Rattle.patterns.specs.Judge.{Ruling, refuse, judge}
use Rattle.layout.specs.Files.{open_book, open_certificate, within_length, where_good}

-- the whole book, then the whole certificate beside it, then its lines and its closing
unfoldable pub judging_certificate : List ℕ → List ℕ → Ruling Pace
judging_certificate book certificate =
    where_good refuse (open_book book) λ b. where_good refuse (open_certificate b certificate) λ K. judge one b.rules K

-- all but refusal 1
unfoldable pub judging_files : List ℕ → List ℕ → Ruling Pace
judging_files book certificate =
    within_length refuse book_place 16384 book
    (within_length refuse certificate_place 32768 certificate (judging_certificate book certificate))

-- 01: "1 has W = 4", and A and B 0
abbrev pub refusal_one : Ruling Pace
refusal_one = refuse (refusal_at 1 neither_place 0)

-- 01, 1: "the work table has fewer than 8,192 64-bit numbers"; `size` is how many it has. It stands before all else.
abbrev pub with_table : ℕ → Ruling Pace → Ruling Pace
with_table size rest = cond (ltb size WORDS) refusal_one rest

unfoldable pub judging : List ℕ → List ℕ → ℕ → Ruling Pace
judging book certificate size = with_table size (judging_files book certificate)

-- 01: "The work table is all zeros after every call but refusal 1, which doesn't touch it."
unfoldable pub work_after : List ℕ → List ℕ
work_after work = cond (ltb (length work) WORDS) work (replicate (length work) 0)
