-- What reading and writing give, what they answer in 01's numbers, and the output after them.
use Rattle.std.specs.Prelude.{ℕ, List, ◌++◌, map, cond, length, drop, ltb}
use Rattle.answers.specs.Carried.{refusal_at}
use Rattle.answers.specs.Numbers.{Told, filled_with, refused_with}
use Rattle.bits.specs.Packed.{packed}
use Rattle.patterns.specs.Reason.{Reason, book_place, certificate_place}
use Rattle.grammar.specs.Books.{a_book}
use Rattle.layout.specs.Files.{Opened, good, bad, open_list, certificate_of, open_book, open_certificate, within_length, where_good}

-- ---- what they give: the places to be filled, or a refusal

pub data Given : Type 0 where
  gives : List ℕ → Given
  refuses : Reason → Given

-- 01: "Reading turns bytes into a list, writing turns a list into bytes."
abbrev pub listed : {A : Type 0} → Opened A → Given
listed (good a fs) = gives (map (λ (f : ℕ × ℕ). f.1) fs)
listed (bad r) = refuses r

-- 01: "For the file being written, 2 stands after 7 and before 8."
abbrev pub packed_given : {A : Type 0} → ℕ → ℕ → Opened A → Given
packed_given w most (good a fs) = cond (ltb most (length (packed fs))) (refuses (refusal_at 2 w 0)) (gives (packed fs))
packed_given w most (bad r) = refuses r

unfoldable pub reading_book : List ℕ → Given
reading_book s = within_length refuses book_place 16384 s (listed (open_book s))

unfoldable pub writing_book : List ℕ → Given
writing_book l = packed_given book_place 16384 (open_list book_place a_book l)

-- the certificate beside a good book
unfoldable pub listing_beside : List ℕ → List ℕ → Given
listing_beside book s = where_good refuses (open_book book) λ b. listed (open_certificate b s)

unfoldable pub writing_beside : List ℕ → List ℕ → Given
writing_beside book l =
    where_good refuses (open_book book) λ b. packed_given certificate_place 32768 (open_list certificate_place (certificate_of b) l)

unfoldable pub reading_certificate : List ℕ → List ℕ → Given
reading_certificate book s =
    within_length refuses book_place 16384 book
    (within_length refuses certificate_place 32768 s (listing_beside book s))

unfoldable pub writing_certificate : List ℕ → List ℕ → Given
writing_certificate book l = within_length refuses book_place 16384 book (writing_beside book l)

-- ---- what they answer, with `room` places lent

-- 01, 8: "the output doesn't fit the lent slice, and nothing else is wrong"
unfoldable pub told : ℕ → Given → ℕ → Told
told w (gives places) room = cond (ltb room (length places)) (refused_with (refusal_at 8 w 0)) (filled_with (length places))
told w (refuses r) room = refused_with r

-- 01: "fill the first places of the output on success and keep the rest [..]; a refusal [..] changes none"
unfoldable pub output : Given → List ℕ → List ℕ
output (gives places) out = cond (ltb (length out) (length places)) out (places ++ drop (length places) out)
output (refuses r) out = out
