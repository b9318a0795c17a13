-- The judge's answer, one layer after the other: the work table, the lengths of both files, their layout, the checks.
use Prim.Native.Nat.{ℕ, ◌≤◌, ◌<◌}
use mathlib.Core.Path.{◌≡◌, refl}
use mathlib.Core.List.{List}
use borrow.Author.Tests.{lt-ltb, le-ltb}
use lib.ListN.{length}
use Rattle.table.specs.Places.{WORDS}
use Rattle.answers.specs.Carried.{refusal_at}
use Rattle.patterns.specs.Certificate.{Certificate}
use Rattle.patterns.specs.Reason.{Reason, book_place, certificate_place}
use Rattle.patterns.specs.Judge.{refuse, judge}
use Rattle.patterns.specs.First.{Exp, Pair, Pace, one}
use Rattle.grammar.specs.Books.{RuleBook}
use Rattle.layout.specs.Files.{good, bad, open_book, open_certificate}
use Rattle.verdicts.specs.Judging.{judging_certificate, judging_files, refusal_one, judging}

module _ (book certificate : List ℕ) where
  -- ---- the work table

  -- 8,191 numbers are refused with 1, and 1 has W = 4
  pub table_case : judging book certificate 8191 ≡ refuse (record { number = 1; w = 4; a = 0; b = 0 })
  unfolding judging
  table_case = refl

  pub table_short : (size : ℕ) → size < WORDS → judging book certificate size ≡ refusal_one
  unfolding judging
  table_short size h = rw (lt-ltb size WORDS h)

  pub table_enough : (size : ℕ) → WORDS ≤ size → judging book certificate size ≡ judging_files book certificate
  unfolding judging
  table_enough size h = rw (le-ltb size WORDS h)

  -- ---- the lengths

  pub book_long : 16384 < length book → judging_files book certificate ≡ refuse (refusal_at 2 book_place 0)
  unfolding judging_files
  book_long h = rw (lt-ltb 16384 (length book) h)

  pub certificate_long : length book ≤ 16384 → 32768 < length certificate
      → judging_files book certificate ≡ refuse (refusal_at 2 certificate_place 0)
  unfolding judging_files
  certificate_long n h = rw (le-ltb 16384 (length book) n, lt-ltb 32768 (length certificate) h)

  pub both_short : length book ≤ 16384 → length certificate ≤ 32768
      → judging_files book certificate ≡ judging_certificate book certificate
  unfolding judging_files
  both_short n m = rw (le-ltb 16384 (length book) n, le-ltb 32768 (length certificate) m)

  -- ---- the layout

  pub book_refused : (r : Reason) → open_book book ≡ bad r → judging_certificate book certificate ≡ refuse r
  unfolding judging_certificate
  book_refused r e = rw e

  module _ (b : RuleBook) (fs : List (ℕ × ℕ)) (opened : open_book book ≡ good b fs) where
    pub certificate_refused : (r : Reason) → open_certificate b certificate ≡ bad r
        → judging_certificate book certificate ≡ refuse r
    unfolding judging_certificate
    certificate_refused r e = rw (opened, e)

    pub both_opened : (K : Certificate Exp Pair Pace) (gs : List (ℕ × ℕ)) → open_certificate b certificate ≡ good K gs
        → judging_certificate book certificate ≡ judge one b.rules K
    unfolding judging_certificate
    both_opened K gs e = rw (opened, e)
