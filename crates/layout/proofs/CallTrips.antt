-- Round trips over the operations: from the answer and the output of a first call to the answer and the output of a second.
use Prim.Native.Nat.{ℕ, ◌≤◌}
use mathlib.Core.Path.{◌≡◌, sym, ◌∙◌, ap}
use mathlib.Core.List.{List, ◌++◌}
use mathlib.Core.Bool.{Bool, true, false, cond}
use native.Mathlib.Omega.{arith}
use borrow.Author.Tests.{le-ltb}
use lib.ListN.{length, take, drop}
use lib.Seq.{take-append_seam}
use lib.Dec.{ltb}
use Rattle.std.specs.Prelude.{Result, Ok}
use Rattle.answers.specs.declared.Refusal.{Refusal}
use Rattle.answers.specs.Carried.{refusal_at}
use Rattle.answers.specs.Numbers.{filled_with, refused_with, paper_answer}
use Rattle.layout.specs.Answers.{Given, gives, refuses, told, output}
use Rattle.layout.specs.Promises.{Answers, BookRead, BookWritten, CertificateRead, CertificateWritten}
use Rattle.answers.proofs.Inverses.{answer_tells}
use Rattle.layout.proofs.RoundTrips.{book_read_written, book_written_read, certificate_read_written, certificate_written_read}

-- ---- one call, by its answer

-- the places that were filled are what the operation gives
filled_gives : {w n : ℕ} (g : Given) {before after : List ℕ} → Answers w g before (Ok n) after → g ≡ gives (take n after)
unfolding paper_answer told output
filled_gives {w} {n} (gives places) {before} {after} h = go (ltb (length before) (length places)) h.answered h.filled
  where
    go : (b : Bool) → filled_with n ≡ cond b (refused_with (refusal_at 8 w 0)) (filled_with (length places))
        → after ≡ cond b before (places ++ drop (length places) before) → gives places ≡ gives (take n after)
    go true e f = let z : ◌≡◌ {A = ℕ} 0 1 = cc e in absurd (omega arith)
    go false e f =
        let m : n ≡ length places = cc e in
        ap gives (sym (ap (λ (k : ℕ). take k after) m ∙ ap (take (length places)) f ∙ take-append_seam places (drop (length places) before)))
filled_gives (refuses r) h = let e = h.answered in let z : ◌≡◌ {A = ℕ} 0 1 = cc e in absurd (omega arith)

-- with room for them, what the operation gives fills the first places, and the rest is kept
abbrev Fills : List ℕ → List ℕ → Result ℕ Refusal → List ℕ → Type 0
Fills places before r after = (r ≡ Ok (length places)) × (after ≡ places ++ drop (length places) before)

gives_fills : {w : ℕ} {g : Given} {places before after : List ℕ} {r : Result ℕ Refusal} → g ≡ gives places
    → length places ≤ length before → Answers w g before r after → Fills places before r after
unfolding paper_answer told output
gives_fills {w} {g} {places} {before} {after} {r} e h k =
    let room = le-ltb (length before) (length places) h in
    (answer_tells r (Ok (length places)) (k.answered ∙ rw (e, room)), k.filled ∙ rw (e, room))

-- ---- two calls

module _ {before after out out' : List ℕ} {n : ℕ} {r : Result ℕ Refusal} where
  -- A book is read; its fields, written where there is room for its bytes, give these bytes again.
  pub read_then_write_book : {book : List ℕ} → BookRead book before (Ok n) after → BookWritten (take n after) out r out'
      → length book ≤ length out → (r ≡ Ok (length book)) × (out' ≡ book ++ drop (length book) out)
  read_then_write_book {book} h k room =
      gives_fills (book_read_written book (take n after) h.bytes (filled_gives _ h.answers)) room k.answers

  -- A book is written; its bytes, read where there is room for its fields, give these fields again.
  pub write_then_read_book : {fields : List ℕ} → BookWritten fields before (Ok n) after → BookRead (take n after) out r out'
      → length fields ≤ length out → (r ≡ Ok (length fields)) × (out' ≡ fields ++ drop (length fields) out)
  write_then_read_book {fields} h k room =
      gives_fills (book_written_read fields (take n after) (filled_gives _ h.answers)) room k.answers

  -- The same of a certificate beside its book.
  pub read_then_write_certificate : {book certificate : List ℕ} → CertificateRead book certificate before (Ok n) after
      → CertificateWritten book (take n after) out r out' → length certificate ≤ length out
      → (r ≡ Ok (length certificate)) × (out' ≡ certificate ++ drop (length certificate) out)
  read_then_write_certificate {book} {certificate} h k room =
      gives_fills (certificate_read_written book certificate (take n after) h.bytes (filled_gives _ h.answers)) room k.answers

  pub write_then_read_certificate : {book fields : List ℕ} → CertificateWritten book fields before (Ok n) after
      → CertificateRead book (take n after) out r out' → length fields ≤ length out
      → (r ≡ Ok (length fields)) × (out' ≡ fields ++ drop (length fields) out)
  write_then_read_certificate {book} {fields} h k room =
      gives_fills (certificate_written_read book fields (take n after) (filled_gives _ h.answers)) room k.answers
