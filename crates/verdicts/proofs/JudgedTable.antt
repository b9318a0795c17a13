-- Demand 1: every refusal is one out of 01's table, whatever the input: what the judge, the program and the four file operations refuse.
use Prim.Native.Nat.{ℕ, ◌≤◌}
use mathlib.Core.Path.{◌≡◌, refl, sym, ◌∙◌, ap, subst}
use mathlib.Core.List.{List}
use mathlib.Core.Bool.{Bool, true, false, cond}
use native.Mathlib.Omega.{arith}
use lib.ListN.{length}
use lib.Dec.{ltb}
use Rattle.std.specs.Prelude.{Result, Err}
use Rattle.table.specs.Places.{WORDS}
use Rattle.answers.specs.Numbers.{paper_refusal, paper_answer}
use Rattle.patterns.specs.Certificate.{Certificate}
use Rattle.patterns.specs.Reason.{Reason, book_place, certificate_place}
use Rattle.patterns.specs.Judge.{Ruling, refuse, judge}
use Rattle.patterns.specs.First.{Exp, Pair, Pace, one}
use Rattle.patterns.proofs.Judged.{refuses_exactly}
use Rattle.grammar.specs.Books.{RuleBook}
use Rattle.answers.specs.declared.Refusal.{Refusal}
use Rattle.layout.specs.Files.{where_good, Opened, good, bad, open_book, open_certificate}
use Rattle.layout.specs.Answers.{Given}
use Rattle.layout.specs.Promises.{Answers, BookRead, BookWritten, CertificateRead, CertificateWritten}
use Rattle.layout.proofs.OneFile.{book_file_fits, certificate_file_fits}
use Rattle.verdicts.specs.Judging.{with_table, judging_certificate, judging_files, judging}
use Rattle.verdicts.specs.Program.{judging_framed, judging_input}
use Rattle.answers.specs.InTable.{InTable}
use Rattle.answers.proofs.InTable.{short_table_in_table, long_file_in_table, unframed_in_table}
use Rattle.verdicts.proofs.CheckedTable.{broken_in_table}
use Rattle.verdicts.proofs.AnsweredTable.{GivenInTable, book_in_table, certificate_in_table, told_in_table, reading_book_in_table, writing_book_in_table, reading_certificate_in_table, writing_certificate_in_table}

-- ---- the judge and the program

-- what a verdict refuses with is in the table
abbrev pub VerdictInTable : Ruling Pace → Type 0
VerdictInTable v = (r : Reason) → v ≡ refuse r → InTable r

refused : (r : Reason) → InTable r → VerdictInTable (refuse r)
refused r h q e = let s : r ≡ q = cc in subst InTable s h

either : (b : Bool) (v u : Ruling Pace) → VerdictInTable v → VerdictInTable u → VerdictInTable (cond b v u)
either true v u h k = h
either false v u h k = k

trees : (book certificate : List ℕ) (b : RuleBook) (fs : List (ℕ × ℕ)) → open_book book ≡ good b fs → (K : Certificate Exp Pair Pace)
    (gs : List (ℕ × ℕ)) → open_certificate b certificate ≡ good K gs → VerdictInTable (judge one b.rules K)
trees book certificate b fs e K gs f r q =
    let limits = (book_file_fits book b fs e).0 in
    broken_in_table b limits K (certificate_file_fits b limits certificate K gs f).0 r ((refuses_exactly one b.rules K r).0 q)

files : (book certificate : List ℕ) → VerdictInTable (judging_certificate book certificate)
unfolding judging_certificate
files book certificate = book_way (open_book book) refl
  where
    certificate_way : (b : RuleBook) (fs : List (ℕ × ℕ)) → open_book book ≡ good b fs → (o : Opened (Certificate Exp Pair Pace))
        → open_certificate b certificate ≡ o → VerdictInTable (where_good refuse o λ K. judge one b.rules K)
    certificate_way b fs e (good K gs) f = trees book certificate b fs e K gs f
    certificate_way b fs e (bad r) f = refused r (certificate_in_table b certificate r f)

    book_way : (o : Opened RuleBook) → open_book book ≡ o
        → VerdictInTable (where_good refuse o λ b. where_good refuse (open_certificate b certificate) λ K. judge one b.rules K)
    book_way (good b fs) e = certificate_way b fs e (open_certificate b certificate) refl
    book_way (bad r) e = refused r (book_in_table book r e)

judging_files_in_table : (book certificate : List ℕ) → VerdictInTable (judging_files book certificate)
unfolding judging_files
judging_files_in_table book certificate =
    either (ltb 16384 (length book)) _ _ (refused _ (long_file_in_table book_place (omega arith)))
    (either (ltb 32768 (length certificate)) _ _ (refused _ (long_file_in_table certificate_place (omega arith)))
    (files book certificate))

table_in_table : (size : ℕ) (v : Ruling Pace) → VerdictInTable v → VerdictInTable (with_table size v)
table_in_table size v h = either (ltb size WORDS) _ v (refused _ short_table_in_table) h

pub judging_in_table : (book certificate : List ℕ) (size : ℕ) → VerdictInTable (judging book certificate size)
unfolding judging
judging_in_table book certificate size = table_in_table size _ (judging_files_in_table book certificate)

pub judging_input_in_table : (input : List ℕ) (size : ℕ) → VerdictInTable (judging_input input size)
unfolding judging_input judging_framed
judging_input_in_table input size =
    table_in_table size _
    (either (ltb 49154 (length input)) _ _ (refused _ (unframed_in_table 2 (omega arith) (omega arith)))
    (either (ltb (length input) _) _ _ (refused _ (unframed_in_table 3 (omega arith) (omega arith))) (judging_files_in_table _ _)))

-- ---- the four operations, over their own answers

answers_in_table : {w : ℕ} {g : Given} {before : List ℕ} {r : Result ℕ Refusal} {after : List ℕ} → (file : w ≤ 1) → GivenInTable g
    → Answers w g before r after → (f : Refusal) → r ≡ Err f → InTable (paper_refusal f)
unfolding paper_answer
answers_in_table {w} {g} {before} file h a f e =
    told_in_table w file g (length before) h (paper_refusal f) (sym a.answered ∙ ap paper_answer e)

module _ {before : List ℕ} {r : Result ℕ Refusal} {after : List ℕ} (f : Refusal) (e : r ≡ Err f) where
  pub read_book_in_table : {book : List ℕ} → BookRead book before r after → InTable (paper_refusal f)
  read_book_in_table {book} h = answers_in_table (omega arith) (reading_book_in_table book) h.answers f e

  pub write_book_in_table : {fields : List ℕ} → BookWritten fields before r after → InTable (paper_refusal f)
  write_book_in_table {fields} h = answers_in_table (omega arith) (writing_book_in_table fields) h.answers f e

  pub read_certificate_in_table : {book certificate : List ℕ} → CertificateRead book certificate before r after → InTable (paper_refusal f)
  read_certificate_in_table {book} {certificate} h =
      answers_in_table (omega arith) (reading_certificate_in_table book certificate) h.answers f e

  pub write_certificate_in_table : {book fields : List ℕ} → CertificateWritten book fields before r after → InTable (paper_refusal f)
  write_certificate_in_table {book} {fields} h =
      answers_in_table (omega arith) (writing_certificate_in_table book fields) h.answers f e
