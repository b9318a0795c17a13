-- What the two files are refused with, read or written, is in 01's table, and so is what the four file operations refuse.
use Prim.Native.Nat.{ℕ, ◌≤◌}
use mathlib.Core.Path.{◌≡◌, refl, ap, subst}
use mathlib.Core.List.{List, []}
use mathlib.Core.Bool.{Bool, true, false, cond}
use native.Mathlib.Omega.{arith}
use lib.ListN.{length}
use lib.Dec.{eqb, ltb}
use Rattle.answers.specs.Carried.{refusal_at}
use Rattle.answers.specs.Numbers.{Told, filled_with, refused_with}
use Rattle.bits.specs.Packed.{packed}
use Rattle.patterns.specs.Reason.{Reason, book_place, certificate_place, call_place}
use Rattle.fields.specs.Source.{source, start}
use Rattle.fields.specs.Grammar.{Grammar, Outcome, outcome, trace}
use Rattle.fields.specs.Grammar.Outcome.{ok, no}
use Rattle.fields.proofs.Refusing.{refused_few}
use Rattle.grammar.specs.Books.{RuleBook, arity_in, a_book}
use Rattle.grammar.specs.Calls.{a_call}
use Rattle.layout.specs.Files.{within_length, where_good, Opened, good, bad, ends_at, closed_bytes, open_bytes, closed_list, open_list, certificate_of, open_book, open_certificate, open_call}
use Rattle.layout.specs.Answers.{Given, gives, refuses, listed, packed_given, reading_book, writing_book, listing_beside, writing_beside, reading_certificate, writing_certificate, told}
use Rattle.answers.specs.InTable.{InTable}
use Rattle.answers.proofs.InTable.{long_file_in_table, field_in_table, no_room_in_table, call_in_table as call-field-in-table}

-- what a file, an operation or an answer is refused with is in the table
abbrev pub OpenedInTable : {A : Type 0} → Opened A → Type 0
OpenedInTable o = (r : Reason) → o ≡ bad r → InTable r

abbrev pub GivenInTable : Given → Type 0
GivenInTable g = (r : Reason) → g ≡ refuses r → InTable r

abbrev pub ToldInTable : Told → Type 0
ToldInTable t = (r : Reason) → t ≡ refused_with r → InTable r

-- ---- a whole file is refused with 3 to 7

same_bad : {A : Type 0} (r q : Reason) → ◌≡◌ {A = Opened A} (bad r) (bad q) → r ≡ q
same_bad r q e = cc

abbrev FieldsInTable : ℕ → Type 0
FieldsInTable w = (m place : ℕ) → 3 ≤ m → m ≤ 7 → InTable (refusal_at m w place)

of_file : (w : ℕ) → w ≤ 1 → FieldsInTable w
of_file w file m place l n = field_in_table m w place l n file

module _ {A : Type 0} (w : ℕ) (fields : FieldsInTable w) (p : Grammar A) where
  refused : (m place : ℕ) → 3 ≤ m → m ≤ 7 → OpenedInTable {A = A} (bad (refusal_at m w place))
  refused m place l n r e = subst InTable (same_bad _ _ e) (fields m place l n)

  ended : (b : Bool) (a : A) (fs : List (ℕ × ℕ)) (place : ℕ) → OpenedInTable (cond b (good a fs) (bad (refusal_at 7 w place)))
  ended true a fs place r e = let z : ◌≡◌ {A = ℕ} 0 1 = cc in absurd (omega arith)
  ended false a fs place r e = refused 7 place (omega arith) (omega arith) r e

  pub bytes_in_table : (s : List ℕ) → OpenedInTable (open_bytes w p s)
  unfolding open_bytes
  bytes_in_table s = go (outcome (source s []) p (start false)) refl
    where
      fs : List (ℕ × ℕ)
      fs = trace (source s []) p (start false)

      go : (o : Outcome A) → outcome (source s []) p (start false) ≡ o → OpenedInTable (closed_bytes w s o fs)
      go (ok a c) e = ended (ends_at s c.bit) a fs c.bit
      go (no m c) e = let n = refused_few s [] p (start false) m c e in refused m c.bit n.0 (omega (arith, n.1))

  pub list_in_table : (l : List ℕ) → OpenedInTable (open_list w p l)
  unfolding open_list
  list_in_table l = go (outcome (source [] l) p (start true)) refl
    where
      fs : List (ℕ × ℕ)
      fs = trace (source [] l) p (start true)

      go : (o : Outcome A) → outcome (source [] l) p (start true) ≡ o → OpenedInTable (closed_list w l o fs)
      go (ok a c) e = ended (eqb c.n (length l)) a fs c.n
      go (no m c) e = let n = refused_few [] l p (start true) m c e in refused m c.n n.0 (omega (arith, n.1))

pub book_in_table : (s : List ℕ) → OpenedInTable (open_book s)
unfolding open_book
book_in_table s = bytes_in_table book_place (of_file book_place (omega arith)) a_book s

pub certificate_in_table : (b : RuleBook) (s : List ℕ) → OpenedInTable (open_certificate b s)
unfolding open_certificate
certificate_in_table b s = bytes_in_table certificate_place (of_file certificate_place (omega arith)) (certificate_of b) s

pub call_in_table : (b : RuleBook) (s : List ℕ) → OpenedInTable (open_call b s)
unfolding open_call
call_in_table b s = bytes_in_table call_place call-field-in-table (a_call (arity_in b.arities)) s

-- ---- the operations

same_refusal : (r q : Reason) → refuses r ≡ refuses q → r ≡ q
same_refusal r q e = cc

listed_in_table : {A : Type 0} (o : Opened A) → OpenedInTable o → GivenInTable (listed o)
listed_in_table (good a fs) h r e = let z : ◌≡◌ {A = ℕ} 0 1 = cc in absurd (omega arith)
listed_in_table (bad q) h r e = h r (ap bad (same_refusal q r e))

module _ (w : ℕ) (file : w ≤ 1) where
  long_in_table : (b : Bool) (rest : Given) → GivenInTable rest → GivenInTable (cond b (refuses (refusal_at 2 w 0)) rest)
  long_in_table true rest h r e = subst InTable (same_refusal _ _ e) (long_file_in_table w file)
  long_in_table false rest h r e = h r e

  within_in_table : (most : ℕ) (s : List ℕ) (rest : Given) → GivenInTable rest → GivenInTable (within_length refuses w most s rest)
  within_in_table most s rest h = long_in_table (ltb most (length s)) rest h

  written_in_table : {A : Type 0} (most : ℕ) (o : Opened A) → OpenedInTable o → GivenInTable (packed_given w most o)
  written_in_table most (good a fs) h =
      long_in_table (ltb most (length (packed fs))) (gives (packed fs))
      (λ r e. let z : ◌≡◌ {A = ℕ} 0 1 = cc in absurd (omega arith))
  written_in_table most (bad q) h = λ r e. h r (ap bad (same_refusal q r e))

  -- and with the output that is lent
  pub told_in_table : (g : Given) (room : ℕ) → GivenInTable g → ToldInTable (told w g room)
  unfolding told
  told_in_table (refuses q) room h r e = h r cc
  told_in_table (gives places) room h r e = go (ltb room (length places)) e
    where
      go : (b : Bool) → cond b (refused_with (refusal_at 8 w 0)) (filled_with (length places)) ≡ refused_with r → InTable r
      go true q = let same : refusal_at 8 w 0 ≡ r = cc in subst InTable same (no_room_in_table w file)
      go false q = let z : ◌≡◌ {A = ℕ} 0 1 = cc in absurd (omega arith)

beside_in_table : (o : Opened RuleBook) (f : RuleBook → Given) → OpenedInTable o → ((b : RuleBook) → GivenInTable (f b))
    → GivenInTable (where_good refuses o f)
beside_in_table (good b fs) f h g r e = g b r e
beside_in_table (bad q) f h g r e = h r (ap bad (same_refusal q r e))

-- what each operation refuses
pub reading_book_in_table : (s : List ℕ) → GivenInTable (reading_book s)
unfolding reading_book
reading_book_in_table s = within_in_table book_place (omega arith) 16384 s _ (listed_in_table (open_book s) (book_in_table s))

pub writing_book_in_table : (l : List ℕ) → GivenInTable (writing_book l)
unfolding writing_book
writing_book_in_table l =
    written_in_table book_place (omega arith) 16384 _ (list_in_table book_place (of_file book_place (omega arith)) a_book l)

pub reading_certificate_in_table : (book s : List ℕ) → GivenInTable (reading_certificate book s)
unfolding reading_certificate listing_beside
reading_certificate_in_table book s =
    within_in_table book_place (omega arith) 16384 book _
    (within_in_table certificate_place (omega arith) 32768 s _
    (beside_in_table (open_book book) _ (book_in_table book) (λ b. listed_in_table (open_certificate b s) (certificate_in_table b s))))

pub writing_certificate_in_table : (book l : List ℕ) → GivenInTable (writing_certificate book l)
unfolding writing_certificate writing_beside
writing_certificate_in_table book l =
    within_in_table book_place (omega arith) 16384 book _
    (beside_in_table (open_book book) _ (book_in_table book)
    (λ b. written_in_table certificate_place (omega arith) 32768 _
    (list_in_table certificate_place (of_file certificate_place (omega arith)) (certificate_of b) l)))
