-- Round trips: bytes read and written again give the same bytes, and fields written and read again give the same list.
use Prim.Native.Nat.{ℕ, ◌+◌, ◌-◌, ◌*◌, ◌≤◌, ◌^◌}
use mathlib.Core.Path.{◌≡◌, refl, sym, ◌∙◌, ap, subst}
use mathlib.Core.List.{List, [], append-nil}
use mathlib.Core.Bool.{Bool, true, false, cond}
use native.Mathlib.Omega.{arith}
use borrow.Author.Tests.{eq-eqb, eqb-true, le-ltb, ltb-false}
use lib.ListN.{length, length-map}
use lib.Dec.{ltb}
use Rattle.answers.specs.Carried.{refusal_at}
use Rattle.bits.specs.Bits.{Bytes, bits_at}
use Rattle.bits.specs.Packed.{width, bytes_for, packed}
use Rattle.bits.proofs.PackedFields.{length_packed, padding_reads}
use Rattle.patterns.specs.Reason.{book_place, certificate_place}
use Rattle.patterns.specs.First.{Exp, Pair, Pace}
use Rattle.patterns.specs.Certificate.{Certificate}
use Rattle.fields.specs.Source.{source, start}
use Rattle.fields.specs.Grammar.{Grammar}
use Rattle.fields.proofs.Sources.{both_true}
use Rattle.fields.proofs.Sinks.{values}
use Rattle.fields.proofs.Reading.{Reading}
use Rattle.fields.proofs.Trips.{read_packed_field, read_trip, written_whole, write_trip}
use Rattle.grammar.specs.Books.{RuleBook, a_book}
use Rattle.layout.specs.Files.{within_length, where_good, Opened, good, bad, ends_at, open_bytes, open_list, certificate_of, open_book, open_certificate}
use Rattle.layout.specs.Answers.{Given, gives, refuses, listed, packed_given, reading_book, writing_book, listing_beside, writing_beside, reading_certificate, writing_certificate}
use Rattle.layout.proofs.Opens.{in_bytes, in_list}

-- ---- one file, for every grammar

module _ {A : Type 0} (w v : ℕ) (p : Grammar A) {a : A} {fs : List (ℕ × ℕ)} where
  -- a good file in bytes is its fields packed, and they listed are a good list
  pub bytes_packed : (s : List ℕ) → Bytes s → open_bytes w p s ≡ good a fs → s ≡ packed fs
  unfolding ends_at
  bytes_packed s bytes e =
      let x = in_bytes w p s e in
      let t = both_true _ _ x.ends in
      subst (λ gs. s ≡ packed gs) x.fields
      (read_packed_field s [] p x.found bytes (eqb-true (length s) _ t.0) (eqb-true _ 0 t.1))

  pub bytes_listed : (s : List ℕ) → open_bytes w p s ≡ good a fs → open_list v p (values fs) ≡ good a fs
  unfolding open_list
  bytes_listed s e =
      let x = in_bytes w p s e in
      let f = subst (λ gs. Reading (source [] (values gs)) p (start true) a gs) x.fields (read_trip s [] p x.found []) in
      let n : 0 + length fs ≡ length (values fs) = sym (length-map fs _ ∙ omega arith) in
      rw (f.ends, f.passes, eq-eqb (0 + length fs) (length (values fs)) n)

  -- a good list is its fields' values, and they packed are a good file in bytes
  pub list_values : (l : List ℕ) → open_list w p l ≡ good a fs → values fs ≡ l
  list_values l e =
      let x = in_list w p l e in
      subst (λ gs. values gs ≡ l) x.fields (written_whole [] l p x.found x.all)

  -- fields that are found in their packed file make it a good file
  pub packed_opens : Reading (source (packed fs) []) p (start false) a fs → open_bytes v p (packed fs) ≡ good a fs
  unfolding open_bytes ends_at
  packed_opens f =
      let k = length_packed fs in
      let q : bits_at (packed fs) (width fs) (8 * length (packed fs) - width fs) ≡ 0 =
      subst (λ t. bits_at t (width fs) (8 * length (packed fs) - width fs) ≡ 0) (append-nil (packed fs)) (padding_reads fs []) in
      let z : 0 + width fs ≡ width fs = omega arith in
      rw (f.ends, f.passes, z, eq-eqb (length (packed fs)) (bytes_for (width fs)) k, eq-eqb _ 0 q)

  pub list_packed : (l : List ℕ) → open_list w p l ≡ good a fs → length (packed fs) ≤ 32768
      → open_bytes v p (packed fs) ≡ good a fs
  list_packed l e small =
      let x = in_list w p l e in
      let k = length_packed fs in
      packed_opens
      (subst (λ gs. width gs ≤ 2 ^ 32 → Reading (source (packed gs) []) p (start false) a gs) x.fields
      (λ h. write_trip [] l p x.found h []) (omega arith))

-- ---- what was given, by what was opened

given_listed : {A : Type 0} (x : Opened A) {l : List ℕ} → listed x ≡ gives l → (a : A) × (fs : List (ℕ × ℕ)) × (x ≡ good a fs) × (values fs ≡ l)
given_listed (good a fs) e = (a, fs, refl, cc)
given_listed (bad r) e = let z : ◌≡◌ {A = ℕ} 0 1 = cc in absurd (omega arith)

given_written : {A : Type 0} (w most : ℕ) (x : Opened A) {s : List ℕ} → packed_given w most x ≡ gives s
    → (a : A) × (fs : List (ℕ × ℕ)) × (x ≡ good a fs) × (packed fs ≡ s) × (length (packed fs) ≤ most)
given_written w most (good a fs) {s} e = go (ltb most (length (packed fs))) refl e
  where
    go : (b : Bool) → ltb most (length (packed fs)) ≡ b
        → cond b (refuses (refusal_at 2 w 0)) (gives (packed fs)) ≡ gives s
        → (c : _) × (gs : List (ℕ × ℕ)) × (good a fs ≡ good c gs) × (packed gs ≡ s) × (length (packed gs) ≤ most)
    go true t e = let z : ◌≡◌ {A = ℕ} 0 1 = cc e in absurd (omega arith)
    go false t e = (a, fs, refl, cc e, ltb-false most (length (packed fs)) t)
given_written w most (bad r) e = let z : ◌≡◌ {A = ℕ} 0 1 = cc in absurd (omega arith)

given_within : (w most : ℕ) (s : List ℕ) (g : Given) {l : List ℕ} → within_length refuses w most s g ≡ gives l → (length s ≤ most) × (g ≡ gives l)
given_within w most s g {l} = go (ltb most (length s)) refl
  where
    go : (b : Bool) → ltb most (length s) ≡ b → cond b (refuses (refusal_at 2 w 0)) g ≡ gives l → (length s ≤ most) × (g ≡ gives l)
    go true t e = let z : ◌≡◌ {A = ℕ} 0 1 = cc e in absurd (omega arith)
    go false t e = (ltb-false most (length s) t, e)

given_beside : (x : Opened RuleBook) (f : RuleBook → Given) {l : List ℕ} → where_good refuses x f ≡ gives l
    → (b : RuleBook) × (fs : List (ℕ × ℕ)) × (x ≡ good b fs) × (f b ≡ gives l)
given_beside (good b fs) f e = (b, fs, refl, e)
given_beside (bad r) f e = let z : ◌≡◌ {A = ℕ} 0 1 = cc in absurd (omega arith)

-- ---- books

-- Bytes read and the fields written again give the same bytes.
pub book_read_written : (s l : List ℕ) → Bytes s → reading_book s ≡ gives l → writing_book l ≡ gives s
unfolding reading_book writing_book open_book
book_read_written s l bytes e =
    let h = given_within book_place 16384 s _ e in
    let x = given_listed (open_bytes book_place a_book s) h.1 in
    let p = bytes_packed book_place book_place a_book s bytes x.2 in
    let q = bytes_listed book_place book_place a_book s x.2 in
    let k : length (packed x.1) ≤ 16384 = subst (λ t. length t ≤ 16384) p h.0 in
    subst (λ t. packed_given book_place 16384 (open_list book_place a_book t) ≡ gives s) x.3
    (rw (q, le-ltb 16384 (length (packed x.1)) k) (ap gives (sym p)))

-- Fields written and the bytes read again give the same list.
pub book_written_read : (l s : List ℕ) → writing_book l ≡ gives s → reading_book s ≡ gives l
unfolding reading_book writing_book open_book
book_written_read l s e =
    let x = given_written book_place 16384 (open_list book_place a_book l) e in
    let v = list_values book_place book_place a_book l x.2 in
    let k = x.4 in
    let q = list_packed book_place book_place a_book l x.2 (omega arith) in
    subst (λ t. within_length refuses book_place 16384 t (listed (open_bytes book_place a_book t)) ≡ gives l) x.3
    (rw (le-ltb 16384 (length (packed x.1)) k, q) (ap gives v))

-- ---- certificates with their book

module _ (book : List ℕ) {b : RuleBook} {bs : List (ℕ × ℕ)} (short : length book ≤ 16384) (opened : open_book book ≡ good b bs)
    {K : Certificate Exp Pair Pace} {fs : List (ℕ × ℕ)} where
  pub reading_is : (s : List ℕ) → length s ≤ 32768 → open_bytes certificate_place (certificate_of b) s ≡ good K fs
      → reading_certificate book s ≡ gives (values fs)
  unfolding reading_certificate listing_beside open_certificate
  reading_is s k e = rw (le-ltb 16384 (length book) short, le-ltb 32768 (length s) k, opened, e)

  pub writing_is : (l : List ℕ) → length (packed fs) ≤ 32768 → open_list certificate_place (certificate_of b) l ≡ good K fs
      → writing_certificate book l ≡ gives (packed fs)
  unfolding writing_certificate writing_beside
  writing_is l k e = rw (le-ltb 16384 (length book) short, opened, e, le-ltb 32768 (length (packed fs)) k)

pub certificate_read_written : (book s l : List ℕ) → Bytes s → reading_certificate book s ≡ gives l
    → writing_certificate book l ≡ gives s
unfolding reading_certificate listing_beside open_certificate
certificate_read_written book s l bytes e =
    let h = given_within book_place 16384 book _ e in
    let i = given_within certificate_place 32768 s _ h.1 in
    let b = given_beside (open_book book) _ i.1 in
    let x = given_listed (open_bytes certificate_place (certificate_of b.0) s) b.3 in
    let p = bytes_packed certificate_place certificate_place (certificate_of b.0) s bytes x.2 in
    let q = bytes_listed certificate_place certificate_place (certificate_of b.0) s x.2 in
    subst (λ t. writing_certificate book t ≡ gives s) x.3
    (writing_is book h.0 b.2 (values x.1) (subst (λ t. length t ≤ 32768) p i.0) q ∙ ap gives (sym p))

pub certificate_written_read : (book l s : List ℕ) → writing_certificate book l ≡ gives s → reading_certificate book s ≡ gives l
unfolding writing_certificate writing_beside
certificate_written_read book l s e =
    let h = given_within book_place 16384 book _ e in
    let b = given_beside (open_book book) _ h.1 in
    let x = given_written certificate_place 32768 (open_list certificate_place (certificate_of b.0) l) b.3 in
    let v = list_values certificate_place certificate_place (certificate_of b.0) l x.2 in
    let q = list_packed certificate_place certificate_place (certificate_of b.0) l x.2 x.4 in
    subst (λ t. reading_certificate book t ≡ gives l) x.3
    (reading_is book h.0 b.2 (packed x.1) x.4 q ∙ ap gives v)
