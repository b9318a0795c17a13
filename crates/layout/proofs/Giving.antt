-- The cases of reading and writing, as the code meets them.
use Prim.Native.Nat.{ℕ, ◌<◌, ◌≤◌}
use mathlib.Core.Path.{◌≡◌, sym, ◌∙◌, ap, subst}
use mathlib.Core.List.{List, [], ◌++◌}
use mathlib.Core.Bool.{true, false}
use native.Mathlib.Omega.{arith}
use borrow.Author.Tests.{lt-ltb, le-ltb}
use lib.ListN.{length, drop, length-map}
use Rattle.answers.specs.Carried.{refusal_at}
use Rattle.answers.specs.Numbers.{w_of}
use Rattle.bits.specs.Written.{Narrow}
use Rattle.bits.specs.Packed.{bytes_for, packed}
use Rattle.bits.proofs.PackedFields.{length_packed}
use Rattle.patterns.specs.Reason.{Reason, book_place, certificate_place}
use Rattle.fields.specs.Source.{Walk}
use Rattle.fields.specs.Source.{source, start}
use Rattle.fields.specs.Grammar.{Grammar}
use Rattle.fields.specs.Run.{Ran}
use Rattle.fields.proofs.Sinks.{values, sets, puts, sets_first, puts_first}
use Rattle.fields.proofs.Reading.{trace_narrow}
use Rattle.grammar.specs.Books.{arity_in}
use Rattle.grammar.specs.Calls.{a_call}
use Rattle.grammar.specs.Certificates.{a_certificate}
use Rattle.terms.specs.Arity.{arity_at}
use Rattle.terms.specs.Values.{nothing}
use Rattle.layout.specs.Files.{within_length, where_good, Opened, good, bad, open_bytes, open_list, certificate_of, open_book, open_certificate, open_call}
use Rattle.layout.specs.Openings.{Opening}
use Rattle.answers.specs.declared.W.{W}
use Rattle.answers.specs.declared.W.TheVariants.{Certificate, Call}
use Rattle.layout.specs.Openings.{sight, seen, seen_bytes, seen_list, CertificateOpened, CallOpened, Beside}
use Rattle.layout.specs.Answers.{Given, gives, refuses, listed, packed_given, reading_book, listing_beside, writing_beside, reading_certificate, writing_certificate}
use Rattle.layout.proofs.FileEnds.{words_after, bytes_after, bytes_seen, list_seen}
use Rattle.layout.proofs.Answering.{GoodFile}
use Rattle.layout.proofs.Opens.{InBytes, InList}
use Rattle.layout.proofs.Besides.{call_ran, beside_ran}

-- ---- too long, or not

module _ (w most : ℕ) (s : List ℕ) (g : Given) where
  pub too_long : most < length s → within_length refuses w most s g ≡ refuses (refusal_at 2 w 0)
  too_long h = rw (lt-ltb most (length s) h)

  pub not_too_long : length s ≤ most → within_length refuses w most s g ≡ g
  not_too_long h = rw (le-ltb most (length s) h)

-- ---- a book read

module _ (s : List ℕ) where
  pub book_too_long : 16384 < length s → reading_book s ≡ refuses (refusal_at 2 book_place 0)
  unfolding reading_book
  book_too_long h = too_long book_place 16384 s _ h

  pub book_read : length s ≤ 16384 → reading_book s ≡ listed (open_book s)
  unfolding reading_book
  book_read h = not_too_long book_place 16384 s _ h

-- ---- a good file: what is listed of it, or packed

module _ {A : Type 0} {val : A → ℕ} {x : Opened A} {v n k : ℕ} (g : GoodFile val x v n k) where
  pub good_listed : listed x ≡ gives (values g.fields)
  good_listed = ap listed g.is

  pub good_length : length (values g.fields) ≡ n
  good_length = length-map g.fields _ ∙ g.many

  pub good_bytes : length (packed g.fields) ≡ bytes_for k
  good_bytes = length_packed g.fields ∙ ap bytes_for g.wide

  module _ (w most : ℕ) where
    pub good_over : most < bytes_for k → packed_given w most x ≡ refuses (refusal_at 2 w 0)
    good_over h =
        ap (packed_given w most) g.is
        ∙ rw (lt-ltb most (length (packed g.fields)) (subst (λ j. most < j) (sym good_bytes) h))

    pub good_written : bytes_for k ≤ most → packed_given w most x ≡ gives (packed g.fields)
    good_written h =
        ap (packed_given w most) g.is
        ∙ rw (le-ltb most (length (packed g.fields)) (subst (λ j. j ≤ most) (sym good_bytes) h))

pub bad_listed : {A : Type 0} (x : Opened A) {r : Reason} → x ≡ bad r → listed x ≡ refuses r
bad_listed x e = ap listed e

pub bad_written : {A : Type 0} (w most : ℕ) (x : Opened A) {r : Reason} → x ≡ bad r → packed_given w most x ≡ refuses r
bad_written w most x e = ap (packed_given w most) e

-- ---- the outputs after the second walk

module _ {A : Type 0} (p : Grammar A) {val : A → ℕ} {r : Walk} {a : A} {fs : List (ℕ × ℕ)} where
  pub listed_after : {s out bs out₁ bs₁ : List ℕ} → InBytes p s a fs → Ran (source s []) p (start false) out bs val r out₁ bs₁
      → length (values fs) ≤ length out → out₁ ≡ values fs ++ drop (length (values fs)) out
  listed_after {s} {out} x h k =
      let e : length (values fs) ≡ length fs = length-map fs _ in
      words_after s [] h ∙ ap (λ gs. sets out 0 gs) x.fields ∙ sets_first out fs (omega arith)
      ∙ ap (λ n. values fs ++ drop n out) (sym e)

  pub packed_after : {l out ws out₁ ws₁ : List ℕ} → InList p l a fs → Ran (source [] l) p (start true) ws out val r ws₁ out₁
      → length (packed fs) ≤ length out → length (packed fs) ≤ 32768 → out₁ ≡ packed fs ++ drop (length (packed fs)) out
  packed_after {l} {out} x h k small =
      let e = length_packed fs in
      bytes_after [] l h ∙ ap (λ gs. puts out 0 gs) x.fields
      ∙ puts_first out fs (subst Narrow x.fields (trace_narrow [] l p (start true))) (omega arith)

-- ---- a book written

pub list_told : {A : Type 0} (l : List ℕ) (p : Grammar A) (val : A → ℕ) {ws bs ws₁ bs₁ : List ℕ} {w : Walk} (o : Opening) (place : W)
    → Ran (source [] l) p (start true) ws bs val w ws₁ bs₁ → sight o ≡ seen_list (w_of place) l w
    → sight o ≡ seen val (open_list (w_of place) p l)
list_told l p val o place h e = e ∙ list_seen l p val h (w_of place)

pub bytes_told : {A : Type 0} (s : List ℕ) (p : Grammar A) (val : A → ℕ) {ws bs ws₁ bs₁ : List ℕ} {w : Walk} (o : Opening) (place : W)
    → Ran (source s []) p (start false) ws bs val w ws₁ bs₁ → sight o ≡ seen_bytes (w_of place) s w
    → sight o ≡ seen val (open_bytes (w_of place) p s)
bytes_told s p val o place h e = e ∙ bytes_seen s p val h (w_of place)

-- ---- a call beside its book: the walk over it

pub call_opened : (book : List ℕ) {s ws bs ws₁ bs₁ : List ℕ} {x : Walk} (o : Opening)
    → Ran (source s []) (a_call (λ f. arity_at book [] false f)) (start false) ws bs nothing x ws₁ bs₁
    → sight o ≡ seen_bytes (w_of Call) s x → CallOpened book s o
unfolding open_call w_of
call_opened book {s} o k e = record {
  told = λ b fs q. bytes_told s (a_call (arity_in b.arities)) nothing o Call (call_ran book [] q k) e;
}

-- ---- a certificate beside its book

module _ (book counts : List ℕ) (h : Beside book counts) where
  pub writing_is : (l : List ℕ)
      → writing_beside book l ≡ packed_given certificate_place 32768 (open_list certificate_place (certificate_of h.tree) l)
  unfolding writing_beside
  writing_is l =
      ap (λ x. where_good refuses x λ b. packed_given certificate_place 32768 (open_list certificate_place (certificate_of b) l)) h.opened

  -- the first walk over it
  pub certificate_opened : {s ws bs ws₁ bs₁ : List ℕ} {x : Walk} (o : Opening)
      → Ran (source s []) (a_certificate (λ f. arity_at book [] false f) counts) (start false) ws bs nothing x ws₁ bs₁
      → sight o ≡ seen_bytes (w_of Certificate) s x → CertificateOpened book s o
  unfolding open_certificate w_of
  certificate_opened {s} o k e = record {
    told = λ b fs q.
        let same : good h.tree h.fields ≡ good b fs = sym h.opened ∙ q in
        subst (λ t. sight o ≡ seen nothing (open_certificate t s)) (cc same)
        (bytes_told s (certificate_of h.tree) nothing o Certificate (beside_ran book [] counts h k) e);
  }

  pub certificate_is : (s : List ℕ) → listing_beside book s ≡ listed (open_certificate h.tree s)
  unfolding listing_beside
  certificate_is s = ap (λ x. where_good refuses x λ b. listed (open_certificate b s)) h.opened

-- ---- a certificate with its book

module _ (book s : List ℕ) where
  pub certificate_book_long : 16384 < length book → reading_certificate book s ≡ refuses (refusal_at 2 book_place 0)
  unfolding reading_certificate
  certificate_book_long h = too_long book_place 16384 book _ h

  pub certificate_long : length book ≤ 16384 → 32768 < length s
      → reading_certificate book s ≡ refuses (refusal_at 2 certificate_place 0)
  unfolding reading_certificate
  certificate_long h k = not_too_long book_place 16384 book _ h ∙ too_long certificate_place 32768 s _ k

  pub certificate_read : length book ≤ 16384 → length s ≤ 32768 → reading_certificate book s ≡ listing_beside book s
  unfolding reading_certificate
  certificate_read h k = not_too_long book_place 16384 book _ h ∙ not_too_long certificate_place 32768 s _ k

  pub writing_book_long : 16384 < length book → writing_certificate book s ≡ refuses (refusal_at 2 book_place 0)
  unfolding writing_certificate
  writing_book_long h = too_long book_place 16384 book _ h

  pub certificate_written : length book ≤ 16384 → writing_certificate book s ≡ writing_beside book s
  unfolding writing_certificate
  certificate_written h = not_too_long book_place 16384 book _ h

  -- a bad book refuses both
  pub listing_bad : {r : Reason} → open_book book ≡ bad r → listing_beside book s ≡ refuses r
  unfolding listing_beside
  listing_bad e = ap (λ x. where_good refuses x λ b. listed (open_certificate b s)) e

  pub writing_bad : {r : Reason} → open_book book ≡ bad r → writing_beside book s ≡ refuses r
  unfolding writing_beside
  writing_bad e =
      ap (λ x. where_good refuses x λ b. packed_given certificate_place 32768 (open_list certificate_place (certificate_of b) s)) e
