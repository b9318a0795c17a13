-- Files that keep the layout and trees within the limits correspond one to one.
use Prim.Native.Nat.{ℕ, ◌≤◌}
use mathlib.Core.Logic.{◌↔◌}
use mathlib.Core.Path.{◌≡◌, refl, sym, ◌∙◌, ap, subst}
use mathlib.Core.List.{List, [], append-nil}
use mathlib.Core.Bool.{false}
use native.Mathlib.Omega.{arith}
use lib.ListN.{length}
use Rattle.fields.specs.Source.{start}
use Rattle.bits.specs.Bits.{Bytes}
use Rattle.bits.specs.Packed.{packed, Reads}
use Rattle.bits.proofs.PackedFields.{length_packed, packed_reads}
use Rattle.patterns.specs.Reason.{book_place, certificate_place, call_place}
use Rattle.patterns.specs.First.{Exp, Pattern, Pair, Pace}
use Rattle.patterns.specs.Certificate.{Certificate}
use Rattle.fields.specs.Grammar.{Grammar}
use Rattle.fields.specs.Spells.{Spells}
use Rattle.fields.proofs.Spelled.{spells_sized, spells_narrow, spells_few}
use Rattle.fields.proofs.Reading.{trace_spells, bytes_found}
use Rattle.grammar.specs.Books.{RuleBook, arity_in, a_book}
use Rattle.grammar.specs.Calls.{a_call}
use Rattle.grammar.specs.Limits.{TermFits, BookFits, CertificateFits}
use Rattle.grammar.specs.Listing.{term_fields, book_fields, certificate_fields}
use Rattle.grammar.proofs.FewFields.{call_narrow}
use Rattle.grammar.proofs.OneToOne.{spelled_call_fits, call_spelled, call_has_one_listing}
use Rattle.grammar.proofs.BookFields.{book_exactly}
use Rattle.grammar.proofs.CertificateFields.{certificate_exactly}
use Rattle.layout.specs.Files.{good, open_bytes, certificate_of, open_book, open_certificate, open_call}
use Rattle.layout.proofs.Opens.{in_bytes}
use Rattle.layout.proofs.RoundTrips.{bytes_packed, packed_opens}

-- what a good file's fields spell
opened_spells : {A : Type 0} (w : ℕ) (p : Grammar A) (s : List ℕ) {a : A} {fs : List (ℕ × ℕ)} → open_bytes w p s ≡ good a fs
    → Spells p a fs
opened_spells w p s {a} e =
    let x = in_bytes w p s e in
    subst (Spells p a) x.fields (trace_spells s [] p (start false) x.found)

-- and fields that are spelled make a good file
spelled_opens : {A : Type 0} (w : ℕ) (p : Grammar A) (a : A) (fs : List (ℕ × ℕ)) → Spells p a fs → length (packed fs) ≤ 32768 → open_bytes w p (packed fs) ≡ good a fs
spelled_opens w p a fs s small =
    let k = length_packed fs in
    let f = spells_few p a fs s in
    packed_opens w w p
    (bytes_found (packed fs) [] p (start false) a fs refl s (spells_narrow p a fs s)
    (subst (λ t. Reads t 0 fs) (append-nil (packed fs)) (packed_reads fs [] (spells_sized p a fs s))) (omega arith) (omega arith)
    (omega arith))

-- ---- books

-- A file's tree is within the limits, and its fields are the tree's.
pub book_file_fits : (s : List ℕ) (b : RuleBook) (fs : List (ℕ × ℕ)) → open_book s ≡ good b fs → BookFits b × (fs ≡ book_fields b)
unfolding open_book
book_file_fits s b fs e = (book_exactly b fs).0 (opened_spells book_place a_book s e)

-- Every tree within the limits, whose file is not too long, has a file.
pub book_has_a_file : (b : RuleBook) → BookFits b → length (packed (book_fields b)) ≤ 16384
    → open_book (packed (book_fields b)) ≡ good b (book_fields b)
unfolding open_book
book_has_a_file b h small =
    spelled_opens book_place a_book b (book_fields b) ((book_exactly b (book_fields b)).1 (h, refl)) (omega arith)

-- No two files have one tree.
pub one_book_file : (s t : List ℕ) → Bytes s → Bytes t → (b : RuleBook) (fs gs : List (ℕ × ℕ))
    → open_book s ≡ good b fs → open_book t ≡ good b gs → s ≡ t
unfolding open_book
one_book_file s t x y b fs gs e f =
    bytes_packed book_place book_place a_book s x e
    ∙ ap packed
    (((book_exactly b fs).0 (opened_spells book_place a_book s e)).1
    ∙ sym ((book_exactly b gs).0 (opened_spells book_place a_book t f)).1)
    ∙ sym (bytes_packed book_place book_place a_book t y f)

-- ---- certificates

module _ (b : RuleBook) (fits : BookFits b) where
  pub certificate_file_fits : (s : List ℕ) (K : Certificate Exp Pair Pace) (fs : List (ℕ × ℕ)) → open_certificate b s ≡ good K fs
      → CertificateFits b K × (fs ≡ certificate_fields K)
  unfolding open_certificate certificate_of
  certificate_file_fits s K fs e = (certificate_exactly b fits K fs).0 (opened_spells certificate_place _ s e)

  pub certificate_has_a_file : (K : Certificate Exp Pair Pace) → CertificateFits b K
      → length (packed (certificate_fields K)) ≤ 32768
      → open_certificate b (packed (certificate_fields K)) ≡ good K (certificate_fields K)
  unfolding open_certificate certificate_of
  certificate_has_a_file K h small =
      spelled_opens certificate_place _ K (certificate_fields K)
      ((certificate_exactly b fits K (certificate_fields K)).1 (h, refl)) small

  pub one_certificate_file : (s t : List ℕ) → Bytes s → Bytes t → (K : Certificate Exp Pair Pace) (fs gs : List (ℕ × ℕ))
      → open_certificate b s ≡ good K fs → open_certificate b t ≡ good K gs → s ≡ t
  unfolding open_certificate
  one_certificate_file s t x y K fs gs e f =
      bytes_packed certificate_place certificate_place (certificate_of b) s x e
      ∙ ap packed ((certificate_file_fits s K fs (unfold open_certificate in e)).1 ∙ sym (certificate_file_fits t K gs (unfold open_certificate in f)).1)
      ∙ sym (bytes_packed certificate_place certificate_place (certificate_of b) t y f)

  -- ---- calls, of any length

  pub call_file_fits : (s : List ℕ) (t : Pattern) (fs : List (ℕ × ℕ)) → open_call b s ≡ good t fs
      → TermFits b.arities 1 t × (fs ≡ term_fields t)
  unfolding open_call
  call_file_fits s t fs e =
      let h = opened_spells call_place (a_call (arity_in b.arities)) s e in
      let f = spelled_call_fits b fits t fs h in
      (f, call_has_one_listing b fits t fs (term_fields t) h (call_spelled b fits t f))

  pub call_has_a_file : (t : Pattern) → TermFits b.arities 1 t → open_call b (packed (term_fields t)) ≡ good t (term_fields t)
  unfolding open_call
  call_has_a_file t h =
      let s = call_spelled b fits t h in
      let k = length_packed (term_fields t) in
      let n = call_narrow (arity_in b.arities) t (term_fields t) s in
      spelled_opens call_place (a_call (arity_in b.arities)) t (term_fields t) s (omega arith)

  call_packed : (s : List ℕ) → Bytes s → {t : Pattern} {fs : List (ℕ × ℕ)} → open_call b s ≡ good t fs → s ≡ packed fs
  unfolding open_call
  call_packed s bytes e = bytes_packed call_place call_place (a_call (arity_in b.arities)) s bytes e

  -- a good call is just the packed fields of a term within the limits
  pub call_exactly : (s : List ℕ) → Bytes s → (t : Pattern) (fs : List (ℕ × ℕ))
      → (open_call b s ≡ good t fs) ↔ (TermFits b.arities 1 t × (s ≡ packed (term_fields t)) × (fs ≡ term_fields t))
  call_exactly s bytes t fs = (
    λ e. let f = call_file_fits s t fs e in (f.0, call_packed s bytes e ∙ ap packed f.1, f.1),
    λ h. rw (h.1, h.2) (call_has_a_file t h.0),
  )

  pub one_call_file : (s t : List ℕ) → Bytes s → Bytes t → (c : Pattern) (fs gs : List (ℕ × ℕ))
      → open_call b s ≡ good c fs → open_call b t ≡ good c gs → s ≡ t
  one_call_file s t x y c fs gs e f = ((call_exactly s x c fs).0 e).1 ∙ sym ((call_exactly t y c gs).0 f).1
