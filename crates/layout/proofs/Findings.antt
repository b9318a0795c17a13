-- A file walked by bits to its end is what opening it says: the same tree or refusal, and the same notes of a book.
use Rattle.std.specs.Prelude.{Ok, Err}
use Prim.Native.Nat.{ℕ, ◌*◌, ◌^◌, ◌≤◌, ◌<◌}
use mathlib.Core.Path.{◌≡◌, refl, sym, ◌∙◌, ap, subst}
use mathlib.Core.List.{List, []}
use mathlib.Core.Bool.{Bool, true, false, cond}
use native.Mathlib.Omega.{arith}
use lib.ListN.{length, take, length-map}
use Rattle.answers.specs.Carried.{refusal_at, of_a_field, carried}
use Rattle.answers.specs.Numbers.{w_of, paper_refusal}
use Rattle.answers.specs.declared.Refusal.{Refusal}
use Rattle.answers.specs.declared.W.{W}
use Rattle.answers.specs.declared.W.TheVariants.{Book, Certificate}
use Rattle.answers.proofs.Carrying.{carried_field}
use Rattle.patterns.specs.Reason.{book_place, certificate_place}
use Rattle.bits.specs.declared.Cursor.{Cursor}
use Rattle.fields.specs.declared.Walker.{Walker}
use Rattle.fields.specs.Source.{source, start}
use Rattle.fields.specs.Grammar.{Grammar, Outcome, outcome, trace}
use Rattle.fields.specs.Grammar.Outcome.{ok, no}
use Rattle.fields.proofs.Reading.{end_room}
use Rattle.fields.proofs.Refusing.{refused_few}
use Rattle.grammar.specs.Books.{RuleBook, a_book}
use Rattle.grammar.specs.Certificates.{a_certificate}
use Rattle.grammar.specs.Limits.{call_counts}
use Rattle.terms.specs.Arity.{arity_at}
use Rattle.terms.specs.Values.{nothing}
use Rattle.books.specs.Counts.{noted, rules_of_book}
use Rattle.scans.specs.Glance.{Scan}
use Rattle.scans.specs.Glance.{Glance, first_bit, glance, glanced, Scans}
use Rattle.scans.specs.Counts.{CountedBook}
use Rattle.scans.proofs.Joins.{uncounted, from_first}
use Rattle.layout.specs.Findings.{Finding}
use Rattle.layout.specs.Files.{Opened, good, bad, ends_at, closed_bytes, open_bytes, certificate_of, open_book, open_certificate}
use Rattle.layout.specs.Openings.{Beside}
use Rattle.layout.specs.Findings.{has, faulty, finding, found_in, seen_to_end, scanned_bits, BookSeen, CertificateSeen}
use Rattle.layout.proofs.Opens.{InBytes, in_bytes, book_fits, noted_first}
use Rattle.layout.proofs.Besides.{arities_known}

-- ---- a walk by bits over a whole file

module _ {A : Type 0} (s : List ℕ) (p : Grammar A) (val : A → ℕ) {r : Scan} (h : Scans s p first_bit val r) where
  scan_is : r ≡ glanced val (uncounted (outcome (source s []) p (start false)))
  scan_is = h.told ∙ ap (glanced val) (sym (from_first s p))

  -- it ends within the bytes, and within the first 2 ^ 32 bits
  pub inside_bits : (scanned_bits r ≤ 2 ^ 32) × (scanned_bits r ≤ 8 * length s)
  unfolding scanned_bits uncounted
  inside_bits = rw scan_is (go (outcome (source s []) p (start false)) refl)
    where
      go : (o : Outcome A) → outcome (source s []) p (start false) ≡ o
          → (scanned_bits (glanced val (uncounted o)) ≤ 2 ^ 32) × (scanned_bits (glanced val (uncounted o)) ≤ 8 * length s)
      go (ok a d) e = let k = end_room s [] p (start false) e refl (omega arith) in (omega arith, omega arith)
      go (no m d) e = (omega arith, omega arith)

  pub bits_seen : (w : ℕ) → seen_to_end w s r ≡ found_in val (open_bytes w p s)
  unfolding seen_to_end found_in open_bytes uncounted
  bits_seen w = ap (seen_to_end w s) scan_is ∙ go (outcome (source s []) p (start false)) refl
    where
      at_end : (a : A) (d : Walker) (b : Bool)
          → cond b (has (val a)) (faulty (refusal_at 7 w d.bit))
          ≡ found_in val (cond b (good a (trace (source s []) p (start false))) (bad (refusal_at 7 w d.bit)))
      at_end a d true = refl
      at_end a d false = refl

      go : (o : Outcome A) → outcome (source s []) p (start false) ≡ o
          → seen_to_end w s (glanced val (uncounted o)) ≡ found_in val (closed_bytes w s o (trace (source s []) p (start false)))
      go (ok a d) e = at_end a d (ends_at s d.bit)
      go (no m d) e = let f = refused_few s [] p (start false) m d e in ap faulty (carried_field w d.bit 0 f.0 (omega (arith, f.1)))

-- ---- what the code makes of it

pub bits_on : {r : Scan} {v : ℕ} {c : Cursor} (n : ℕ) → r ≡ Ok (v, c) → scanned_bits r ≤ n → c.at ≤ n
unfolding scanned_bits
bits_on n e h = subst (λ x. scanned_bits x ≤ n) e h

module _ (s : List ℕ) (place : W) {r : Scan} {c : Cursor} where
  pub end_good : {v : ℕ} {b : Bool} → r ≡ Ok (v, c) → b ≡ ends_at s c.at → b ≡ true → finding (Ok v) ≡ seen_to_end (w_of place) s r
  unfolding finding seen_to_end
  end_good e g t = rw (e, ← g, t)

  pub end_left : {v : ℕ} {b : Bool} (f : Refusal) → r ≡ Ok (v, c) → b ≡ ends_at s c.at → b ≡ false
      → paper_refusal f ≡ carried 7 (w_of place) c.at 0 → finding (Err f) ≡ seen_to_end (w_of place) s r
  unfolding finding seen_to_end carried of_a_field
  end_left f e g t h = rw (e, ← g, t) (ap faulty h)

  pub end_no : {m : ℕ} (f : Refusal) → r ≡ Err (m, c) → paper_refusal f ≡ carried m (w_of place) c.at 0
      → finding (Err f) ≡ seen_to_end (w_of place) s r
  unfolding finding seen_to_end
  end_no f e h = rw e (ap faulty h)

-- ---- a finding, by what was found

pub finding_shut : {A : Type 0} (val : A → ℕ) (x : Opened A) {o : Finding} {r : Refusal} → finding o ≡ found_in val x → o ≡ Err r
    → x ≡ bad (paper_refusal r)
unfolding finding found_in
finding_shut val (good a fs) h e = let q = sym (ap finding e) ∙ h in let z : ◌≡◌ {A = ℕ} 0 1 = cc q in absurd (omega arith)
finding_shut val (bad k) h e = let q = sym (ap finding e) ∙ h in cc q

pub record GoodFinding {A : Type 0} (val : A → ℕ) (x : Opened A) (v : ℕ) : Type 0 where
  pub tree : A
  pub fields : List (ℕ × ℕ)
  pub is : x ≡ good tree fields
  pub value : val tree ≡ v

pub finding_good : {A : Type 0} (val : A → ℕ) (x : Opened A) {o : Finding} {v : ℕ} → finding o ≡ found_in val x → o ≡ Ok v
    → GoodFinding val x v
unfolding finding found_in
finding_good val (good a fs) h e = let q = sym (ap finding e) ∙ h in record { tree = a; fields = fs; is = refl; value = cc q }
finding_good val (bad k) h e = let q = sym (ap finding e) ∙ h in let z : ◌≡◌ {A = ℕ} 0 1 = cc q in absurd (omega arith)

-- ---- the book

pub book_seen : (s : List ℕ) {x : Scan} {cs cs₁ : List ℕ} {r : Finding} → Scans s a_book first_bit rules_of_book x → CountedBook s cs cs₁
    → 256 ≤ length cs → finding r ≡ seen_to_end (w_of Book) s x → BookSeen s r cs₁
unfolding w_of
book_seen s {x} {cs} {cs₁} h k room e = record {
  told = e ∙ bits_seen s a_book rules_of_book h book_place ∙ unfold open_book in refl;
  noted = λ b fs q. notes b fs q;
}
  where
    notes : (b : RuleBook) (fs : List (ℕ × ℕ)) → open_book s ≡ good b fs → take (length b.rules) cs₁ ≡ call_counts b.rules
    notes b fs q =
        let y : InBytes a_book s b fs = unfold open_book in in_bytes book_place a_book s q in
        let f = book_fits s q in
        let n : length (call_counts b.rules) ≡ length b.rules = unfold call_counts in length-map b.rules _ in
        let m = f.count in
        let g : glance s a_book first_bit ≡ Glance.ok b (record { at = y.end.bit }) =
        sym (from_first s a_book) ∙ ap uncounted y.found ∙ unfold uncounted in refl in
        ap (take (length b.rules)) (k.all b _ g)
        ∙ ap (λ j. take j (noted cs 0 (call_counts b.rules))) (sym n)
        ∙ noted_first cs (call_counts b.rules) (omega arith)

-- the part of the notes that a good book fills
module _ {s counts : List ℕ} {r : Finding} {m : ℕ} (h : BookSeen s r counts) (e : r ≡ Ok m) where
  pub few_rules : m < 256
  few_rules =
      let g = finding_good _ _ h.told e in
      subst (λ j. j < 256) g.value (book_fits s g.is).count

  pub is_beside : {part : List ℕ} → part ≡ take m counts → Beside s part
  is_beside p =
      let g = finding_good _ _ h.told e in
      record {
        tree = g.tree;
        fields = g.fields;
        opened = g.is;
        counted = p ∙ ap (λ j. take j counts) (sym g.value) ∙ h.noted g.tree g.fields g.is;
      }

-- ---- the certificate beside it

module _ (book counts : List ℕ) (h : Beside book counts) {s : List ℕ} {x : Scan}
    (k : Scans s (a_certificate (λ f. arity_at book [] false f) counts) first_bit nothing x) where
  -- the code walks the certificate's own grammar
  beside_scan : Scans s (certificate_of h.tree) first_bit nothing x
  unfolding certificate_of
  beside_scan =
      subst (λ ar. Scans s (a_certificate ar (call_counts h.tree.rules)) first_bit nothing x) (arities_known book [] counts h)
      (subst (λ ms. Scans s (a_certificate (λ f. arity_at book [] false f) ms) first_bit nothing x) h.counted k)

  pub beside_inside : (scanned_bits x ≤ 2 ^ 32) × (scanned_bits x ≤ 8 * length s)
  beside_inside = inside_bits s (certificate_of h.tree) nothing beside_scan

  pub certificate_seen : {o : Finding} → finding o ≡ seen_to_end (w_of Certificate) s x → CertificateSeen book s o
  unfolding open_certificate w_of
  certificate_seen {o} e = record {
    told = λ b fs q.
        let same : good h.tree h.fields ≡ good b fs = sym h.opened ∙ q in
        subst (λ t. finding o ≡ found_in nothing (open_certificate t s)) (cc same)
        (e ∙ bits_seen s (certificate_of h.tree) nothing beside_scan certificate_place);
  }
