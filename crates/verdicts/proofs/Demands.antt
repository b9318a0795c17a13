-- Demands 2 and 3 for the judge over bytes.
use Prim.Native.Nat.{ℕ, ◌≤◌}
use mathlib.Core.Logic.{◌↔◌}
use mathlib.Core.Path.{◌≡◌, refl, sym, ◌∙◌, ap, subst}
use mathlib.Core.List.{List}
use native.Mathlib.Omega.{arith}
use native.Mathlib.Decide.{dec_le}
use lib.ListN.{length}
use Rattle.table.specs.Places.{WORDS}
use Rattle.bits.specs.Bits.{Bytes}
use Rattle.bits.specs.Packed.{packed}
use Rattle.patterns.specs.Certificate.{Certificate}
use Rattle.patterns.specs.Reason.{Reason, book_place, certificate_place}
use Rattle.patterns.specs.Judge.{accept, refuse, judge}
use Rattle.patterns.specs.First.{Exp, Pair, Pace, one}
use Rattle.patterns.proofs.Judged.{accepts_exactly, refuses_exactly}
use Rattle.patterns.proofs.First.{accepted_never_stuck}
use Rattle.grammar.specs.Books.{RuleBook, a_book}
use Rattle.grammar.specs.Limits.{BookFits}
use Rattle.grammar.specs.Listing.{book_fields, certificate_fields}
use Rattle.grammar.proofs.FixedBooks.{book_fixed}
use Rattle.fields.specs.Faults.{Fault}
use Rattle.layout.specs.Files.{Opened, good, bad, certificate_of, open_book, open_certificate}
use Rattle.layout.specs.FirstFaults.{Faulty}
use Rattle.layout.proofs.RoundTrips.{bytes_packed}
use Rattle.layout.proofs.FirstFaults.{bytes_first_fault}
use Rattle.layout.proofs.OneFile.{book_file_fits, book_has_a_file, certificate_file_fits, certificate_has_a_file}
use Rattle.verdicts.specs.Judging.{judging}
use Rattle.verdicts.specs.Demands.{BookFile, CertificateFile, Acceptable, FirstRefusal, short_table, long_book, long_certificate, bad_book, bad_certificate, broken_check, NeverStuck}
use Rattle.verdicts.proofs.Layers.{table_short, table_enough, book_long, certificate_long, both_short, book_refused, certificate_refused, both_opened}

-- ---- a file that opens is one that keeps layout and limits

pub book_file : (book : List ℕ) → Bytes book → length book ≤ 16384 → (b : RuleBook) (fs : List (ℕ × ℕ))
    → open_book book ≡ good b fs → BookFile book b
unfolding open_book
book_file book bytes short b fs e =
    let f = book_file_fits book b fs e in
    record {
      limits = f.0;
      layout = bytes_packed book_place book_place a_book book bytes e ∙ ap packed f.1;
      short = short;
    }

pub book_opens : (book : List ℕ) (b : RuleBook) → BookFile book b → open_book book ≡ good b (book_fields b)
book_opens book b f =
    rw f.layout (book_has_a_file b f.limits (subst (λ s. length s ≤ 16384) f.layout f.short))

module _ (b : RuleBook) (fits : BookFits b) (certificate : List ℕ) where
  pub certificate_file : Bytes certificate → length certificate ≤ 32768
      → (K : Certificate Exp Pair Pace) (fs : List (ℕ × ℕ)) → open_certificate b certificate ≡ good K fs
      → CertificateFile b certificate K
  unfolding open_certificate
  certificate_file bytes short K fs e =
      let f = certificate_file_fits b fits certificate K fs e in
      record {
        limits = f.0;
        layout =
            bytes_packed certificate_place certificate_place (certificate_of b) certificate bytes e ∙ ap packed f.1;
        short = short;
      }

  pub certificate_opens : (K : Certificate Exp Pair Pace) → CertificateFile b certificate K
      → open_certificate b certificate ≡ good K (certificate_fields K)
  certificate_opens K f =
      rw f.layout (certificate_has_a_file b fits K f.limits (subst (λ s. length s ≤ 32768) f.layout f.short))

-- ---- what is judged, refused and accepted

module _ (book certificate : List ℕ) (size : ℕ) where
  -- with room in the table, and two files that keep layout and limits, the trees are judged
  pub trees_judged : WORDS ≤ size → (b : RuleBook) → BookFile book b → (K : Certificate Exp Pair Pace)
      → CertificateFile b certificate K → judging book certificate size ≡ judge one b.rules K
  trees_judged t b f K g =
      table_enough book certificate size t
      ∙ both_short book certificate f.short g.short
      ∙ both_opened book certificate b _ (book_opens book b f) K _ (certificate_opens b f.limits certificate K g)

  pub acceptable_accepted : (line : ℕ) (pace : Pace) → Acceptable book certificate size line pace
      → judging book certificate size ≡ accept line pace
  acceptable_accepted line pace a =
      trees_judged a.table a.rule_book a.book_file a.tree a.certificate_file
      ∙ (accepts_exactly one a.rule_book.rules a.tree line pace).1 (a.good, a.small, a.own_line, a.own_pace)

-- either file is refused exactly with its first fault
pub book_first_fault : (book : List ℕ) → Bytes book → length book ≤ 16384 → (r : Reason)
    → (open_book book ≡ bad r) ↔ Faulty (Fault book a_book) book_place r
unfolding open_book
book_first_fault book bytes n r = bytes_first_fault book_place a_book book bytes (omega arith) r

pub certificate_first_fault : (b : RuleBook) (certificate : List ℕ) → Bytes certificate → length certificate ≤ 32768 → (r : Reason)
    → (open_certificate b certificate ≡ bad r) ↔ Faulty (Fault certificate (certificate_of b)) certificate_place r
unfolding open_certificate
certificate_first_fault b certificate bytes n r = bytes_first_fault certificate_place (certificate_of b) certificate bytes n r

module _ (book certificate : List ℕ) (is_bytes : Bytes book) (are_bytes : Bytes certificate) (size : ℕ) where
  pub first_refused : (r : Reason) → FirstRefusal book certificate size r → judging book certificate size ≡ refuse r
  first_refused r (short_table h e) = table_short book certificate size h ∙ ap refuse (sym e)
  first_refused r (long_book t h e) = table_enough book certificate size t ∙ book_long book certificate h ∙ ap refuse (sym e)
  first_refused r (long_certificate t n h e) =
      table_enough book certificate size t ∙ certificate_long book certificate n h ∙ ap refuse (sym e)
  first_refused r (bad_book t n m number place f e) =
      table_enough book certificate size t
      ∙ both_short book certificate n m
      ∙ book_refused book certificate r ((book_first_fault book is_bytes n r).1 (record { number = number; place = place; why = f; told = e }))
  first_refused r (bad_certificate t b f m number place g e) =
      table_enough book certificate size t
      ∙ both_short book certificate f.short m
      ∙ certificate_refused book certificate b _ (book_opens book b f) r
      ((certificate_first_fault b certificate are_bytes m r).1 (record { number = number; place = place; why = g; told = e }))
  first_refused r (broken_check t b f K g e) = trees_judged book certificate size t b f K g ∙ (refuses_exactly one b.rules K r).1 e

-- how a verdict comes about: a refusal before any check, or the judge over the trees of both files
data Way (book certificate : List ℕ) (size : ℕ) : Type 0 where
  refused : (r : Reason) → FirstRefusal book certificate size r → Way book certificate size
  judged : WORDS ≤ size → (b : RuleBook) → BookFile book b → (K : Certificate Exp Pair Pace) → CertificateFile b certificate K
      → Way book certificate size

module _ (book certificate : List ℕ) (is_bytes : Bytes book) (are_bytes : Bytes certificate) (size : ℕ) where
  way : Way book certificate size
  way = table (dec_le WORDS size) (dec_le (length book) 16384) (dec_le (length certificate) 32768)
    where
      certificate_way : WORDS ≤ size → (b : RuleBook) → BookFile book b → length certificate ≤ 32768
          → (o : Opened (Certificate Exp Pair Pace)) → open_certificate b certificate ≡ o → Way book certificate size
      certificate_way t b f m (good K fs) e =
          judged t b f K (certificate_file b f.limits certificate are_bytes m K fs e)
      certificate_way t b f m (bad r) e =
          let x = (certificate_first_fault b certificate are_bytes m r).0 e in
          refused r (bad_certificate t b f m x.number x.place x.why x.told)

      book_way : WORDS ≤ size → length book ≤ 16384 → length certificate ≤ 32768 → (o : Opened RuleBook) → open_book book ≡ o
          → Way book certificate size
      book_way t n m (good b fs) e =
          certificate_way t b (book_file book is_bytes n b fs e) m (open_certificate b certificate) refl
      book_way t n m (bad r) e =
          let x = (book_first_fault book is_bytes n r).0 e in refused r (bad_book t n m x.number x.place x.why x.told)

      table : Dec (WORDS ≤ size) → Dec (length book ≤ 16384) → Dec (length certificate ≤ 32768) → Way book certificate size
      table (no t) n m = refused _ (short_table (omega arith) refl)
      table (yes t) (no n) m = refused _ (long_book t (omega arith) refl)
      table (yes t) (yes n) (no m) = refused _ (long_certificate t n (omega arith) refl)
      table (yes t) (yes n) (yes m) = book_way t n m (open_book book) refl

  -- ---- demand 2

  -- The judge accepts exactly the certificates that are to be accepted, and then with the closing's own line, k and α.
  pub accepts_exactly_when : (line : ℕ) (pace : Pace)
      → (judging book certificate size ≡ accept line pace) ↔ Acceptable book certificate size line pace
  accepts_exactly_when line pace = (λ e. forth e way, acceptable_accepted book certificate size line pace)
    where
      forth : judging book certificate size ≡ accept line pace → Way book certificate size
          → Acceptable book certificate size line pace
      forth e (refused r f) =
          let q = first_refused book certificate is_bytes are_bytes size r f in let z : ◌≡◌ {A = ℕ} 0 1 = cc in absurd (omega arith)
      forth e (judged t b f K g) =
          let a = (accepts_exactly one b.rules K line pace).0 (sym (trees_judged book certificate size t b f K g) ∙ e) in
          record {
            table = t;
            rule_book = b;
            book_file = f;
            tree = K;
            certificate_file = g;
            good = a.0;
            small = a.1;
            own_line = a.2;
            own_pace = a.3;
          }

  -- It refuses exactly with the first refusal in 01's order.
  pub refuses_exactly_when : (r : Reason) → (judging book certificate size ≡ refuse r) ↔ FirstRefusal book certificate size r
  refuses_exactly_when r = (λ e. forth e way, first_refused book certificate is_bytes are_bytes size r)
    where
      forth : judging book certificate size ≡ refuse r → Way book certificate size → FirstRefusal book certificate size r
      forth e (refused s f) =
          let q = first_refused book certificate is_bytes are_bytes size s f in
          let z : s ≡ r = cc in
          subst (FirstRefusal book certificate size) z f
      forth e (judged t b f K g) =
          broken_check t b f K g
          ((refuses_exactly one b.rules K r).0 (sym (trees_judged book certificate size t b f K g) ∙ e))

  -- ---- demand 3

  -- An accepted certificate's pattern never gets stuck.
  pub accepted_never_gets_stuck : (line k α : ℕ) → judging book certificate size ≡ accept line (record { k = k; α = α })
      → NeverStuck book certificate line α
  accepted_never_gets_stuck line k α e =
      let a = (accepts_exactly_when line (record { k = k; α = α })).0 e in
      let fixed = book_fixed a.rule_book a.book_file.limits in
      let q = trees_judged book certificate size a.table a.rule_book a.book_file a.tree a.certificate_file in
      let n = accepted_never_stuck a.rule_book.rules fixed a.tree line k α (sym q ∙ e) in
      record {
        rule_book = a.rule_book;
        book_file = a.book_file;
        tree = a.tree;
        certificate_file = a.certificate_file;
        claim = n.0;
        named = n.1;
        derives = n.2;
      }
