-- A call is answered exactly as 02, Ticket 1, asks: the smallest covering index, or the first refusal.
use Prim.Native.Nat.{ℕ}
use mathlib.Core.Logic.{◌↔◌}
use mathlib.Core.Path.{◌≡◌, refl, sym, ◌∙◌, ap, subst}
use mathlib.Core.List.{List, map}
use mathlib.Core.Option.{Option, none, some}
use native.Mathlib.Omega.{arith}
use lib.ListN.{get_elem?}
use Rattle.answers.specs.Numbers.{covered_at, denied}
use Rattle.bits.specs.Bits.{Bytes}
use Rattle.patterns.specs.Reason.{Reason, call_place}
use Rattle.patterns.specs.First.{Exp, Pattern, Pace}
use Rattle.patterns.specs.Certificate.{Claim, claim_of}
use Rattle.patterns.specs.Judge.{Ruling, accept, refuse}
use Rattle.patterns.proofs.First.{accepted_never_stuck}
use Rattle.covering.specs.Covers.{Answers}
use Rattle.covering.specs.Search.{covering}
use Rattle.covering.proofs.Covering.{covering_exactly}
use Rattle.fields.specs.Faults.{Fault}
use Rattle.grammar.specs.Books.{arity_in}
use Rattle.grammar.specs.Calls.{a_call}
use Rattle.grammar.proofs.FixedBooks.{book_fixed}
use Rattle.layout.specs.Files.{Opened, good, bad, open_call}
use Rattle.layout.specs.FirstFaults.{Faulty}
use Rattle.layout.proofs.FirstFaults.{call_first_fault}
use Rattle.verdicts.specs.Judging.{judging}
use Rattle.verdicts.specs.Demands.{Acceptable, FirstRefusal}
use Rattle.verdicts.proofs.Demands.{book_opens, certificate_opens, trees_judged, acceptable_accepted, first_refused, accepts_exactly_when, refuses_exactly_when}
use Rattle.covers.specs.Asking.{told_index, asking}
use Rattle.covers.specs.Covered.{Asked, CoveredAt, FirstDenial, not_accepted, bad_call, none_covers}
use Rattle.covers.proofs.Layers.{verdict_refused, verdict_accepted, call_refused, call_asked}
use Rattle.covers.proofs.Fitting.{is_call, call_file, call_opens, left_formed}

module _ {book certificate call : List ℕ} {size : ℕ} where
  -- the answer where the certificate is accepted and the call keeps its layout,
  abbrev pub search_of : Asked book certificate call size → Option ℕ
  search_of g = covering (arity_in g.accepted.rule_book.arities) g.claim.left g.pace.α g.term

  pub asked_told : (g : Asked book certificate call size) → asking book certificate call size ≡ told_index (search_of g)
  asked_told g =
      let a = g.accepted in
      let f = a.book_file in
      verdict_accepted book certificate call size g.line g.pace (acceptable_accepted book certificate size g.line g.pace a)
      ∙ call_asked book certificate call g.line g.pace a.rule_book _ (book_opens book a.rule_book f) a.tree _
      (certificate_opens a.rule_book f.limits certificate a.tree a.certificate_file) g.term _
      (call_opens a.rule_book f.limits call g.term g.call_file) g.claim g.named

  -- and that the search is right there
  pub search_exactly : (g : Asked book certificate call size) (o : Option ℕ)
      → (search_of g ≡ o) ↔ Answers g.claim.left g.pace.α g.term o
  search_exactly g o =
      let a = g.accepted in
      covering_exactly (arity_in a.rule_book.arities) g.claim.left g.pace.α g.term
      (left_formed a.rule_book a.tree a.certificate_file.limits g.line g.claim g.named)
      g.call_file.limits.formed (is_call g.call_file.limits) o

-- the line that an accepted certificate names is there
pub named_claim : {book certificate : List ℕ} {size line : ℕ} {pace : Pace} (a : Acceptable book certificate size line pace)
    → (p : Claim Exp) × (get_elem? (map claim_of a.tree.lines) line ≡ some p)
named_claim {book} {certificate} {size} {line} {pace} a =
    let n =
    accepted_never_stuck a.rule_book.rules (book_fixed a.rule_book a.book_file.limits) a.tree line pace.k pace.α
    (sym (trees_judged book certificate size a.table a.rule_book a.book_file a.tree a.certificate_file)
    ∙ acceptable_accepted book certificate size line pace a) in
    (n.0, n.1)

-- the fault of a call beside its book
abbrev CallFault : {book certificate : List ℕ} {size line : ℕ} {pace : Pace} → Acceptable book certificate size line pace → List ℕ
    → Reason → Type 0
CallFault a call r = Faulty (Fault call (a_call (arity_in a.rule_book.arities))) call_place r

-- how an answer comes about
data Way (book certificate call : List ℕ) (size : ℕ) : Type 0 where
  refused : (r : Reason) → FirstRefusal book certificate size r → Way book certificate call size
  shut : (line : ℕ) (pace : Pace) (a : Acceptable book certificate size line pace) (r : Reason) → CallFault a call r
      → Way book certificate call size
  asked : Asked book certificate call size → Way book certificate call size

module _ (book certificate call : List ℕ) (is-book : Bytes book) (is-certificate : Bytes certificate) (is_bytes : Bytes call) (size : ℕ) where
  shut_told : {line : ℕ} {pace : Pace} (a : Acceptable book certificate size line pace) (r : Reason) → CallFault a call r
      → asking book certificate call size ≡ denied r
  shut_told {line} {pace} a r f =
      verdict_accepted book certificate call size line pace (acceptable_accepted book certificate size line pace a)
      ∙ call_refused book certificate call line pace a.rule_book _ (book_opens book a.rule_book a.book_file) a.tree _
      (certificate_opens a.rule_book a.book_file.limits certificate a.tree a.certificate_file) r
      ((call_first_fault a.rule_book call is_bytes r).1 f)

  way : Way book certificate call size
  way = judged (judging book certificate size) refl
    where
      opened : {line : ℕ} {pace : Pace} (a : Acceptable book certificate size line pace) (o : Opened Pattern)
          → open_call a.rule_book call ≡ o → Way book certificate call size
      opened {line} {pace} a (good c fs) e =
          let n = named_claim a in
          asked (record {
            line = line;
            pace = pace;
            accepted = a;
            claim = n.0;
            named = n.1;
            term = c;
            call_file = call_file a.rule_book a.book_file.limits call is_bytes c fs e;
          })
      opened {line} {pace} a (bad r) e = shut line pace a r ((call_first_fault a.rule_book call is_bytes r).0 e)

      judged : (v : Ruling Pace) → judging book certificate size ≡ v → Way book certificate call size
      judged (refuse r) e = refused r ((refuses_exactly_when book certificate is-book is-certificate size r).0 e)
      judged (accept line pace) e =
          let a = (accepts_exactly_when book certificate is-book is-certificate size line pace).0 e in
          opened a (open_call a.rule_book call) refl

  refused_told : (r : Reason) → FirstRefusal book certificate size r → asking book certificate call size ≡ denied r
  refused_told r f = verdict_refused book certificate call size r (first_refused book certificate is-book is-certificate size r f)

  -- An index is answered exactly if it is the smallest that covers the call.
  pub covers_exactly_when : (i : ℕ) → (asking book certificate call size ≡ covered_at i) ↔ CoveredAt book certificate call size i
  unfolding told_index Answers
  covers_exactly_when i = (λ e. forth e way, back)
    where
      found : (g : Asked book certificate call size) (o : Option ℕ) → search_of g ≡ o → told_index o ≡ covered_at i
          → CoveredAt book certificate call size i
      found g none s e = let z : ◌≡◌ {A = ℕ} 0 1 = cc in absurd (omega arith)
      found g (some j) s e =
          let q : j ≡ i = cc in
          record { asked = g; smallest = (search_exactly g (some i)).0 (s ∙ ap {B = Option ℕ} some q) }

      forth : asking book certificate call size ≡ covered_at i → Way book certificate call size → CoveredAt book certificate call size i
      forth e (refused r f) = let q = refused_told r f in let z : ◌≡◌ {A = ℕ} 0 1 = cc in absurd (omega arith)
      forth e (shut line pace a r f) = let q = shut_told a r f in let z : ◌≡◌ {A = ℕ} 0 1 = cc in absurd (omega arith)
      forth e (asked g) = found g (search_of g) refl (sym (asked_told g) ∙ e)

      back : CoveredAt book certificate call size i → asking book certificate call size ≡ covered_at i
      back v = asked_told v.asked ∙ ap told_index ((search_exactly v.asked (some i)).1 v.smallest)

  -- A refusal is answered exactly if it is the first in 02's order.
  pub denies_exactly_when : (r : Reason) → (asking book certificate call size ≡ denied r) ↔ FirstDenial book certificate call size r
  unfolding told_index Answers
  denies_exactly_when r = (λ e. forth e way, back)
    where
      unfound : (g : Asked book certificate call size) (o : Option ℕ) → search_of g ≡ o → told_index o ≡ denied r
          → FirstDenial book certificate call size r
      unfound g none s e = none_covers (record { asked = g; never = (search_exactly g none).0 s }) (cc)
      unfound g (some j) s e = let z : ◌≡◌ {A = ℕ} 0 1 = cc in absurd (omega arith)

      forth : asking book certificate call size ≡ denied r → Way book certificate call size → FirstDenial book certificate call size r
      forth e (refused s f) =
          let q = refused_told s f in
          let z : s ≡ r = cc in
          not_accepted (subst (FirstRefusal book certificate size) z f)
      forth e (shut line pace a s f) =
          let q = shut_told a s f in
          let z : r ≡ s = cc in
          bad_call line pace a f.number f.place f.why (z ∙ f.told)
      forth e (asked g) = unfound g (search_of g) refl (sym (asked_told g) ∙ e)

      back : FirstDenial book certificate call size r → asking book certificate call size ≡ denied r
      back (not_accepted f) = refused_told r f
      back (bad_call line pace a number place f e) = shut_told a r (record { number = number; place = place; why = f; told = e })
      back (none_covers u e) =
          asked_told u.asked ∙ ap told_index ((search_exactly u.asked none).1 u.never) ∙ ap denied (sym e)
