-- A file is refused exactly with its first fault, in bytes and as a list of fields.
use Prim.Native.Nat.{ℕ, ◌+◌, ◌≤◌, ◌<◌}
use mathlib.Core.Logic.{◌↔◌, ◌≢◌}
use mathlib.Core.Path.{◌≡◌, refl, sym, ◌∙◌, ap, subst}
use mathlib.Core.List.{List, []}
use mathlib.Core.Bool.{Bool, true, false, cond}
use native.Mathlib.Omega.{arith}
use native.Mathlib.Decide.{ℕ_discrete}
use borrow.Author.Tests.{ne_eqb, eqb-false}
use lib.ListN.{length, take}
use lib.Dec.{eqb}
use Rattle.answers.specs.Carried.{refusal_at}
use Rattle.bits.specs.Bits.{Bytes}
use Rattle.bits.specs.Packed.{width, packed}
use Rattle.patterns.specs.Reason.{Reason, book_place, certificate_place, call_place}
use Rattle.fields.specs.declared.Walker.{Walker}
use Rattle.fields.specs.Source.{source, start}
use Rattle.fields.specs.Grammar.{Grammar, done, Outcome, outcome, trace}
use Rattle.fields.specs.Faults.{Reached, Fault, Listed, ListFault}
use Rattle.fields.proofs.Ways.{way_to}
use Rattle.fields.proofs.Binds.{after, end_ok}
use Rattle.fields.proofs.Reading.{Reading, trace_sized, trace_reads, trace_room, trace_listed, trace_within}
use Rattle.fields.proofs.Leads.{way_leads, led_trace}
use Rattle.fields.proofs.Faults.{Counted, stopped_fault, fault_stops, reached_gives, reached_outcome}
use Rattle.fields.proofs.ListFaults.{Countable, stopped_list_fault, list_fault_stops, listed_outcome}
use Rattle.grammar.specs.Books.{RuleBook, arity_in, a_book}
use Rattle.grammar.specs.Calls.{a_call}
use Rattle.grammar.proofs.FewFields.{book_countable, certificate_countable, call_counted}
use Rattle.layout.specs.Files.{good, bad, ends_at, closed_bytes, open_bytes, closed_list, open_list, certificate_of, open_call}
use Rattle.layout.specs.FirstFaults.{Faulty}
use Rattle.layout.proofs.RoundTrips.{bytes_packed, packed_opens}

-- ---- bytes

module _ {A : Type 0} (w : ℕ) (p : Grammar A) (s : List ℕ) (counted : Counted s p) where
  unclosed : (a : A) (d : Walker) → outcome (source s []) p (start false) ≡ Outcome.ok a d → ends_at s d.bit ≡ false
      → open_bytes w p s ≡ bad (refusal_at 7 w d.bit)
  unfolding open_bytes
  unclosed a d e f = rw (e, f)

  -- behind a good run, an end that is not as it should be
  unended : (a : A) (d : Walker) → outcome (source s []) p (start false) ≡ Outcome.ok a d → ends_at s d.bit ≡ false → Fault s p 7 d.bit
  unended a d e f =
      let fs = trace (source s []) p (start false) in
      let q : d ≡ after (start false) fs = end_ok (source s []) p (start false) e in
      let b : d.bit ≡ 0 + width fs = ap (λ (c : Walker). c.bit) q in
      let l = trace_room s [] p (start false) refl (omega arith) in
      Fault.left_over
      (record {
        fields = fs;
        led = way_leads (way_to e) (trace_sized s [] p (start false));
        stand = trace_reads s [] p (start false) refl;
        ends = omega arith;
        inside = omega arith;
      })
      (λ h. never fs refl q h)
      refl
    where
      never : (fs : List (ℕ × ℕ)) → trace (source s []) p (start false) ≡ fs → d ≡ after (start false) fs → s ≡ packed fs → ⊥
      never fs t q h =
          let g : open_bytes w p s ≡ good a fs =
          subst (λ x. open_bytes w p x ≡ good a fs) (sym h)
          (packed_opens w w p (subst (λ x. Reading (source x []) p (start false) a fs) h (record { ends = e ∙ ap (Outcome.ok a) q; passes = t }))) in
          let c = unclosed a d e f in
          let z : ◌≡◌ {A = ℕ} 0 1 = cc in
          omega arith

  pub bytes_refused : (r : Reason) → open_bytes w p s ≡ bad r → Faulty (Fault s p) w r
  unfolding open_bytes
  bytes_refused r = go (outcome (source s []) p (start false)) refl
    where
      under : (a : A) (d : Walker) → outcome (source s []) p (start false) ≡ Outcome.ok a d → (b : Bool) → ends_at s d.bit ≡ b
          → cond b (good a (trace (source s []) p (start false))) (bad (refusal_at 7 w d.bit)) ≡ bad r → Faulty (Fault s p) w r
      under a d e true f q = let z : ◌≡◌ {A = ℕ} 0 1 = cc q in absurd (omega arith)
      under a d e false f q = record { number = 7; place = d.bit; why = unended a d e f; told = cc q }

      go : (o : Outcome A) → outcome (source s []) p (start false) ≡ o → closed_bytes w s o (trace (source s []) p (start false)) ≡ bad r
          → Faulty (Fault s p) w r
      go (Outcome.ok a d) e q = under a d e (ends_at s d.bit) refl q
      go (Outcome.no m d) e q = record { number = m; place = d.bit; why = stopped_fault s p counted e; told = cc q }

  pub fault_refused : Bytes s → (m place : ℕ) → Fault s p m place → open_bytes w p s ≡ bad (refusal_at m w place)
  unfolding open_bytes
  fault_refused bytes m place f = go (ℕ_discrete m 7) f
    where
      padded : {a : A} (at : Reached s p place (done a)) → s ≢ packed at.fields → m ≡ 7 → open_bytes w p s ≡ bad (refusal_at m w place)
      padded {a} at h e = under (ends_at s (after (start false) at.fields).bit) refl
        where
          opens : outcome (source s []) p (start false) ≡ Outcome.ok a (after (start false) at.fields)
          opens = reached_outcome s p counted place at ∙ unfold outcome in refl

          under : (b : Bool) → ends_at s (after (start false) at.fields).bit ≡ b → open_bytes w p s ≡ bad (refusal_at m w place)
          under true f =
              let t = led_trace (source s []) (start false) at.led (reached_gives s p counted place at) (unfold trace in refl) in
              let g : open_bytes w p s ≡ good a at.fields = rw (opens, f, t) in
              absurd (h (bytes_packed w w p s bytes g))
          under false f =
              let i = at.ends in
              let q : (after (start false) at.fields).bit ≡ place = omega arith in
              rw (opens, f, q, e)

      go : Dec (m ≡ 7) → Fault s p m place → open_bytes w p s ≡ bad (refusal_at m w place)
      go (yes e) (Fault.left_over at h q) = padded at h q
      go (yes e) (Fault.past_end at h l q) = absurd (omega arith)
      go (yes e) (Fault.outside at h l i q) = absurd (omega arith)
      go (yes e) (Fault.unnormal at h l i u q) = absurd (omega arith)
      go (yes e) (Fault.too_many at h q) = absurd (omega arith)
      go (no n) g = let x = fault_stops s p counted m place g n in rw (x.2, x.1)

-- ---- a list of fields

module _ {A : Type 0} (w : ℕ) (p : Grammar A) (short : Countable p) (l : List ℕ) where
  -- behind a good run, fields that are left over
  unlisted : (a : A) (d : Walker) → outcome (source [] l) p (start true) ≡ Outcome.ok a d → d.n ≢ length l → ListFault l p 7 d.n
  unlisted a d e f =
      let fs = trace (source [] l) p (start true) in
      let n : d.n ≡ length fs = ap (λ (c : Walker). c.n) (end_ok (source [] l) p (start true) e) ∙ omega arith in
      let j = trace_within [] l p (start true) refl (omega arith) in
      ListFault.left_over
      (record {
        fields = fs;
        led = way_leads (way_to e) (trace_sized [] l p (start true));
        stand = ap (λ (k : ℕ). take k l) n ∙ trace_listed [] l p (start true) refl;
        ends = n;
      })
      (omega arith)
      refl

  pub list_refused : (r : Reason) → open_list w p l ≡ bad r → Faulty (ListFault l p) w r
  unfolding open_list
  list_refused r = go (outcome (source [] l) p (start true)) refl
    where
      under : (a : A) (d : Walker) → outcome (source [] l) p (start true) ≡ Outcome.ok a d → (b : Bool) → eqb d.n (length l) ≡ b
          → cond b (good a (trace (source [] l) p (start true))) (bad (refusal_at 7 w d.n)) ≡ bad r → Faulty (ListFault l p) w r
      under a d e true f q = let z : ◌≡◌ {A = ℕ} 0 1 = cc q in absurd (omega arith)
      under a d e false f q =
          record { number = 7; place = d.n; why = unlisted a d e (eqb-false d.n (length l) f); told = cc q }

      go : (o : Outcome A) → outcome (source [] l) p (start true) ≡ o → closed_list w l o (trace (source [] l) p (start true)) ≡ bad r
          → Faulty (ListFault l p) w r
      go (Outcome.ok a d) e q = under a d e (eqb d.n (length l)) refl q
      go (Outcome.no m d) e q = record { number = m; place = d.n; why = stopped_list_fault l p short e; told = cc q }

  pub list_fault_refused : (m place : ℕ) → ListFault l p m place → open_list w p l ≡ bad (refusal_at m w place)
  unfolding open_list
  list_fault_refused m place f = go (ℕ_discrete m 7) f
    where
      over : {a : A} (at : Listed l p place (done a)) → place < length l → m ≡ 7 → open_list w p l ≡ bad (refusal_at m w place)
      over {a} at h e =
          let i = at.ends in
          let q : (after (start true) at.fields).n ≡ place = omega arith in
          let opens : outcome (source [] l) p (start true) ≡ Outcome.ok a (after (start true) at.fields) =
          listed_outcome l p short place at ∙ unfold outcome in refl in
          rw (opens, q, ne_eqb place (length l) (λ z. omega arith), e)

      go : Dec (m ≡ 7) → ListFault l p m place → open_list w p l ≡ bad (refusal_at m w place)
      go (yes e) (ListFault.left_over at h q) = over at h q
      go (yes e) (ListFault.past_end at h x q) = absurd (omega arith)
      go (yes e) (ListFault.too_wide at h x y q) = absurd (omega arith)
      go (yes e) (ListFault.outside at h x y i q) = absurd (omega arith)
      go (yes e) (ListFault.unnormal at h x y i u q) = absurd (omega arith)
      go (yes e) (ListFault.too_many at h q) = absurd (omega arith)
      go (no n) g = let x = list_fault_stops l p short m place g n in rw (x.2, x.1)

-- ---- both ways

-- a file in bytes, in which the places that are reached can be counted, is refused exactly with its first fault
counted_first_fault : {A : Type 0} (w : ℕ) (p : Grammar A) (s : List ℕ) → Bytes s → Counted s p
    → (r : Reason) → (open_bytes w p s ≡ bad r) ↔ Faulty (Fault s p) w r
counted_first_fault w p s bytes counted r = (
  bytes_refused w p s counted r,
  λ f. fault_refused w p s counted bytes f.number f.place f.why ∙ ap bad (sym f.told),
)

-- in a file that is not too long they can be counted,
pub bytes_first_fault : {A : Type 0} (w : ℕ) (p : Grammar A) (s : List ℕ) → Bytes s → length s ≤ 32768
    → (r : Reason) → (open_bytes w p s ≡ bad r) ↔ Faulty (Fault s p) w r
bytes_first_fault w p s bytes n = counted_first_fault w p s bytes (λ fs q l h. omega arith)

-- and in a call of any length
pub call_first_fault : (b : RuleBook) (s : List ℕ) → Bytes s
    → (r : Reason) → (open_call b s ≡ bad r) ↔ Faulty (Fault s (a_call (arity_in b.arities))) call_place r
unfolding open_call
call_first_fault b s bytes =
    counted_first_fault call_place (a_call (arity_in b.arities)) s bytes (call_counted (arity_in b.arities) s)

-- so is a list of fields, however long, by a grammar whose bits can be counted
pub list_first_fault : {A : Type 0} (w : ℕ) (p : Grammar A) → Countable p → (l : List ℕ) (r : Reason)
    → (open_list w p l ≡ bad r) ↔ Faulty (ListFault l p) w r
list_first_fault w p short l r = (
  list_refused w p short l r,
  λ f. list_fault_refused w p short l f.number f.place f.why ∙ ap bad (sym f.told),
)

-- the grammars of both files are such
pub book_list_first_fault : (l : List ℕ) (r : Reason)
    → (open_list book_place a_book l ≡ bad r) ↔ Faulty (ListFault l a_book) book_place r
book_list_first_fault = list_first_fault book_place a_book book_countable

pub certificate_list_first_fault : (b : RuleBook) (l : List ℕ) (r : Reason)
    → (open_list certificate_place (certificate_of b) l ≡ bad r) ↔ Faulty (ListFault l (certificate_of b)) certificate_place r
unfolding certificate_of
certificate_list_first_fault b = list_first_fault certificate_place (certificate_of b) (certificate_countable _ _)
