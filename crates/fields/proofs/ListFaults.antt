-- The first fault of a list of fields is what a run over it stops with; 7 is found behind the run.
use Rattle.std.specs.Prelude.{Ok, Err}
use Prim.Native.Nat.{ℕ, ◌+◌, ◌^◌, ◌≤◌, ◌<◌}
use mathlib.Core.Path.{◌≡◌, refl, sym, ap, ◌∙◌, subst}
use mathlib.Core.Logic.{◌≢◌}
use mathlib.Core.List.{List, []}
use mathlib.Core.Bool.{true}
use mathlib.Core.Option.{some}
use native.Mathlib.Omega.{arith}
use native.Mathlib.Decide.{dec_le}
use lib.ListN.{length, get_or, take}
use Rattle.bits.specs.Packed.{width}
use Rattle.fields.specs.declared.Walker.{Walker}
use Rattle.fields.specs.Source.{source, field_at, start}
use Rattle.fields.specs.Kinds.{FieldKind, bits, Range, InRange, Unnormal, Spent}
use Rattle.fields.specs.Grammar.{Grammar, ask, Outcome, outcome, trace}
use Rattle.fields.specs.Faults.{Led, Listed, ListFault}
use Rattle.fields.proofs.Ranges.{outside_exactly, unnormal_exactly}
use Rattle.fields.proofs.Spelled.{bits_few}
use Rattle.fields.proofs.Sources.{field_listed, listed_got, listed_wide, listed_past}
use Rattle.fields.proofs.Ways.{way_to}
use Rattle.fields.proofs.Binds.{after, end_no}
use Rattle.fields.proofs.Gives.{Gives, narrow_reached, stands_give, take_stands}
use Rattle.fields.proofs.Reading.{trace_sized, trace_listed}
use Rattle.fields.proofs.Leads.{Why, way_stops, led_narrow, led_sized, led_few, led_outcome}
use Rattle.fields.proofs.Stops.{why, stops_spent, stops_bad, stops_refused}

-- a grammar whose fields' bits can be counted
abbrev pub Countable : {A : Type 0} → Grammar A → Type 0
Countable {A} p = (fs : List (ℕ × ℕ)) (q : Grammar A) → Led p fs q → width fs < 2 ^ 32

-- ---- what stands at a place

module _ (l : List ℕ) (k : FieldKind) (d : Walker) (few : d.n < 2 ^ 32) (close : d.bit < 2 ^ 32) (listed : d.listed ≡ true) where
  number_there : d.n < length l → get_or l d.n 0 < 2 ^ bits k → field_at [] l (bits k) d ≡ Ok (get_or l d.n 0)
  number_there h i = field_listed [] l (bits k) d (bits_few k).1 few close listed ∙ listed_got l (bits k) d.n h i

  number_wide : d.n < length l → 2 ^ bits k ≤ get_or l d.n 0 → field_at [] l (bits k) d ≡ Err 4
  number_wide h i = field_listed [] l (bits k) d (bits_few k).1 few close listed ∙ listed_wide l (bits k) d.n h i

  number_past : length l ≤ d.n → field_at [] l (bits k) d ≡ Err 3
  number_past h = field_listed [] l (bits k) d (bits_few k).1 few close listed ∙ listed_past l (bits k) d.n h

module _ {A : Type 0} (l : List ℕ) (p : Grammar A) (short : Countable p) where
  list_fault : (k : FieldKind) (r : Range) (next : ℕ → Grammar A) (d : Walker) (m : ℕ) → d.n < 2 ^ 32 → d.bit < 2 ^ 32 → d.listed ≡ true
      → Listed l p d.n (ask k r next) → Why (source [] l) k r d m → ListFault l p m d.n
  list_fault k r next d m few close listed at w =
      why (source [] l) k r d m w (λ h e. ListFault.too_many at h e)
      (λ h e. unreadable h e (dec_le (length l) d.n) (dec_le (2 ^ bits k) (get_or l d.n 0)))
      (λ h v e i q.
      readable v e (dec_le (length l) d.n) (dec_le (2 ^ bits k) (get_or l d.n 0)) λ x y g.
      ListFault.outside at h x y (subst (λ z. ¬ (InRange r z)) g i) q)
      (λ h v e i u q.
      readable v e (dec_le (length l) d.n) (dec_le (2 ^ bits k) (get_or l d.n 0)) λ x y g.
      ListFault.unnormal at h x y (subst (InRange r) g i) (subst (Unnormal r) g u) q)
    where
      unreadable : ¬ (Spent r) → field_at [] l (bits k) d ≡ Err m → Dec (length l ≤ d.n) → Dec (2 ^ bits k ≤ get_or l d.n 0)
          → ListFault l p m d.n
      unreadable h e (yes x) y = let q = number_past l k d few close listed x in ListFault.past_end at h x (cc)
      unreadable h e (no x) (yes y) =
          let q = number_wide l k d few close listed (omega arith) y in ListFault.too_wide at h (omega arith) y (cc)
      unreadable h e (no x) (no y) =
          let q = number_there l k d few close listed (omega arith) (omega arith) in
          let z : ◌≡◌ {A = ℕ} 0 1 = cc in absurd (omega arith)

      readable : (v : ℕ) → field_at [] l (bits k) d ≡ Ok v → Dec (length l ≤ d.n) → Dec (2 ^ bits k ≤ get_or l d.n 0)
          → (d.n < length l → get_or l d.n 0 < 2 ^ bits k → v ≡ get_or l d.n 0 → ListFault l p m d.n) → ListFault l p m d.n
      readable v e (yes x) y f =
          let q = number_past l k d few close listed x in let z : ◌≡◌ {A = ℕ} 0 1 = cc in absurd (omega arith)
      readable v e (no x) (yes y) f =
          let q = number_wide l k d few close listed (omega arith) y in let z : ◌≡◌ {A = ℕ} 0 1 = cc in absurd (omega arith)
      readable v e (no x) (no y) f =
          let q = number_there l k d few close listed (omega arith) (omega arith) in f (omega arith) (omega arith) (cc)

  -- what a run stops with is the first fault
  pub stopped_list_fault : {m : ℕ} {d : Walker} → outcome (source [] l) p (start true) ≡ Outcome.no m d → ListFault l p m d.n
  stopped_list_fault {m} {d} e =
      let fs = trace (source [] l) p (start true) in
      let x = way_stops (way_to e) (trace_sized [] l p (start true)) in
      let q : d ≡ after (start true) fs = end_no (source [] l) p (start true) e in
      let b : d.bit ≡ 0 + width fs = ap (λ (c : Walker). c.bit) q in
      let n : d.n ≡ length fs = ap (λ (c : Walker). c.n) q ∙ omega arith in
      let i : d.listed ≡ true = ap (λ (c : Walker). c.listed) q in
      let w = short fs (ask x.kind x.range x.next) x.led in
      let f = led_few x.led in
      list_fault x.kind x.range x.next d m (omega arith) (omega arith) i
      (record {
        fields = fs;
        led = x.led;
        stand = ap (λ (k : ℕ). take k l) n ∙ trace_listed [] l p (start true) refl;
        ends = n;
      })
      (subst (λ c. Why (source [] l) x.kind x.range c m) (sym q) x.why)

  -- ---- and back: the fields up to the first fault are passed

  module _ {q : Grammar A} (place : ℕ) (at : Listed l p place q) where
    abbrev end : Walker
    end = after (start true) at.fields

    listed_number : end.n ≡ place
    listed_number = let e = at.ends in omega arith

    few : end.n < 2 ^ 32
    few = let w = short at.fields q at.led in let f = led_few at.led in omega arith

    close : end.bit < 2 ^ 32
    close = let w = short at.fields q at.led in omega arith

    pub listed_gives : Gives (source [] l) (start true) at.fields
    listed_gives =
        let w = short at.fields q at.led in
        let f = led_few at.led in
        stands_give [] l (start true) at.fields refl
        (narrow_reached (start true) at.fields (led_narrow at.led) (omega arith) (omega arith)) (led_sized at.led)
        (take_stands l 0 at.fields (ap (λ (k : ℕ). take k l) (sym at.ends) ∙ at.stand))

    pub listed_outcome : outcome (source [] l) p (start true) ≡ outcome (source [] l) q end
    listed_outcome = led_outcome (source [] l) (start true) at.led listed_gives

  -- 3 to 6 are what a run stops with
  pub list_fault_stops : (m place : ℕ) → ListFault l p m place → m ≢ 7
      → (d : Walker) × (d.n ≡ place) × (outcome (source [] l) p (start true) ≡ Outcome.no m d)
  list_fault_stops m place (ListFault.past_end {k = k} {r = r} {next = next} at h x e) n =
      let b = listed_number place at in (
        end place at,
        b,
        listed_outcome place at
            ∙ stops_bad (source [] l) k r next (end place at) h m
            (number_past l k (end place at) (few place at) (close place at) refl (omega arith) ∙ ap Err (sym e)),
      )
  list_fault_stops m place (ListFault.too_wide {k = k} {r = r} {next = next} at h x y e) n =
      let b = listed_number place at in (
        end place at,
        b,
        listed_outcome place at
            ∙ stops_bad (source [] l) k r next (end place at) h m
            (number_wide l k (end place at) (few place at) (close place at) refl (omega arith) (subst (λ z. 2 ^ bits k ≤ get_or l z 0) (sym b) y)
            ∙ ap Err (sym e)),
      )
  list_fault_stops m place (ListFault.outside {k = k} {r = r} {next = next} at h x y i e) n =
      let b = listed_number place at in (
        end place at,
        b,
        listed_outcome place at
            ∙ stops_refused (source [] l) k r next (end place at) h (get_or l (end place at).n 0) m
            (number_there l k (end place at) (few place at) (close place at) refl (omega arith) (subst (λ z. get_or l z 0 < 2 ^ bits k) (sym b) y))
            ((outside_exactly r (get_or l (end place at).n 0)).1 (h, subst (λ z. ¬ (InRange r (get_or l z 0))) (sym b) i) ∙ ap some (sym e)),
      )
  list_fault_stops m place (ListFault.unnormal {k = k} {r = r} {next = next} at h x y i u e) n =
      let b = listed_number place at in (
        end place at,
        b,
        listed_outcome place at
            ∙ stops_refused (source [] l) k r next (end place at) h (get_or l (end place at).n 0) m
            (number_there l k (end place at) (few place at) (close place at) refl (omega arith) (subst (λ z. get_or l z 0 < 2 ^ bits k) (sym b) y))
            ((unnormal_exactly r (get_or l (end place at).n 0)).1
            (h, subst (λ z. InRange r (get_or l z 0)) (sym b) i, subst (λ z. Unnormal r (get_or l z 0)) (sym b) u) ∙ ap some (sym e)),
      )
  list_fault_stops m place (ListFault.too_many {k = k} {r = r} {next = next} at h e) n = (
    end place at,
    listed_number place at,
    listed_outcome place at ∙ stops_spent (source [] l) k r next (end place at) h ∙ ap (λ (x : ℕ). Outcome.no x (end place at)) (sym e),
  )
  list_fault_stops m place (ListFault.left_over at x e) n = absurd (n e)
