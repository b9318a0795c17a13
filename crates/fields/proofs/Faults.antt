-- The first fault of a file in bytes is what a run over it stops with; 7 is found behind the run.
use Rattle.std.specs.Prelude.{Ok, Err}
use Prim.Native.Nat.{ℕ, ◌+◌, ◌*◌, ◌^◌, ◌≤◌, ◌<◌}
use mathlib.Core.Path.{◌≡◌, refl, sym, ap, ◌∙◌, subst}
use mathlib.Core.Logic.{◌≢◌}
use mathlib.Core.List.{List, []}
use mathlib.Core.Bool.{false}
use mathlib.Core.Option.{some}
use native.Mathlib.Omega.{arith}
use native.Mathlib.Decide.{dec_le}
use lib.ListN.{length}
use Rattle.bits.specs.Bits.{bits_at}
use Rattle.bits.specs.Packed.{width}
use Rattle.bits.proofs.Fitting.{read_yes, read_past}
use Rattle.fields.specs.declared.Walker.{Walker}
use Rattle.fields.specs.Source.{source, field_at, start}
use Rattle.fields.specs.Kinds.{FieldKind, bits, Range, InRange, Unnormal, Spent}
use Rattle.fields.specs.Grammar.{Grammar, ask, Outcome, outcome, trace}
use Rattle.fields.specs.Faults.{Led, Reached, Fault}
use Rattle.fields.proofs.Ranges.{outside_exactly, unnormal_exactly}
use Rattle.fields.proofs.Spelled.{bits_few}
use Rattle.fields.proofs.Sources.{field_packed}
use Rattle.fields.proofs.Ways.{way_to}
use Rattle.fields.proofs.Binds.{after, end_no}
use Rattle.fields.proofs.Gives.{Gives, narrow_reached, reads_give}
use Rattle.fields.proofs.Reading.{trace_sized, trace_reads, trace_room}
use Rattle.fields.proofs.Leads.{Why, way_stops, led_narrow, led_few, led_outcome}
use Rattle.fields.proofs.Stops.{why, stops_spent, stops_bad, stops_refused}

-- ---- bytes

-- the places that a grammar reaches in the bytes can be counted, and the field there: the file is short, or the grammar asks for few bits
abbrev pub Counted : {A : Type 0} → List ℕ → Grammar A → Type 0
Counted {A} s p = (fs : List (ℕ × ℕ)) (q : Grammar A) → Led p fs q → width fs ≤ 8 * length s → width fs + 16 < 2 ^ 32

module _ (s : List ℕ) (k : FieldKind) (d : Walker) (few : d.n < 2 ^ 32) (near : d.bit + 16 < 2 ^ 32) (packed : d.listed ≡ false) where
  byte_there : d.bit + bits k ≤ 8 * length s → field_at s [] (bits k) d ≡ Ok (bits_at s d.bit (bits k))
  byte_there h =
      field_packed s [] (bits k) d (bits_few k).1 few (omega arith) packed _
      (sym (read_yes s (bits k) d.bit (bits_few k).1 (omega (arith, (bits_few k).1))))

  byte_past : 8 * length s < d.bit + bits k → field_at s [] (bits k) d ≡ Err 3
  byte_past h =
      field_packed s [] (bits k) d (bits_few k).1 few (omega arith) packed _ (sym (read_past s (bits k) d.bit (omega arith)))

module _ {A : Type 0} (s : List ℕ) (p : Grammar A) (counted : Counted s p) where
  byte_fault : (k : FieldKind) (r : Range) (next : ℕ → Grammar A) (d : Walker) (m : ℕ) → d.n < 2 ^ 32 → d.bit + 16 < 2 ^ 32
      → d.listed ≡ false → Reached s p d.bit (ask k r next) → Why (source s []) k r d m → Fault s p m d.bit
  byte_fault k r next d m few near packed at w =
      why (source s []) k r d m w (λ h e. Fault.too_many at h e)
      (λ h e. unreadable h e (dec_le (d.bit + bits k) (8 * length s)))
      (λ h v e i q. readable v e (dec_le (d.bit + bits k) (8 * length s)) λ l g. Fault.outside at h l (subst (λ x. ¬ (InRange r x)) g i) q)
      (λ h v e i u q.
      readable v e (dec_le (d.bit + bits k) (8 * length s)) λ l g.
      Fault.unnormal at h l (subst (InRange r) g i) (subst (Unnormal r) g u) q)
    where
      unreadable : ¬ (Spent r) → field_at s [] (bits k) d ≡ Err m → Dec (d.bit + bits k ≤ 8 * length s) → Fault s p m d.bit
      unreadable h e (yes l) =
          let q = byte_there s k d few near packed l in let z : ◌≡◌ {A = ℕ} 0 1 = cc in absurd (omega arith)
      unreadable h e (no l) =
          let q = byte_past s k d few near packed (omega arith) in Fault.past_end at h (omega arith) (cc)

      readable : (v : ℕ) → field_at s [] (bits k) d ≡ Ok v → Dec (d.bit + bits k ≤ 8 * length s)
          → (d.bit + bits k ≤ 8 * length s → v ≡ bits_at s d.bit (bits k) → Fault s p m d.bit) → Fault s p m d.bit
      readable v e (yes l) f = let q = byte_there s k d few near packed l in f l (cc)
      readable v e (no l) f =
          let q = byte_past s k d few near packed (omega arith) in
          let z : ◌≡◌ {A = ℕ} 0 1 = cc in absurd (omega arith)

  -- what a run stops with is the first fault
  pub stopped_fault : {m : ℕ} {d : Walker} → outcome (source s []) p (start false) ≡ Outcome.no m d → Fault s p m d.bit
  stopped_fault {m} {d} e =
      let fs = trace (source s []) p (start false) in
      let x = way_stops (way_to e) (trace_sized s [] p (start false)) in
      let q : d ≡ after (start false) fs = end_no (source s []) p (start false) e in
      let b : d.bit ≡ 0 + width fs = ap (λ (c : Walker). c.bit) q in
      let n : d.n ≡ 0 + length fs = ap (λ (c : Walker). c.n) q in
      let i : d.listed ≡ false = ap (λ (c : Walker). c.listed) q in
      let l = trace_room s [] p (start false) refl (omega arith) in
      let f = led_few x.led in
      let w = counted fs (ask x.kind x.range x.next) x.led (omega arith) in
      byte_fault x.kind x.range x.next d m (omega arith) (omega arith) i
      (record { fields = fs; led = x.led; stand = trace_reads s [] p (start false) refl; ends = omega arith; inside = omega arith })
      (subst (λ c. Why (source s []) x.kind x.range c m) (sym q) x.why)

  -- and back: the fields up to the first fault are passed

  module _ {q : Grammar A} (place : ℕ) (at : Reached s p place q) where
    abbrev end : Walker
    end = after (start false) at.fields

    reached_counted : width at.fields + 16 < 2 ^ 32
    reached_counted = let e = at.ends in let i = at.inside in counted at.fields q at.led (omega arith)

    pub reached_gives : Gives (source s []) (start false) at.fields
    reached_gives =
        let e = at.ends in
        let i = at.inside in
        let w = reached_counted in
        let f = led_few at.led in
        reads_give s [] (start false) at.fields refl
        (narrow_reached (start false) at.fields (led_narrow at.led) (omega arith) (omega arith)) at.stand (omega arith)

    reached_bit : end.bit ≡ place
    reached_bit = let e = at.ends in omega arith

    few : end.n < 2 ^ 32
    few = let w = reached_counted in let f = led_few at.led in omega arith

    near : end.bit + 16 < 2 ^ 32
    near = let w = reached_counted in omega arith

    pub reached_outcome : outcome (source s []) p (start false) ≡ outcome (source s []) q end
    reached_outcome = led_outcome (source s []) (start false) at.led reached_gives

  -- 3 to 6 are what a run stops with
  pub fault_stops : (m place : ℕ) → Fault s p m place → m ≢ 7
      → (d : Walker) × (d.bit ≡ place) × (outcome (source s []) p (start false) ≡ Outcome.no m d)
  fault_stops m place (Fault.past_end {k = k} {r = r} {next = next} at h l e) n =
      let b = reached_bit place at in (
        end place at,
        b,
        reached_outcome place at
            ∙ stops_bad (source s []) k r next (end place at) h m
            (byte_past s k (end place at) (few place at) (near place at) refl (omega arith) ∙ ap Err (sym e)),
      )
  fault_stops m place (Fault.outside {k = k} {r = r} {next = next} at h l i e) n =
      let b = reached_bit place at in (
        end place at,
        b,
        reached_outcome place at
            ∙ stops_refused (source s []) k r next (end place at) h (bits_at s (end place at).bit (bits k)) m
            (byte_there s k (end place at) (few place at) (near place at) refl (omega arith))
            ((outside_exactly r (bits_at s (end place at).bit (bits k))).1 (h, subst (λ x. ¬ (InRange r (bits_at s x (bits k)))) (sym b) i) ∙ ap some (sym e)),
      )
  fault_stops m place (Fault.unnormal {k = k} {r = r} {next = next} at h l i u e) n =
      let b = reached_bit place at in (
        end place at,
        b,
        reached_outcome place at
            ∙ stops_refused (source s []) k r next (end place at) h (bits_at s (end place at).bit (bits k)) m
            (byte_there s k (end place at) (few place at) (near place at) refl (omega arith))
            ((unnormal_exactly r (bits_at s (end place at).bit (bits k))).1
            (h, subst (λ x. InRange r (bits_at s x (bits k))) (sym b) i, subst (λ x. Unnormal r (bits_at s x (bits k))) (sym b) u) ∙ ap some (sym e)),
      )
  fault_stops m place (Fault.too_many {k = k} {r = r} {next = next} at h e) n = (
    end place at,
    reached_bit place at,
    reached_outcome place at ∙ stops_spent (source s []) k r next (end place at) h ∙ ap (λ (x : ℕ). Outcome.no x (end place at)) (sym e),
  )
  fault_stops m place (Fault.left_over at h e) n = absurd (n e)
