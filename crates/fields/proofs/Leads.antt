-- Where a grammar is led by fields that stand in a source, and why it stops there.
use Rattle.std.specs.Prelude.{Ok, Err}
use Prim.Native.Nat.{ℕ, ◌^◌, ◌≤◌, ◌<◌}
use mathlib.Core.Path.{◌≡◌, sym, ap, ◌∙◌, subst, subst₂}
use mathlib.Core.List.{List, [], ◌∷◌}
use mathlib.Core.Option.{none, some}
use native.Mathlib.Omega.{arith}
use lib.ListN.{length}
use Rattle.bits.specs.Packed.{width, Sized}
use Rattle.bits.specs.Written.{Narrow}
use Rattle.fields.specs.declared.Walker.{Walker}
use Rattle.fields.specs.Source.{Source, moved}
use Rattle.fields.specs.Kinds.{FieldKind, bits, Range, test}
use Rattle.fields.specs.Grammar.{Grammar, done, ask, look, outcome, trace}
use Rattle.fields.specs.Grammar.Outcome.{ok, no}
use Rattle.fields.specs.Spells.{Spells}
use Rattle.fields.specs.Faults.{Keeps, Led, here, past}
use Rattle.fields.proofs.Ranges.{passes_exactly, test_look}
use Rattle.fields.proofs.Spelled.{bits_few}
use Rattle.fields.proofs.Ways.{Way}
use Rattle.fields.proofs.Ways.Way.{over, bad, refused, pass}
use Rattle.fields.proofs.Binds.{after, after_none, after_pass}
use Rattle.fields.proofs.Gives.{Gives}

-- ---- what a field that keeps its rule passes

pub keeps_passes : (k : FieldKind) (r : Range) (v : ℕ) → Keeps k r v → test r v ≡ none
keeps_passes k r v h = (passes_exactly r v).1 (h.allowed, h.ranged, h.normal)

pub passes_keeps : (k : FieldKind) (r : Range) (v : ℕ) → v < 2 ^ bits k → test r v ≡ none → Keeps k r v
passes_keeps k r v l t =
    let h = (passes_exactly r v).0 t in record { narrow = l; allowed = h.0; ranged = h.1; normal = h.2 }

-- ---- fields that lead are narrow, and no more than their bits

module _ {A : Type 0} where
  pub led_narrow : {p q : Grammar A} {fs : List (ℕ × ℕ)} → Led p fs q → Narrow fs
  unfolding Narrow
  led_narrow here = tt
  led_narrow (past {k = k} h l) = ((bits_few k).1, led_narrow l)

  pub led_sized : {p q : Grammar A} {fs : List (ℕ × ℕ)} → Led p fs q → Sized fs
  unfolding Sized
  led_sized here = tt
  led_sized (past h l) = (h.narrow, led_sized l)

  pub led_few : {p q : Grammar A} {fs : List (ℕ × ℕ)} → Led p fs q → length fs ≤ width fs
  unfolding width
  led_few here = omega arith
  led_few (past {k = k} h l) = let b = (bits_few k).0 in let n = led_few l in omega arith

-- fields that spell a tree lead to it
pub spells_led : {A : Type 0} (p : Grammar A) (a : A) (fs : List (ℕ × ℕ)) → Spells p a fs → Led p fs (done a)
unfolding Spells
spells_led (done b) a fs h = subst₂ (λ x l. Led (done b) l (done x)) (sym h.0) (sym h.1) here
spells_led (ask k r next) a [] h = absurd h
spells_led (ask k r next) a (f ∷ fs) h =
    subst (λ (w : ℕ). Led (ask k r next) ((w, f.1) ∷ fs) (done a)) (sym h.0)
    (past (passes_keeps k r f.1 h.1 h.2) (spells_led (next f.1) a fs h.3))

-- ---- from a run to where it was led

-- why a grammar stops at a field
pub data Why (src : Source) (k : FieldKind) (r : Range) (c : Walker) (m : ℕ) : Type 0 where
  unread : look src k r c ≡ Err m → Why src k r c m
  untaken : (v : ℕ) → look src k r c ≡ Ok v → test r v ≡ some m → Why src k r c m

pub record StoppedAt {A : Type 0} (src : Source) (p : Grammar A) (c : Walker) (m : ℕ) (fs : List (ℕ × ℕ)) : Type 0 where
  pub kind : FieldKind
  pub range : Range
  pub next : ℕ → Grammar A
  pub led : Led p fs (ask kind range next)
  pub why : Why src kind range (after c fs) m

stops_past : {A : Type 0} {src : Source} {m : ℕ} (k : FieldKind) (r : Range) (next : ℕ → Grammar A) (v : ℕ) (c : Walker) (fs : List (ℕ × ℕ))
    → Keeps k r v → StoppedAt src (next v) (moved (bits k) c) m fs → StoppedAt src (ask k r next) c m ((bits k, v) ∷ fs)
stops_past {src = src} {m = m} k r next v c fs h s = record {
  kind = s.kind;
  range = s.range;
  next = s.next;
  led = past h s.led;
  why = subst (λ x. Why src s.kind s.range x m) (after_pass (bits k) v c fs) s.why;
}

module _ {A : Type 0} {src : Source} where
  pub way_leads : {p : Grammar A} {c d : Walker} {a : A} {fs : List (ℕ × ℕ)} → Way src p c (ok a d) fs → Sized fs → Led p fs (done a)
  unfolding Sized
  way_leads over small = here
  way_leads (pass {k = k} {r = r} {v = v} e t h) small = past (passes_keeps k r v small.0 t) (way_leads h small.1)

  pub way_stops : {p : Grammar A} {c d : Walker} {m : ℕ} {fs : List (ℕ × ℕ)} → Way src p c (no m d) fs → Sized fs → StoppedAt src p c m fs
  unfolding Sized
  way_stops (bad {k = k} {r = r} {next = next} {c = c} {m = m} e) small = record {
    kind = k;
    range = r;
    next = next;
    led = here;
    why = subst (λ x. Why src k r x m) (after_none c) (unread e);
  }
  way_stops (refused {k = k} {r = r} {next = next} {c = c} {v = v} {m = m} e t) small = record {
    kind = k;
    range = r;
    next = next;
    led = here;
    why = subst (λ x. Why src k r x m) (after_none c) (untaken v e t);
  }
  way_stops (pass {k = k} {r = r} {next = next} {c = c} {v = v} {fs = fs} e t h) small =
      stops_past k r next v c fs (passes_keeps k r v small.0 t) (way_stops h small.1)

-- ---- and back: fields that lead, and stand in the source, are passed

module _ {A : Type 0} (src : Source) where
  module _ (k : FieldKind) (r : Range) (next : ℕ → Grammar A) (v : ℕ) (c : Walker) (h : Keeps k r v) (g : src (bits k) c ≡ Ok v) where
    looks : look src k r c ≡ Ok v
    looks = test_look src k r c v (keeps_passes k r v h) ∙ g

    outcome_past : outcome src (ask k r next) c ≡ outcome src (next v) (moved (bits k) c)
    unfolding outcome
    outcome_past = rw (looks, keeps_passes k r v h)

    trace_past : trace src (ask k r next) c ≡ (bits k, v) ∷ trace src (next v) (moved (bits k) c)
    unfolding trace
    trace_past = rw (looks, keeps_passes k r v h)

  pub led_outcome : {p q : Grammar A} {fs : List (ℕ × ℕ)} (c : Walker) → Led p fs q → Gives src c fs → outcome src p c ≡ outcome src q (after c fs)
  unfolding Gives
  led_outcome c (here {p = p}) g = ap (outcome src p) (after_none c)
  led_outcome c (past {k = k} {r = r} {next = next} {v = v} {fs = fs} {q = q} h l) g =
      outcome_past k r next v c h g.0
      ∙ led_outcome (moved (bits k) c) l g.1
      ∙ ap (outcome src q) (after_pass (bits k) v c fs)

  pub led_trace : {p q : Grammar A} {fs : List (ℕ × ℕ)} (c : Walker) → Led p fs q → Gives src c fs → trace src q (after c fs) ≡ []
      → trace src p c ≡ fs
  unfolding Gives
  led_trace c (here {p = p}) g n = ap (trace src p) (after_none c) ∙ n
  led_trace c (past {k = k} {r = r} {next = next} {v = v} {fs = fs} {q = q} h l) g n =
      trace_past k r next v c h g.0
      ∙ ap (λ (x : List (ℕ × ℕ)). (bits k, v) ∷ x)
      (led_trace (moved (bits k) c) l g.1 (ap (trace src q) (after_pass (bits k) v c fs) ∙ n))
