-- The way of a grammar over a source, step by step: from a walker to an outcome, past the fields of the trace.
use Rattle.std.specs.Prelude.{Ok, Err}
use mathlib.Core.Path.{◌≡◌, refl, ap}
use mathlib.Core.List.{List, [], ◌∷◌}
use mathlib.Core.Option.{Option, none, some}
use Prim.Native.Nat.{ℕ}
use Rattle.fields.specs.declared.Walker.{Walker}
use Rattle.fields.specs.Source.{Field}
use Rattle.fields.specs.Source.{Source, moved}
use Rattle.fields.specs.Kinds.{FieldKind, bits, Range, test}
use Rattle.fields.specs.Grammar.{Grammar, done, ask, look, on_field, tested, Outcome, outcome, trace}
use Rattle.fields.specs.Grammar.Outcome.{ok, no}

pub data Way {A : Type 0} (src : Source) : Grammar A → Walker → Outcome A → List (ℕ × ℕ) → Type 0 where
  over : {a : A} {c : Walker} → Way src (done a) c (ok a c) []
  bad : {k : FieldKind} {r : Range} {next : ℕ → Grammar A} {c : Walker} {m : ℕ} → look src k r c ≡ Err m
      → Way src (ask k r next) c (no m c) []
  refused : {k : FieldKind} {r : Range} {next : ℕ → Grammar A} {c : Walker} {v m : ℕ} → look src k r c ≡ Ok v → test r v ≡ some m
      → Way src (ask k r next) c (no m c) []
  pass : {k : FieldKind} {r : Range} {next : ℕ → Grammar A} {c : Walker} {v : ℕ} {o : Outcome A} {fs : List (ℕ × ℕ)}
      → look src k r c ≡ Ok v → test r v ≡ none → Way src (next v) (moved (bits k) c) o fs → Way src (ask k r next) c o ((bits k, v) ∷ fs)

-- every grammar goes a way, to its outcome past its trace

abbrev Goes : {A : Type 0} → Source → Grammar A → Walker → Type 0
Goes src p c = Way src p c (outcome src p c) (trace src p c)

module _ {A : Type 0} (src : Source) (k : FieldKind) (r : Range) (next : ℕ → Grammar A) (c : Walker) where
  goes_tested : (v : ℕ) (t : Option ℕ) → look src k r c ≡ Ok v → test r v ≡ t → Goes src (next v) (moved (bits k) c)
      → Way src (ask k r next) c (tested t (outcome src (next v) (moved (bits k) c)) (λ m. no m c))
      (tested t ((bits k, v) ∷ trace src (next v) (moved (bits k) c)) (λ m. []))
  goes_tested v none e t h = pass e t h
  goes_tested v (some m) e t h = refused e t

  goes_asked : (f : Field) → look src k r c ≡ f → ((v : ℕ) → Goes src (next v) (moved (bits k) c))
      → Way src (ask k r next) c
      (on_field f (λ v. tested (test r v) (outcome src (next v) (moved (bits k) c)) (λ m. no m c)) (λ m. no m c))
      (on_field f (λ v. tested (test r v) ((bits k, v) ∷ trace src (next v) (moved (bits k) c)) (λ m. [])) (λ m. []))
  goes_asked (Ok v) e h = goes_tested v (test r v) e refl (h v)
  goes_asked (Err m) e h = bad e

pub way : {A : Type 0} (src : Source) (p : Grammar A) (c : Walker) → Way src p c (outcome src p c) (trace src p c)
unfolding outcome trace
way src (done a) c = over
way src (ask k r next) c = goes_asked src k r next c (look src k r c) refl (λ v. way src (next v) (moved (bits k) c))

pub way_to : {A : Type 0} {src : Source} {p : Grammar A} {c : Walker} {o : Outcome A} → outcome src p c ≡ o → Way src p c o (trace src p c)
way_to {src = src} {p = p} {c = c} e = rw e at (way src p c)

-- and no other

module _ {A : Type 0} {src : Source} where
  pub way_ends : {p : Grammar A} {c : Walker} {o : Outcome A} {fs : List (ℕ × ℕ)} → Way src p c o fs → outcome src p c ≡ o
  unfolding outcome
  way_ends over = refl
  way_ends (bad e) = rw e
  way_ends (refused e t) = rw (e, t)
  way_ends (pass e t h) = rw (e, t) (way_ends h)

  pub way_passes : {p : Grammar A} {c : Walker} {o : Outcome A} {fs : List (ℕ × ℕ)} → Way src p c o fs → trace src p c ≡ fs
  unfolding trace
  way_passes over = refl
  way_passes (bad e) = rw e
  way_passes (refused e t) = rw (e, t)
  way_passes (pass {k = k} {v = v} e t h) = rw (e, t) (ap (λ (l : List (ℕ × ℕ)). (bits k, v) ∷ l) (way_passes h))
