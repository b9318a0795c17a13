-- What a grammar finds is what spells a tree and stands in the source: the trace of a good run does, and fields that do are found.
use Rattle.std.specs.Prelude.{Ok}
use mathlib.Core.Path.{◌≡◌, refl, sym, ap, ◌∙◌, subst, subst₂}
use mathlib.Core.List.{List, [], ◌∷◌}
use mathlib.Core.Bool.{true, false}
use Prim.Native.Nat.{ℕ, ◌+◌, ◌^◌, ◌≤◌, ◌<◌}
use lib.ListN.{length, take, drop}
use Rattle.bits.specs.Bits.{room_of}
use Rattle.bits.specs.Packed.{width, Reads, Sized}
use Rattle.bits.specs.Written.{Narrow}
use Rattle.fields.specs.declared.Walker.{Walker}
use Rattle.fields.specs.Source.{Source, moved, source}
use Rattle.fields.specs.Kinds.{bits}
use Rattle.fields.specs.Grammar.{Grammar, done, ask, look, Outcome, outcome, trace}
use Rattle.fields.specs.Grammar.Outcome.{ok}
use Rattle.fields.specs.Spells.{Spells}
use Rattle.fields.proofs.Ranges.{look_got, test_look}
use Rattle.fields.proofs.Ways.{Way, way, way_to, way_ends, way_passes}
use Rattle.fields.proofs.Ways.Way.{over, bad, refused, pass}
use Rattle.fields.proofs.Binds.{after, after_none, after_pass, end_ok}
use Rattle.fields.proofs.Sinks.{values}
use Rattle.fields.proofs.Gives.{Gives, ReachedBy, reached_narrow, narrow_reached, gives_reached, gives_sized}
use Rattle.fields.proofs.Gives.{gives_reads, gives_room, reads_give}
use Rattle.fields.proofs.Gives.{gives_stands, stands_take, stands_within}

-- ---- any source

pub way_gives : {A : Type 0} {src : Source} {p : Grammar A} {c : Walker} {o : Outcome A} {fs : List (ℕ × ℕ)} → Way src p c o fs → Gives src c fs
unfolding Gives
way_gives over = tt
way_gives (bad e) = tt
way_gives (refused e t) = tt
way_gives {src = src} (pass {k = k} {r = r} {c = c} e t h) = (look_got src k r c e, way_gives h)

pub way_spells : {A : Type 0} {src : Source} {p : Grammar A} {c d : Walker} {a : A} {fs : List (ℕ × ℕ)} → Way src p c (ok a d) fs → Sized fs
    → Spells p a fs
unfolding Spells Sized
way_spells over small = (refl, refl)
way_spells (pass e t h) small = (refl, small.0, t, way_spells h small.1)

pub spells_way : {A : Type 0} (src : Source) (p : Grammar A) (a : A) (c : Walker) (fs : List (ℕ × ℕ)) → Spells p a fs → Gives src c fs
    → Way src p c (ok a (after c fs)) fs
unfolding Spells Gives
spells_way src (done x) a c fs h g =
    subst₂ (λ y l. Way src (done x) c (ok y (after c l)) l) (sym h.0) (sym h.1)
    (subst (λ d. Way src (done x) c (ok x d) []) (after_none c) over)
spells_way src (ask k r next) a c [] h g = absurd h
spells_way src (ask k r next) a c (f ∷ fs) h g =
    let e : look src k r c ≡ Ok f.1 = test_look src k r c f.1 h.2 ∙ ap (λ (w : ℕ). src w c) (sym h.0) ∙ g.0 in
    subst₂ (λ l d. Way src (ask k r next) c (ok a d) l) (λ i. (sym h.0 i, f.1) ∷ fs) (after_pass (bits k) f.1 c fs ∙ λ i. after c ((sym h.0 i, f.1) ∷ fs))
    (pass e h.2
    (spells_way src (next f.1) a (moved (bits k) c) fs h.3 (subst (λ (w : ℕ). Gives src (moved w c) fs) h.0 g.1)))

-- the grammar finds the tree in the source, past just these fields
pub record Reading {A : Type 0} (src : Source) (p : Grammar A) (c : Walker) (a : A) (fs : List (ℕ × ℕ)) : Type 0 where
  pub ends : outcome src p c ≡ ok a (after c fs)
  pub passes : trace src p c ≡ fs

pub spells_found : {A : Type 0} (src : Source) (p : Grammar A) (a : A) (c : Walker) (fs : List (ℕ × ℕ)) → Spells p a fs → Gives src c fs
    → Reading src p c a fs
spells_found src p a c fs h g = let k = spells_way src p a c fs h g in record { ends = way_ends k; passes = way_passes k }

-- ---- bytes or a list

module _ {A : Type 0} (s l : List ℕ) (p : Grammar A) (c : Walker) where
  trace_given : Gives (source s l) c (trace (source s l) p c)
  trace_given = way_gives (way (source s l) p c)

  pub trace_reached : ReachedBy c (trace (source s l) p c)
  trace_reached = gives_reached s l c (trace (source s l) p c) trace_given

  pub trace_narrow : Narrow (trace (source s l) p c)
  trace_narrow = reached_narrow c (trace (source s l) p c) trace_reached

  pub trace_sized : Sized (trace (source s l) p c)
  trace_sized = gives_sized s l c (trace (source s l) p c) trace_given

  pub trace_spells : {a : A} {d : Walker} → outcome (source s l) p c ≡ ok a d → Spells p a (trace (source s l) p c)
  trace_spells e = way_spells (way_to e) trace_sized

  -- ---- bytes

  pub trace_reads : c.listed ≡ false → Reads s c.bit (trace (source s l) p c)
  trace_reads b = gives_reads s l c (trace (source s l) p c) b trace_given

  pub trace_room : c.listed ≡ false → c.bit ≤ room_of s → c.bit + width (trace (source s l) p c) ≤ room_of s
  trace_room b r = gives_room s l c (trace (source s l) p c) b r trace_given

  pub end_room : {a : A} {d : Walker} → outcome (source s l) p c ≡ ok a d → c.listed ≡ false → c.bit ≤ room_of s → d.bit ≤ room_of s
  end_room e b r = rw (end_ok (source s l) p c e) (trace_room b r)

  pub bytes_found : (a : A) (fs : List (ℕ × ℕ)) → c.listed ≡ false → Spells p a fs → Narrow fs → Reads s c.bit fs
      → c.bit + width fs ≤ room_of s → c.n + length fs ≤ 2 ^ 32 → c.bit + width fs < 2 ^ 32 → Reading (source s l) p c a fs
  bytes_found a fs b h narrow r room few near = spells_found (source s l) p a c fs h (reads_give s l c fs b (narrow_reached c fs narrow few near) r room)

  -- ---- a list

  pub trace_listed : c.listed ≡ true → take (length (trace (source s l) p c)) (drop c.n l) ≡ values (trace (source s l) p c)
  trace_listed b = stands_take l c.n (trace (source s l) p c) (gives_stands s l c (trace (source s l) p c) b trace_given)

  pub trace_within : c.listed ≡ true → c.n ≤ length l → c.n + length (trace (source s l) p c) ≤ length l
  trace_within b k = stands_within l c.n (trace (source s l) p c) k (gives_stands s l c (trace (source s l) p c) b trace_given)
