-- A run with outputs is the outcome, with the fields of the trace put into them; and what fields put from the first place on leave there.
use mathlib.Core.Path.{◌≡◌, refl, sym, ap, ap₂, ◌∙◌}
use mathlib.Core.List.{List, [], ◌∷◌, ◌++◌, map, append-nil, append_assoc}
use Prim.Native.Nat.{ℕ, ◌+◌, ◌≤◌}
use native.Mathlib.Omega.{arith}
use native.Mathlib.Numerals.{add-one}
use lib.ListN.{length, drop, set, length-map}
use lib.Seq.{sets as setAll, sets-eq}
use Rattle.bits.specs.Bits.{room_of}
use Rattle.bits.specs.Packed.{width, field_bits, bytes_of, groups, packed}
use Rattle.bits.specs.Put.{put_field}
use Rattle.bits.specs.Written.{Narrow, written}
use Rattle.bits.proofs.InOrder.{put_next}
use Rattle.bits.proofs.PackedFields.{width_one}
use Rattle.fields.specs.declared.Walker.{Walker}
use Rattle.fields.specs.Source.{Source}
use Rattle.fields.specs.Kinds.{bits}
use Rattle.fields.specs.Grammar.{Grammar, Outcome, outcome, trace}
use Rattle.fields.specs.Grammar.Outcome.{ok, no}
use Rattle.fields.specs.Run.{state, Result, run}
use Rattle.fields.proofs.Ways.{Way, way_to}
use Rattle.fields.proofs.Ways.Way.{over, bad, refused, pass}

-- the values of fields
abbrev pub values : List (ℕ × ℕ) → List ℕ
values fs = map (λ (f : ℕ × ℕ). f.1) fs

-- the values put into a list from place n on, as far as it has places
unfoldable pub sets : List ℕ → ℕ → List (ℕ × ℕ) → List ℕ
sets ws n [] = ws
sets ws n (f ∷ fs) = sets (set ws n f.1) (n + 1) fs

-- the fields put into bytes from bit `at` on, each where it fits
unfoldable pub puts : List ℕ → ℕ → List (ℕ × ℕ) → List ℕ
puts bs at [] = bs
puts bs at (f ∷ fs) = puts (put_field bs f.0 f.1 at) (at + f.0) fs

-- ---- a run

abbrev pub sunk : {A : Type 0} → Outcome A → List ℕ → List ℕ → Result A
sunk (ok a d) ws bs = Result.ok a (state d ws bs)
sunk (no m d) ws bs = Result.no m (state d ws bs)

pub way_run : {A : Type 0} {src : Source} {p : Grammar A} {c : Walker} {o : Outcome A} {fs : List (ℕ × ℕ)} (ws bs : List ℕ) → Way src p c o fs
    → run src p (state c ws bs) ≡ sunk o (sets ws c.n fs) (puts bs c.bit fs)
unfolding run sets puts
way_run ws bs over = refl
way_run ws bs (bad e) = rw e
way_run ws bs (refused e t) = rw (e, t)
way_run {c = c} ws bs (pass {k = k} {v = v} e t h) = rw (e, t) (way_run (set ws c.n v) (put_field bs (bits k) v c.bit) h)

module _ {A : Type 0} (src : Source) (p : Grammar A) (c : Walker) (ws bs : List ℕ) where
  pub run_sunk : run src p (state c ws bs) ≡ sunk (outcome src p c) (sets ws c.n (trace src p c)) (puts bs c.bit (trace src p c))
  run_sunk = way_run ws bs (way_to refl)

  pub run_ok : {a : A} {d : Walker} → outcome src p c ≡ ok a d
      → run src p (state c ws bs) ≡ Result.ok a (state d (sets ws c.n (trace src p c)) (puts bs c.bit (trace src p c)))
  run_ok e = way_run ws bs (way_to e)

-- ---- the outputs

sets_values : (ws : List ℕ) (n : ℕ) (fs : List (ℕ × ℕ)) → sets ws n fs ≡ setAll ws n (values fs)
unfolding sets
sets_values ws n [] = refl
sets_values ws n (f ∷ fs) = sets_values (set ws n f.1) (n + 1) fs ∙ ap (λ (k : ℕ). setAll (set ws n f.1) k (values fs)) (add-one n)

pub sets_first : (ws : List ℕ) (fs : List (ℕ × ℕ)) → length fs ≤ length ws → sets ws 0 fs ≡ values fs ++ drop (length fs) ws
sets_first ws fs h = sets_values ws 0 fs ∙ sets-eq (values fs) ws 0 (omega (arith, long)) ∙ ap (λ (k : ℕ). values fs ++ drop k ws) long
  where
    long : 0 + length (values fs) ≡ length fs
    long = omega (arith, length-map fs (λ (f : ℕ × ℕ). f.1))

-- behind packed fields come the packed fields with the new ones
puts_behind : (before fs : List (ℕ × ℕ)) (out : List ℕ) → Narrow fs → width before + width fs ≤ room_of out
    → puts (written before out) (width before) fs ≡ written (before ++ fs) out
unfolding puts Narrow width
puts_behind before [] out narrow room = ap (λ (l : List (ℕ × ℕ)). written l out) (sym (append-nil before))
puts_behind before (f ∷ fs) out narrow room =
    ap₂ (λ (s : List ℕ) (n : ℕ). puts s n fs) (put_next before f out narrow.0 (omega arith)) (sym (width_one before f))
    ∙ puts_behind (before ++ f ∷ []) fs out narrow.1 (omega (arith, width_one before f))
    ∙ ap (λ (l : List (ℕ × ℕ)). written l out) (append_assoc before (f ∷ []) fs)

pub puts_first : (bs : List ℕ) (fs : List (ℕ × ℕ)) → Narrow fs → width fs ≤ room_of bs → puts bs 0 fs ≡ packed fs ++ drop (length (packed fs)) bs
unfolding written packed field_bits bytes_of groups width
puts_first bs fs narrow room = puts_behind [] fs bs narrow (omega arith)
