-- A run over bytes or a list is refused with 3, 4, 5 or 6 only.
use Rattle.std.specs.Prelude.{Ok, Err, Some, None}
use Prim.Native.Nat.{ℕ, ◌≤◌}
use mathlib.Core.Path.{◌≡◌}
use mathlib.Core.List.{List}
use mathlib.Core.Bool.{Bool, true, false, cond}
use mathlib.Core.Option.{Option, some}
use native.Mathlib.Omega.{arith}
use lib.ListN.{length, get_or}
use lib.Dec.{ltb}
use Rattle.bits.specs.Bits.{Taken as Bits}
use Rattle.bits.specs.Bits.{read_field}
use Rattle.fields.specs.declared.Walker.{Walker}
use Rattle.fields.specs.Source.{Field}
use Rattle.fields.specs.Source.{source, field_at, in_reach, listed_field, packed_field, of_bits}
use Rattle.fields.specs.Kinds.{bits, Range, test, spent}
use Rattle.fields.specs.Grammar.{Grammar, outcome}
use Rattle.fields.specs.Grammar.Outcome.{no}
use Rattle.fields.proofs.Ranges.{Tested, met}
use Rattle.fields.proofs.Ranges.Tested.{good, outside, unnormal, too_many}
use Rattle.fields.proofs.Ways.{Way, way_to}
use Rattle.fields.proofs.Ways.Way.{bad, refused, pass}

-- the numbers that a run can be refused with
abbrev pub Few : ℕ → Type 0
Few m = (3 ≤ m) × (m ≤ 6)

-- the refusals of a field are few
abbrev FewBad : Field → Type 0
FewBad x = (m : ℕ) → x ≡ Err m → Few m

few_bad : (n : ℕ) → Few n → FewBad (Err n)
few_bad n h m e = let q : n ≡ m = cc in (omega arith, omega arith)

few_got : (v : ℕ) → FewBad (Ok v)
few_got v m e = let z : ◌≡◌ {A = ℕ} 0 1 = cc in absurd (omega arith)

few_cond : (b : Bool) (x y : Field) → FewBad x → FewBad y → FewBad (cond b x y)
few_cond true x y h k = h
few_cond false x y h k = k

few_packed : (x : Bits) → FewBad (of_bits x)
few_packed (Some (v, d)) = few_got v
few_packed None = few_bad 3 (omega arith, omega arith)

few_at : (s l : List ℕ) (w : ℕ) (c : Walker) → FewBad (field_at s l w c)
unfolding field_at listed_field packed_field
few_at s l w c =
    few_cond (in_reach w c) _ _
    (few_cond c.listed _ _
    (few_cond (ltb c.n (length l)) _ _
    (few_cond (ltb (get_or l c.n 0) _) _ _ (few_got _) (few_bad 4 (omega arith, omega arith))) (few_bad 3 (omega arith, omega arith)))
    (few_packed (read_field s w c.bit)))
    (few_bad 3 (omega arith, omega arith))

few_test : (r : Range) (v m : ℕ) → test r v ≡ some m → Few m
few_test r v m = go (test r v) (met r v)
  where
    go : (o : Option ℕ) → Tested r v o → o ≡ some m → Few m
    go o (good s i u) e = let z : ◌≡◌ {A = ℕ} 0 1 = cc in absurd (omega arith)
    go o (outside s i) e = let q : 4 ≡ m = cc in (omega arith, omega arith)
    go o (unnormal s i u) e = let q : 5 ≡ m = cc in (omega arith, omega arith)
    go o (too_many s) e = let q : 6 ≡ m = cc in (omega arith, omega arith)

module _ {A : Type 0} (s l : List ℕ) where
  way_few : {p : Grammar A} {c d : Walker} {m : ℕ} {fs : List (ℕ × ℕ)} → Way (source s l) p c (no m d) fs → Few m
  way_few (bad {k = k} {r = r} {c = c} {m = m} e) =
      few_cond (spent r) (Err 6) (field_at s l (bits k) c) (few_bad 6 (omega arith, omega arith)) (few_at s l (bits k) c) m e
  way_few (refused {r = r} {v = v} {m = m} e t) = few_test r v m t
  way_few (pass e t h) = way_few h

  pub refused_few : (p : Grammar A) (c : Walker) (m : ℕ) (d : Walker) → outcome (source s l) p c ≡ no m d → Few m
  refused_few p c m d e = way_few (way_to e)
