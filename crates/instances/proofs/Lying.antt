-- Fields that lie in a file are found one after the other, and each part of them lies there too.
use Rattle.std.specs.Prelude.{Some}
use Prim.Native.Nat.{ℕ, ◌+◌, ◌≤◌}
use mathlib.Core.Path.{◌≡◌, subst, ap, ◌∙◌}
use mathlib.Core.List.{List, [], ◌∷◌, ◌++◌}
use native.Mathlib.Omega.{arith}
use Rattle.bits.specs.Bits.{read_field}
use Rattle.bits.specs.Packed.{width, Reads}
use Rattle.bits.proofs.Fitting.{read_yes}
use Rattle.bits.proofs.Groups.{width_append}
use Rattle.grammar.specs.Listing.{Fields}
use Rattle.instances.specs.Lying.{Lies}

-- what the first field's read answers
pub lies_first : (s : List ℕ) (at w v : ℕ) (fs : Fields) → w ≤ 16 → Lies s at ((w, v) ∷ fs) → read_field s w at ≡ Some (v, record { at = at + w })
unfolding Reads width
lies_first s at w v fs narrow l =
    read_yes s w at narrow (omega (arith, l.room)) ∙ ap (λ x. Some (x, record { at = at + w })) l.reads.0

pub lies_rest : (s : List ℕ) (at w v : ℕ) (fs : Fields) → Lies s at ((w, v) ∷ fs) → Lies s (at + w) fs
unfolding Reads width
lies_rest s at w v fs l = record { reads = l.reads.1; room = omega (arith, l.room) }

reads_front : (s : List ℕ) (at : ℕ) (fs gs : Fields) → Reads s at (fs ++ gs) → Reads s at fs
unfolding Reads
reads_front s at [] gs r = tt
reads_front s at (f ∷ fs) gs r = (r.0, reads_front s (at + f.0) fs gs r.1)

reads_back : (s : List ℕ) (at : ℕ) (fs gs : Fields) → Reads s at (fs ++ gs) → Reads s (at + width fs) gs
unfolding Reads width
reads_back s at [] gs r = subst (λ k. Reads s k gs) (omega arith) r
reads_back s at (f ∷ fs) gs r = subst (λ k. Reads s k gs) (omega arith) (reads_back s (at + f.0) fs gs r.1)

pub lies_front : (s : List ℕ) (at : ℕ) (fs gs : Fields) → Lies s at (fs ++ gs) → Lies s at fs
lies_front s at fs gs l = record { reads = reads_front s at fs gs l.reads; room = omega (arith, width_append fs gs, l.room) }

pub lies_back : (s : List ℕ) (at : ℕ) (fs gs : Fields) → Lies s at (fs ++ gs) → Lies s (at + width fs) gs
lies_back s at fs gs l = record { reads = reads_back s at fs gs l.reads; room = omega (arith, width_append fs gs, l.room) }
