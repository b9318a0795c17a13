-- A copier as a place: the field that stands there, and the copier past it, which has put the field into both outputs.
use Rattle.std.specs.Prelude.{ℕ, ◌≡◌, set, Result, Ok, Err}
use Rattle.bits.specs.Put.{put_field}
use Rattle.fields.specs.declared.copier.Copier.{Copier}
use Rattle.fields.specs.declared.Walker.{Walker}
use Rattle.fields.specs.Source.{Field, Walk, field_at, moved}
use Rattle.fields.specs.Along.{Steps}

-- the field of w bits at the copier
abbrev pub field_before : ℕ → Copier → Field
field_before w x = field_at x.s.now x.l.now w x.at

-- past a field of w bits with the value v
abbrev pub copied : ℕ → ℕ → Copier → Copier
copied w v x = record {
  s = x.s;
  l = x.l;
  at = moved w x.at;
  words = record { ref_ptr = x.words.ref_ptr; ghost_name = x.words.ghost_name; now = set x.words.now x.at.n v };
  bytes = record { ref_ptr = x.bytes.ref_ptr; ghost_name = x.bytes.ghost_name; now = put_field x.bytes.now w v x.at.bit };
}

abbrev pub copying : Steps Copier
copying = record { at = field_before; past = copied }

-- what a walk comes to, with the walker where it stands
abbrev pub walk_of : Result ℕ ℕ → Walker → Walk
walk_of (Ok v) c = Ok (v, c)
walk_of (Err m) c = Err (m, c)

-- both outputs are still the ones that were lent
pub record SameOutputs (x y : Copier) : Type 0 where
  pub words : y.words.ghost_name ≡ x.words.ghost_name
  pub bytes : y.bytes.ghost_name ≡ x.bytes.ghost_name
