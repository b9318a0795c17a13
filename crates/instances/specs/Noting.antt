-- What noting pairs of a filling does to the words that tell it: for the contract of the walk over them only.
use Rattle.std.specs.Prelude.{ℕ, suc, ◌+◌, ◌<◌, ◌≡◌, length}
use mathlib.Core.List.{List, flat_map}
use Rattle.bits.specs.Packed.{width}
use Rattle.patterns.specs.Term.{var}
use Rattle.patterns.specs.First.{Exp, Pattern}
use Rattle.patterns.specs.Certificate.{Fills, by}
use Rattle.grammar.specs.Listing.{pair_fields}
use Rattle.grammar.specs.Limits.{Rising}
use Rattle.table.specs.Sides.{Kept}
use Rattle.instances.specs.Lying.{Lies, TermAt, KnownArities}
use Rattle.instances.specs.Fillings.{entry}

-- a variable's word is as it was, or one more than the place of its term
pub data Noted (book s : List ℕ) (x was word : ℕ) : Pattern → Type 0 where
  as_before : word ≡ was → Noted book s x was word (var x)
  anew : {t : Pattern} (at : ℕ) → word ≡ suc at → TermAt book s at t → Noted book s x was word t

-- the pairs of θ are noted, their variables rising from `least` on
pub record Noting (book s : List ℕ) (fills least : ℕ) (θ : Fills Exp) (w after : List ℕ) : Type 0 where
  pub each : (x : ℕ) → Noted book s x (entry w fills x) (entry after fills x) (by θ x)
  pub below : (x : ℕ) → x < least → entry after fills x ≡ entry w fills x

-- the n pairs that lie at bit `at` are noted, the answer is where they end, and no other word has changed
pub record NotesPairs (book s : List ℕ) (fills n at : ℕ) (w after : List ℕ) (r : ℕ) : Type 0 where
  pub told : (ars : List ℕ) → KnownArities book ars → (least : ℕ) (θ : Fills Exp) → length θ ≡ n → Rising ars least θ
      → Lies s at (flat_map pair_fields θ) → Noting book s fills least θ w after × (r ≡ at + width (flat_map pair_fields θ))
  pub kept : Kept fills 64 w after
