-- The words that tell a filling: one that is written changes and no other, and what lies elsewhere in the table leaves them alone.
use Prim.Native.Nat.{ℕ, ◌+◌, ◌≤◌, ◌<◌}
use mathlib.Core.Path.{◌≡◌}
use mathlib.Core.Logic.{◌≢◌}
use mathlib.Core.List.{List}
use native.Mathlib.Decide.{dec_lt}
use native.Mathlib.Omega.{arith}
use lib.ListN.{length, get_or, set, length-set}
use lib.Seq.{get_or-set_same, get_or-set_other}
use borrow.Author.Tests.{lt-ltb, le-ltb}
use Rattle.patterns.specs.Term.{Filling}
use Rattle.patterns.specs.First.{Exp}
use Rattle.table.specs.Sides.{Kept}
use Rattle.instances.specs.Fillings.{entry, FillsTold}

-- a variable that no file names has no word
pub entry_past : (w : List ℕ) (fills x : ℕ) → 64 ≤ x → entry w fills x ≡ 0
unfolding entry
entry_past w fills x h = rw (le-ltb x 64 h)

-- ---- a word written

module _ (w : List ℕ) (fills x word : ℕ) (h : x < 64) where
  pub entry_here : fills + 64 ≤ length w → entry (set w (fills + x) word) fills x ≡ word
  unfolding entry
  entry_here room = rw (lt-ltb x 64 h) (get_or-set_same w (fills + x) word 0 (omega arith))

  pub entry_other : (y : ℕ) → y ≢ x → entry (set w (fills + x) word) fills y ≡ entry w fills y
  unfolding entry
  entry_other y other = rw (get_or-set_other w (fills + x) (fills + y) word 0 (λ z. other (omega arith)))

  pub entry_kept : Kept fills 64 w (set w (fills + x) word)
  entry_kept = record {
    size = length-set w (fills + x) word;
    low = λ k l. get_or-set_other w (fills + x) k word 0 (λ z. omega arith);
    high = λ k l. get_or-set_other w (fills + x) k word 0 (λ z. omega arith);
  }

-- ---- a filling told

-- it stays told where its words do
module _ (fills : ℕ) (w v : List ℕ) (same : (k : ℕ) → fills ≤ k → k < fills + 64 → get_or v k 0 ≡ get_or w k 0) where
  pub entry_same : (x : ℕ) → entry v fills x ≡ entry w fills x
  unfolding entry
  entry_same x = go (dec_lt x 64)
    where
      go : Dec (x < 64) → entry v fills x ≡ entry w fills x
      go (yes h) = rw (same (fills + x) (omega arith) (omega arith))
      go (no h) = rw (le-ltb x 64 (omega arith))

  pub fills_same : {book cert : List ℕ} {θ : Filling Exp} → FillsTold book cert w fills θ → FillsTold book cert v fills θ
  fills_same f = record { each = λ x. rw (entry_same x) (f.each x) }
