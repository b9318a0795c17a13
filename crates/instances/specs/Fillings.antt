-- A filling as 64 words of the work table tell it: for each variable 0, or one more than the place of its term.
use Rattle.std.specs.Prelude.{ℕ, suc, ◌+◌, ◌≡◌, List, cond, ltb, get_or}
use Rattle.patterns.specs.Term.{var, Filling}
use Rattle.patterns.specs.First.{Exp, Pattern}
use Rattle.instances.specs.Lying.{TermAt}

-- the word of a variable
unfoldable pub entry : List ℕ → ℕ → ℕ → ℕ
entry w fills x = cond (ltb x 64) (get_or w (fills + x) 0) 0

-- 01: "A variable that isn't listed stays itself."
pub data Entry (book cert : List ℕ) (x word : ℕ) : Pattern → Type 0 where
  unlisted : word ≡ 0 → Entry book cert x word (var x)
  listed : {t : Pattern} (at : ℕ) → word ≡ suc at → TermAt book cert at t → Entry book cert x word t

-- the filling that the 64 words from `fills` on tell
pub record FillsTold (book cert w : List ℕ) (fills : ℕ) (θ : Filling Exp) : Type 0 where
  pub each : (x : ℕ) → Entry book cert x (entry w fills x) (θ x)
