-- What the answer to a yes-or-no question says.
use Rattle.std.specs.Prelude.{◌≡◌, Bool, true, false}

-- it is so, or it is not
unfoldable pub Says : Type 0 → Bool → Type 0
Says A true = A
Says A false = ¬ A

-- if the answer is yes, it is so
pub record Assures (A : Type 0) (r : Bool) : Type 0 where
  pub so : r ≡ true → A
