-- The arity of a symbol, looked up where the book stands: in its bytes, or in its list of fields.
use Rattle.std.specs.Prelude.{ℕ, ◌+◌, ◌*◌, ◌/◌, ◌%◌, ◌≡◌, List, Bool, cond, ltb}
use Rattle.fields.specs.declared.Walker.{Walker}
use Rattle.fields.specs.Source.{field_at, start}
use Rattle.fields.specs.Grammar.{on_field}

-- the number at a walker, or another where there is none
unfoldable pub number_at : List ℕ → List ℕ → ℕ → Walker → ℕ → ℕ
number_at s l w c other = on_field (field_at s l w c) (λ v. v) (λ m. other)

-- 01: "symbol count 8 bits; each arity 4". A symbol that is not below the count has the arity 16.
unfoldable pub arity_at : List ℕ → List ℕ → Bool → ℕ → ℕ
arity_at s l listed f =
    cond (ltb f (number_at s l 8 (start listed) 0))
    (number_at s l 4 (record { bit = 8 + 4 * f; n = 1 + f; listed = listed }) 16) 16

-- the half of a byte that n chooses: the upper one if it is even
pub record NibbleOf (byte n r : ℕ) : Type 0 where
  pub even : n % 2 ≡ 0 → r ≡ byte / 16
  pub odd : n % 2 ≡ 1 → r ≡ byte % 16
