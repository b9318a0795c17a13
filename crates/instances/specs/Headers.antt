-- The header of a node as it stands at a bit: its tag, and the fields that are its own.
use Rattle.std.specs.Prelude.{ℕ, ◌≡◌, List, cond, eqb, Some, None}
use Rattle.bits.specs.Bits.{room_of, read_field}
use Rattle.bits.specs.View.{Views}
use Rattle.bits.specs.declared.Cursor.{Cursor}
use Rattle.bits.specs.Bits.{Taken}
use Rattle.instances.specs.Lying.{arities}
use Rattle.instances.specs.declared.Header.{Header}
use Rattle.instances.specs.declared.Header.TheVariants.{Variable, Symbol, Power, Missing}

-- what a field leads to, if it is there
unfoldable pub on_taken : Taken → (ℕ → Cursor → Header) → Header
on_taken (Some (v, c)) next = next v c
on_taken None next = Missing

-- 01: "Tag 0: variable, 6 bits."
unfoldable pub variable_at : List ℕ → ℕ → Header
variable_at s at = on_taken (read_field s 6 at) (λ x c. Variable x c)

-- 01: "Tag 1: symbol, 8 bits"
unfoldable pub symbol_at : List ℕ → List ℕ → ℕ → Header
symbol_at book s at = on_taken (read_field s 8 at) (λ f c. Symbol f (arities book f) c)

-- 01: "Tag 2: power, symbol 8 bits of arity 1, a 12 bits, b 12 bits."
unfoldable pub power_at : List ℕ → ℕ → Header
power_at s at =
    on_taken (read_field s 8 at)
    (λ f c. on_taken (read_field s 12 c.at) (λ a d. on_taken (read_field s 12 d.at) (λ b e. Power f a b e)))

-- 01: "Tag 3 is refused."
unfoldable pub by_tag : List ℕ → List ℕ → ℕ → ℕ → Header
by_tag book s tag at =
    cond (eqb tag 0) (variable_at s at) (cond (eqb tag 1) (symbol_at book s at) (cond (eqb tag 2) (power_at s at) Missing))

-- 01: "a 2-bit tag for each node"
unfoldable pub header_at : List ℕ → List ℕ → ℕ → Header
header_at book s at = on_taken (read_field s 2 at) (λ tag c. by_tag book s tag c.at)

-- the header at a bit of any file of which x is the view from there on, and which has `room` bits
pub record Heads (book : List ℕ) (x at room : ℕ) (r : Header) : Type 0 where
  pub is : (s : List ℕ) → Views s at x → room ≡ room_of s → r ≡ header_at book s at
