-- A number in decimal, as ASCII bytes, and a decimal read back.
use Rattle.std.specs.Prelude.{ℕ, zero, suc, ◌+◌, ◌-◌, ◌*◌, ◌/◌, ◌%◌, List, [], ◌∷◌, ◌++◌, cond, ltb}

-- the byte of a digit
abbrev pub byte : ℕ → ℕ
byte d = 48 + d

-- a tenth's digits and the last digit, until one digit is left; with f at least n there are steps enough
unfoldable pub decimal_within : ℕ → ℕ → List ℕ
decimal_within zero n = byte n ∷ []
decimal_within (suc f) n =
    let tenth = decimal_within f (n / 10) in
    cond (ltb 9 n) (tenth ++ (byte (n % 10) ∷ [])) (byte n ∷ [])

unfoldable pub decimal : ℕ → List ℕ
decimal n = decimal_within n n

-- the number that digits tell, behind one that was read
unfoldable pub read_on : ℕ → List ℕ → ℕ
read_on a [] = a
read_on a (d ∷ ds) = read_on (10 * a + (d - 48)) ds
