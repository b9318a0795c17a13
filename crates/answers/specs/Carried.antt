-- What a refusal carries, by its number.
use Rattle.std.specs.Prelude.{ℕ, ◌≡◌, Bool, ◌&&◌, cond, leb}
use Rattle.patterns.specs.Reason.{Reason}

-- a refusal with B = 0
abbrev pub refusal_at : ℕ → ℕ → ℕ → Reason
refusal_at number w a = record { number = number; w = w; a = a; b = 0 }

-- 01: "For 3 to 7, [..] A is the bit offset where the field begins [..] and B is 0."
unfoldable pub of_a_field : ℕ → Bool
of_a_field number = leb 3 number && leb number 7

-- "For 9 to 16, A is the line judged, in the closing the line named, and B is the part."
unfoldable pub of_a_part : ℕ → Bool
of_a_part number = leb 9 number && leb number 16

-- "Otherwise both are 0"
unfoldable pub carried : ℕ → ℕ → ℕ → ℕ → Reason
carried number w a b =
    cond (of_a_field number) (refusal_at number w a)
    (cond (of_a_part number) (record { number = number; w = w; a = a; b = b }) (refusal_at number w 0))

-- a refusal that carries this and nothing else
unfoldable pub Carries : Reason → Type 0
Carries r = carried r.number r.w r.a r.b ≡ r
