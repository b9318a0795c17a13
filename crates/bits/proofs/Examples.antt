-- Worked examples of the packed layout: the rule book that document 01 shows, a field put across three bytes, and one that finds no room.
use mathlib.Core.Path.{◌≡◌, refl}
use mathlib.Core.List.{[], ◌∷◌}
use Rattle.bits.specs.Bits.{spelled}
use Rattle.bits.specs.Packed.{bits_of, field_bits, groups, bytes_of, packed}
use Rattle.bits.specs.Put.{bits_in, put_bits, put_field}

-- one constant, and the rule "a if a": 01 00 11 40 10 00
book : packed ((8, 1) ∷ (4, 0) ∷ (8, 1) ∷ (4, 1) ∷ (2, 1) ∷ (8, 0) ∷ (2, 1) ∷ (8, 0) ∷ []) ≡ 0x01 ∷ 0x00 ∷ 0x11 ∷ 0x40 ∷ 0x10 ∷ 0x00 ∷ []
unfolding packed bytes_of groups field_bits bits_of spelled
book = refl

-- twelve bits from bit 6 on: six bits are kept, the last six bits of the third byte are cleared, and the fourth byte is kept
across : put_field (0xff ∷ 0xff ∷ 0xff ∷ 0xff ∷ []) 12 0xabc 6 ≡ 0xfe ∷ 0xaf ∷ 0x00 ∷ 0xff ∷ []
unfolding put_field put_bits bits_in bytes_of groups bits_of spelled
across = refl

-- twelve bits from bit 6 on do not fit into two bytes
no_room : put_field (0xff ∷ 0xff ∷ []) 12 0xabc 6 ≡ 0xff ∷ 0xff ∷ []
unfolding put_field
no_room = refl
