-- `bits::word` meets its contract: two halves, side by side.
use Rattle.bits.proofs.Bytes.{bits_lt}
use Rattle.bits.proofs.Views.{two_halves}
use native.Mathlib.Omega.{arith}
use Prim.Native.Nat.{◌+◌, ◌*◌}
use Rattle.bits.proofs.word.Goals as goal

pub overflow_add-result : goal.overflow_add-result
overflow_add-result c =
    let a = c.args in
    omega (arith, c.half.ensures, c.half-2.ensures, bits_lt a.s.now (8 * a.k) 32, bits_lt a.s.now (8 * (a.k + 4)) 32)

pub returns : goal.returns
returns c =
    let a = c.args in
    omega (arith, c.half.ensures, c.half-2.ensures, bits_lt a.s.now (8 * a.k) 32, two_halves a.s.now a.k)
