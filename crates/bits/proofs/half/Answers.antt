-- `bits::half` meets its contract: four bytes, each shifted to its place, are the field of 32 bits.
use Rattle.bits.proofs.Views.{four_bytes}
use native.Mathlib.Omega.{arith}
use Rattle.bits.proofs.half.Goals as goal

pub returns : goal.returns
returns c =
    let a = c.args in
    omega (
      arith,
      c.byte.ensures,
      c.byte-2.ensures,
      c.byte-3.ensures,
      c.byte-4.ensures,
      four_bytes a.s.now (λ i. omega (arith, c.type_inv.s i)) a.k,
    )
