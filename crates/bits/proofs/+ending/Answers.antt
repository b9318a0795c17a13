-- `bits::ending` meets its contract: one byte more at each call; eight of them may be the last eight, shifted.
use Rattle.bits.specs.Bits.{bits_at, spelled}
use Rattle.bits.proofs.Views.{bits_past, ending_more}
use mathlib.Core.Path.{sym, ap}
use Prim.Native.Nat.{ℕ, ◌*◌}
use native.Mathlib.Omega.{arith}
use Rattle.bits.proofs.+ending.Goals as goal

pub returns-then-n-eq0 : goal.returns-then-n-eq0
unfolding bits_at spelled
returns-then-n-eq0 t c = ap (λ (n : ℕ). bits_at c.args.s.now (8 * c.args.k) (8 * n)) (sym c.if-n-eq0.true)

pub returns-then-k-s : goal.returns-then-k-s
returns-then-k-s t c = let a = c.args in sym (bits_past a.s.now (8 * a.k) (8 * a.n) (omega arith))

pub returns : goal.returns
returns t c =
    let a = c.args in
    ending_more a.s.now (λ i. omega (arith, c.type_inv.s i)) a.k a.n _ _ (omega arith) (omega arith)
    c.ending.ensures c.byte_at.ensures.0
