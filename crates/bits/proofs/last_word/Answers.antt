-- `bits::last_word` meets its contract: what the shift brings in stands past the end.
use Rattle.bits.proofs.Views.{past_shifted}
use mathlib.Core.Path.{ap, ◌∙◌}
use Prim.Native.Nat.{ℕ, ◌+◌, ◌-◌, ◌*◌, ◌%◌, ◌^◌}
use native.Mathlib.Omega.{arith}
use lib.ListN.{length}
use Rattle.bits.proofs.last_word.Goals as goal

pub returns : goal.returns
returns c =
    let a = c.args in
    let s = a.s.now in
    ap (λ (n : ℕ). (n * 2 ^ (8 * (a.k + 8 - length s))) % 2 ^ 64) c.word.ensures
    ∙ past_shifted s a.k (a.k + 8 - length s) (omega arith) (omega arith) (omega arith)
