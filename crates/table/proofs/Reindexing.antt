-- A reindexed power's numbers stay small, and its node tells the item.
use Prim.Native.Nat.{ℕ, ◌+◌, ◌*◌, ◌≤◌, ◌<◌, ◌^◌}
use mathlib.Core.Path.{◌≡◌, ap₂}
use native.Mathlib.Nat.{mul-le-mul}
use native.Mathlib.Omega.{arith}
use Rattle.patterns.specs.Term.{npow}
use Rattle.patterns.specs.First.{shift}
use Rattle.table.specs.Nodes.{load}
use Rattle.table.specs.Sides.{node_told, Coded, Reindexed}
use Rattle.table.specs.declared.Item.TheVariants.{Power}

pub small_product : (a i : ℕ) → a < 65536 → i < 65536 → a * i < 2 ^ 32
small_product a i p q =
    let u : a ≤ 65535 = omega arith in
    let v : i ≤ 65535 = omega arith in
    omega (arith, mul-le-mul u v)

pub reindexed_power : (s a b i j x y : ℕ) → x ≡ a * i → y ≡ a * j → x < 2 ^ 32 → y < 2 ^ 32 → b < 65536 → Reindexed s a b i j (Power s x (y + b))
unfolding node_told Coded shift load
reindexed_power s a b i j x y p q u v l = record {
  node = ap₂ (λ x y. npow s (x, y + b)) p q;
  light = omega arith;
  coded = tt;
}
