-- A node written at a place changes that node and nothing else.
use Prim.Native.Nat.{ℕ, suc, ◌+◌, ◌*◌, ◌≤◌, ◌<◌}
use mathlib.Core.Path.{◌≡◌, refl, ap₂, ◌∙◌}
use mathlib.Core.List.{List, ◌∷◌}
use native.Mathlib.Omega.{arith}
use lib.ListN.{length, get_or, set, length-set}
use lib.Seq.{get_or-set_same, get_or-set_other}
use Rattle.table.specs.Nodes.{node_of, node_at, with_node, stack}
use Rattle.table.specs.Sides.{Kept}
use Rattle.table.proofs.Nodes.{stack_kept}
use Rattle.table.specs.Places.{SIDE, NODES}

pub kept_self : (base room : ℕ) (w : List ℕ) → Kept base room w w
kept_self base room w = record { size = refl; low = λ k h. refl; high = λ k h. refl }

pub kept_then : {base room : ℕ} {w v u : List ℕ} → Kept base room w v → Kept base room v u → Kept base room w u
kept_then p q = record {
  size = q.size ∙ p.size;
  low = λ k h. q.low k h ∙ p.low k h;
  high = λ k h. q.high k h ∙ p.high k h;
}

-- ---- a node written at a place

module _ (w : List ℕ) (p code a b : ℕ) where
  with_length : length (with_node w p code a b) ≡ length w
  unfolding with_node
  with_length = simp length-set

  elsewhere : (k : ℕ) → (k ≡ p → ⊥) → (k ≡ p + 1 → ⊥) → (k ≡ p + 2 → ⊥) → get_or (with_node w p code a b) k 0 ≡ get_or w k 0
  unfolding with_node
  elsewhere k x y z =
      get_or-set_other (set (set w p code) (p + 1) a) (p + 2) k b 0 z
      ∙ get_or-set_other (set w p code) (p + 1) k a 0 y
      ∙ get_or-set_other w p k code 0 x

  with_low : (k : ℕ) → k < p → get_or (with_node w p code a b) k 0 ≡ get_or w k 0
  with_low k h = elsewhere k (λ z. omega arith) (λ z. omega arith) (λ z. omega arith)

  with_high : (k : ℕ) → p + 3 ≤ k → get_or (with_node w p code a b) k 0 ≡ get_or w k 0
  with_high k h = elsewhere k (λ z. omega arith) (λ z. omega arith) (λ z. omega arith)

  with_node_at : p + 3 ≤ length w → node_at (with_node w p code a b) p ≡ node_of code a b
  unfolding node_at with_node
  with_node_at room =
      rw (
        get_or-set_other _ (p + 2) p b 0 (λ z. omega arith),
        get_or-set_other _ (p + 1) p a 0 (λ z. omega arith),
        get_or-set_same w p code 0 (omega arith),
        get_or-set_other _ (p + 2) (p + 1) b 0 (λ z. omega arith),
        get_or-set_same (set w p code) (p + 1) a 0 (simp length-set (omega arith)),
        get_or-set_same (set (set w p code) (p + 1) a) (p + 2) b 0 (simp length-set (omega arith)),
      )

-- behind n nodes it is the top of the stack, and it lies within the side
module _ (w : List ℕ) (base n code a b : ℕ) where
  pub with_stack : base + 3 * suc n ≤ length w → stack (with_node w (base + 3 * n) code a b) base (suc n) ≡ node_of code a b ∷ stack w base n
  unfolding stack
  with_stack room =
      ap₂ ◌∷◌ (with_node_at w (base + 3 * n) code a b (omega arith))
      (stack_kept w _ base n (λ k p q. with_low w (base + 3 * n) code a b k q))

  pub with_kept : n < NODES → Kept base SIDE w (with_node w (base + 3 * n) code a b)
  with_kept h = record {
    size = with_length w (base + 3 * n) code a b;
    low = λ k l. with_low w (base + 3 * n) code a b k (omega arith);
    high = λ k l. with_high w (base + 3 * n) code a b k (omega arith);
  }
