-- The largest number of the nodes that were passed, and of one more.
use Prim.Native.Nat.{ℕ, suc, max, ◌+◌, ◌*◌, ◌%◌, ◌≤◌, ◌<◌}
use mathlib.Core.Path.{◌≡◌, refl, sym, ◌∙◌, ap, ap₂}
use mathlib.Core.Logic.{◌≢◌, ite}
use mathlib.Core.List.{List, [], ◌∷◌, ◌++◌, reverse-cons}
use native.Mathlib.Decide.{dec_le}
use native.Mathlib.Omega.{arith}
use lib.ListN.{get_or}
use Rattle.patterns.specs.Term.{Node, nvar, nfun, npow}
use Rattle.patterns.specs.First.{Exp}
use Rattle.covering.specs.Search.{larger, largest}
use Rattle.table.specs.Places.{FIRST}
use Rattle.table.specs.Nodes.{node_at, stack, side}
use Rattle.table.proofs.Nodes.{TellsNode, is_var, is_fun, is_pow, tells, is_power}

-- ---- the larger of two

pub larger_second : (n m : ℕ) → n ≤ m → m ≡ larger n m
unfolding larger
larger_second n m h = go (dec_le n m)
  where
    go : (d : Dec (n ≤ m)) → m ≡ ite d m n
    go (yes p) = refl
    go (no p) = absurd (p h)

pub larger_first : (n m : ℕ) → m < n → n ≡ larger n m
unfolding larger
larger_first n m h = go (dec_le n m)
  where
    go : (d : Dec (n ≤ m)) → n ≡ ite d m n
    go (yes p) = absurd (omega arith)
    go (no p) = refl

larger_max : (n m : ℕ) → max n m ≡ larger n m
larger_max n m = go (dec_le n m)
  where
    go : Dec (n ≤ m) → max n m ≡ larger n m
    go (yes p) = let q : max n m ≡ m = omega arith in q ∙ larger_second n m p
    go (no p) = let q : max n m ≡ n = omega arith in q ∙ larger_first n m (omega arith)

-- a third, before or behind
larger_turn : (n m k : ℕ) → larger n (larger m k) ≡ larger m (larger n k)
larger_turn n m k = go (dec_le n k) (dec_le m k) (dec_le n m)
  where
    go : Dec (n ≤ k) → Dec (m ≤ k) → Dec (n ≤ m) → larger n (larger m k) ≡ larger m (larger n k)
    go (yes p) (yes q) d =
        ap (larger n) (sym (larger_second m k q)) ∙ sym (larger_second n k p)
        ∙ larger_second m k q ∙ ap (larger m) (larger_second n k p)
    go (yes p) (no q) d =
        ap (larger n) (sym (larger_first m k (omega arith))) ∙ sym (larger_second n m (omega arith))
        ∙ larger_first m k (omega arith) ∙ ap (larger m) (larger_second n k p)
    go (no p) (yes q) d =
        ap (larger n) (sym (larger_second m k q)) ∙ sym (larger_first n k (omega arith))
        ∙ larger_second m n (omega arith) ∙ ap (larger m) (larger_first n k (omega arith))
    go (no p) (no q) (yes r) =
        ap (larger n) (sym (larger_first m k (omega arith))) ∙ sym (larger_second n m r)
        ∙ both r (dec_le m n)
      where
        both : n ≤ m → Dec (m ≤ n) → m ≡ larger m (larger n k)
        both l (yes s) = let e : m ≡ n = omega arith in e ∙ larger_second m n s ∙ ap (larger m) (larger_first n k (omega arith))
        both l (no s) = larger_first m n (omega arith) ∙ ap (larger m) (larger_first n k (omega arith))
    go (no p) (no q) (no r) =
        ap (larger n) (sym (larger_first m k (omega arith))) ∙ sym (larger_first n m (omega arith))
        ∙ larger_second m n (omega arith) ∙ ap (larger m) (larger_first n k (omega arith))

larger_none : (n : ℕ) → larger n 0 ≡ n
larger_none n = go (dec_le n 0)
  where
    go : Dec (n ≤ 0) → larger n 0 ≡ n
    go (yes p) = sym (larger_second n 0 p) ∙ omega arith
    go (no p) = sym (larger_first n 0 (omega arith))

-- ---- a node, and a node behind others

pub largest_power : (w : List ℕ) (at : ℕ) → get_or w at 0 % 3 ≡ 2 → get_or w (at + 2) 0 ≡ largest (node_at w at ∷ [])
unfolding node_at largest
largest_power w at h = sym (ap (λ m. largest (m ∷ [])) (is_power _ _ _ h) ∙ larger_none (get_or w (at + 2) 0))

pub largest_other : (w : List ℕ) (at : ℕ) → get_or w at 0 % 3 ≢ 2 → 0 ≡ largest (node_at w at ∷ [])
unfolding node_at largest
largest_other w at h = go (tells _ _ _)
  where
    go : {a b : ℕ} {m : Node Exp} → TellsNode (get_or w at 0) a b m → 0 ≡ largest (m ∷ [])
    go (is_var x p) = refl
    go (is_fun f p) = refl
    go (is_pow s p) = absurd (h (omega arith))

largest_behind : (ns : List (Node Exp)) (m : Node Exp) → largest (ns ++ (m ∷ [])) ≡ larger (largest (m ∷ [])) (largest ns)
unfolding largest
largest_behind [] m = sym (larger_none (largest (m ∷ [])))
largest_behind (nvar x ∷ ns) m = largest_behind ns m
largest_behind (nfun f ∷ ns) m = largest_behind ns m
largest_behind (npow s e ∷ ns) m = ap (larger e.1) (largest_behind ns m) ∙ larger_turn e.1 (largest (m ∷ [])) (largest ns)

pub largest_none : (w : List ℕ) → 0 ≡ largest (side w FIRST 0)
unfolding side stack largest
largest_none w = refl

pub largest_more : (w : List ℕ) (j most n r : ℕ) → most ≡ largest (side w FIRST j) → n ≡ largest (node_at w (FIRST + 3 * j) ∷ []) → r ≡ max n most
    → r ≡ largest (side w FIRST (j + 1))
unfolding side stack
largest_more w j most n r e f g =
    let up : suc j ≡ j + 1 = omega arith in
    g ∙ larger_max n most ∙ ap₂ larger f e ∙ sym (largest_behind (side w FIRST j) (node_at w (FIRST + 3 * j)))
    ∙ ap largest (sym (reverse-cons (node_at w (FIRST + 3 * j)) (stack w FIRST j)))
    ∙ ap (λ i. largest (side w FIRST i)) up

pub largest_all : (w : List ℕ) (k j most : ℕ) → j ≤ k → k ≤ j → most ≡ largest (side w FIRST j) → most ≡ largest (side w FIRST k)
largest_all w k j most p q e = let same : j ≡ k = omega arith in e ∙ ap (λ i. largest (side w FIRST i)) same
