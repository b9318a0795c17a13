-- Which node three words tell, and when two times three words tell the same.
use Prim.Native.Nat.{ℕ, zero, suc, ◌+◌, ◌*◌, ◌/◌, ◌%◌, ◌<◌, ◌≤◌}
use mathlib.Core.Path.{◌≡◌, refl, sym, ap, ap₂, subst, ◌∙◌}
use mathlib.Core.Logic.{◌≢◌}
use mathlib.Core.List.{List, ◌∷◌}
use native.Mathlib.Decide.{ℕ_discrete}
use native.Mathlib.Omega.{arith}
use lib.ListN.{length, get_or, length-reverse}
use borrow.Author.Tests.{eq-eqb, ne_eqb}
use Rattle.patterns.specs.Term.{Node, nvar, nfun, npow}
use Rattle.patterns.specs.First.{Exp}
use Rattle.table.specs.Nodes.{node_of, node_at, with_node, stack, side, Words}

-- what a node's words say
pub data TellsNode (c a b : ℕ) : Node Exp → Type 0 where
  is_var : (x : ℕ) → c ≡ 3 * x → TellsNode c a b (nvar x)
  is_fun : (f : ℕ) → c ≡ 3 * f + 1 → TellsNode c a b (nfun f)
  is_pow : (s : ℕ) → c ≡ 3 * s + 2 → TellsNode c a b (npow s (a, b))

pub tells : (c a b : ℕ) → TellsNode c a b (node_of c a b)
unfolding node_of
tells c a b = go (ℕ_discrete (c % 3) 0) (ℕ_discrete (c % 3) 1)
  where
    go : Dec (c % 3 ≡ 0) → Dec (c % 3 ≡ 1) → TellsNode c a b (node_of c a b)
    go (yes p) q = rw (eq-eqb (c % 3) 0 p) (is_var (c / 3) (omega arith))
    go (no p) (yes q) = rw (ne_eqb (c % 3) 0 p, eq-eqb (c % 3) 1 q) (is_fun (c / 3) (omega arith))
    go (no p) (no q) = rw (ne_eqb (c % 3) 0 p, ne_eqb (c % 3) 1 q) (is_pow (c / 3) (omega arith))

pub var_told : (x a b : ℕ) → node_of (3 * x) a b ≡ nvar x
unfolding node_of
var_told x a b = rw (eq-eqb (3 * x % 3) 0 (omega arith)) (ap nvar (omega arith))

pub fun_told : (f a b : ℕ) → node_of (3 * f + 1) a b ≡ nfun f
unfolding node_of
fun_told f a b =
    rw (ne_eqb ((3 * f + 1) % 3) 0 (λ z. omega arith), eq-eqb ((3 * f + 1) % 3) 1 (omega arith)) (ap nfun (omega arith))

pub pow_told : (s a b : ℕ) → node_of (3 * s + 2) a b ≡ npow s (a, b)
unfolding node_of
pow_told s a b =
    rw (ne_eqb ((3 * s + 2) % 3) 0 (λ z. omega arith), ne_eqb ((3 * s + 2) % 3) 1 (λ z. omega arith))
    (ap (λ n. npow n (a, b)) (omega arith))

-- a node written as its words stand elsewhere
pub words_written : {v u : List ℕ} {p x y z : ℕ} (q : ℕ) → Words v p x y z → u ≡ with_node v q x y z
    → u ≡ with_node v q (get_or v p 0) (get_or v (p + 1) 0) (get_or v (p + 2) 0)
words_written q s e = e ∙ rw (s.first, s.second, s.third) refl

-- ---- the same node

code_same : {c a b d x y : ℕ} {m : Node Exp} → TellsNode c a b m → TellsNode d x y m → c ≡ d
code_same (is_var x p) (is_var y q) = omega arith
code_same (is_fun x p) (is_fun y q) = omega arith
code_same (is_pow x p) (is_pow y q) = omega arith

pub code_other : (c a b d x y : ℕ) → (c ≡ d → ⊥) → node_of c a b ≢ node_of d x y
code_other c a b d x y h z = h (code_same (tells c a b) (subst (λ m. TellsNode d x y m) (sym z) (tells d x y)))

pub no_power : (c a b x y : ℕ) → (c % 3 ≡ 2 → ⊥) → node_of c a b ≡ node_of c x y
unfolding node_of
no_power c a b x y h = go (ℕ_discrete (c % 3) 0)
  where
    go : Dec (c % 3 ≡ 0) → node_of c a b ≡ node_of c x y
    go (yes p) = rw (eq-eqb (c % 3) 0 p)
    go (no p) = rw (ne_eqb (c % 3) 0 p, eq-eqb (c % 3) 1 (omega arith))

pub is_power : (c a b : ℕ) → c % 3 ≡ 2 → node_of c a b ≡ npow (c / 3) (a, b)
unfolding node_of
is_power c a b h = rw (ne_eqb (c % 3) 0 (λ z. omega arith), ne_eqb (c % 3) 1 (λ z. omega arith))

-- ---- the nodes of a side

pub stack_length : (w : List ℕ) (base n : ℕ) → length (stack w base n) ≡ n
unfolding stack
stack_length w base zero = refl
stack_length w base (suc n) = ap suc (stack_length w base n)

pub side_length : (w : List ℕ) (base n : ℕ) → length (side w base n) ≡ n
unfolding side
side_length w base n = length-reverse (stack w base n) ∙ stack_length w base n

pub node_kept : (w v : List ℕ) (p : ℕ) → ((k : ℕ) → p ≤ k → k < p + 3 → get_or v k 0 ≡ get_or w k 0) → node_at v p ≡ node_at w p
unfolding node_at
node_kept w v p h =
    rw (h p (omega arith) (omega arith), h (p + 1) (omega arith) (omega arith), h (p + 2) (omega arith) (omega arith))

-- a stack stands as long as its words do
pub stack_kept : (w v : List ℕ) (base n : ℕ) → ((k : ℕ) → base ≤ k → k < base + 3 * n → get_or v k 0 ≡ get_or w k 0)
    → stack v base n ≡ stack w base n
unfolding stack
stack_kept w v base zero h = refl
stack_kept w v base (suc n) h =
    ap₂ ◌∷◌ (node_kept w v (base + 3 * n) (λ k a b. h k (omega arith) (omega arith)))
    (stack_kept w v base n (λ k a b. h k a (omega arith)))
