-- What is left of a call from a node on: node after node, and as long as its words stand.
use Prim.Native.Nat.{ℕ, zero, suc, ◌+◌, ◌*◌, ◌-◌, ◌≤◌, ◌<◌}
use mathlib.Core.Path.{◌≡◌, refl, sym, ◌∙◌, ap, ap₂}
use mathlib.Core.List.{List, [], ◌∷◌, ◌++◌, reverse-cons}
use native.Mathlib.Omega.{arith}
use lib.ListN.{length, get_or}
use Rattle.patterns.specs.Term.{Node, nvar, nfun, npow}
use Rattle.patterns.specs.First.{Exp}
use Rattle.patterns.specs.Push.{retag}
use Rattle.covering.specs.Left.{Left, places, taken, behind}
use Rattle.covering.specs.Search.{number}
use Rattle.table.specs.Places.{NODES, FIRST, ENDS, BOUND}
use Rattle.table.specs.Nodes.{node_at, stack, side}
use Rattle.table.proofs.Nodes.{node_kept}
use Rattle.calls.specs.Standing.{counted, counted_node, nodes_from, rest, less, lessened, end_of, Spans, Ends}

-- ---- node after node

pub rest_node : (w : List ℕ) (k j : ℕ) → j < k → rest w k j ≡ counted_node w j ∷ rest w k (j + 1)
unfolding rest nodes_from
rest_node w k j h = ap (nodes_from w j) p ∙ ap₂ (λ i n. counted_node w j ∷ nodes_from w i n) q r
  where
    p : k - j ≡ suc (k - j - 1)
    p = omega arith

    q : suc j ≡ j + 1
    q = omega arith

    r : k - j - 1 ≡ k - (j + 1)
    r = omega arith

pub rest_end : (w : List ℕ) (k j : ℕ) → k ≤ j → rest w k j ≡ []
unfolding rest nodes_from
rest_end w k j h = let p : k - j ≡ 0 = omega arith in ap (nodes_from w j) p

pub nodes_split : (w : List ℕ) (n m j : ℕ) → nodes_from w j (n + m) ≡ nodes_from w j n ++ nodes_from w (j + n) m
unfolding nodes_from
nodes_split w zero m j =
    let p : zero + m ≡ m = omega arith in let q : j ≡ j + 0 = omega arith in ap₂ (nodes_from w) q p
nodes_split w (suc n) m j =
    let p : suc n + m ≡ suc (n + m) = omega arith in
    let q : suc j + n ≡ j + suc n = omega arith in
    ap (nodes_from w j) p ∙ ap (◌∷◌ (counted_node w j)) (nodes_split w n m (suc j) ∙ ap (λ i. nodes_from w (suc j) n ++ nodes_from w i m) q)

pub nodes_length : (w : List ℕ) (j n : ℕ) → length (nodes_from w j n) ≡ n
unfolding nodes_from
nodes_length w j zero = refl
nodes_length w j (suc n) = ap suc (nodes_length w (suc j) n)

-- ---- nothing taken off

pub less_none : (m : Node ℕ) → less 0 m ≡ m
unfolding less
less_none (nvar x) = refl
less_none (nfun f) = refl
less_none (npow s n) = let p : n - 0 ≡ n = omega arith in ap (npow s) p

pub lessened_none : (ms : Left) → lessened 0 ms ≡ ms
unfolding lessened
lessened_none [] = refl
lessened_none (m ∷ ms) = ap (λ n. n ∷ ms) (less_none m)

-- what is taken off a node changes nothing of what follows it
places_less : (ar : ℕ → ℕ) (n : ℕ) (m : Node ℕ) → places ar (less n m) ≡ places ar m
unfolding places less
places_less ar n (nvar x) = refl
places_less ar n (nfun f) = refl
places_less ar n (npow s m) = refl

pub taken_lessened : (ar : ℕ → ℕ) (n : ℕ) (ms : Left) → taken ar (lessened n ms) 1 ≡ lessened n (taken ar ms 1)
unfolding lessened taken
taken_lessened ar n [] = refl
taken_lessened ar n (m ∷ ms) = ap (λ k. less n m ∷ taken ar ms (k + 0)) (places_less ar n m)

pub behind_lessened : (ar : ℕ → ℕ) (n : ℕ) (ms : Left) → behind ar (lessened n ms) 1 ≡ behind ar ms 1
unfolding lessened behind
behind_lessened ar n [] = refl
behind_lessened ar n (m ∷ ms) = ap (λ k. behind ar ms (k + 0)) (places_less ar n m)

-- ---- the nodes of a side

pub retag_append : {E F : Type 0} (h : E → F) (ns ms : List (Node E)) → retag h (ns ++ ms) ≡ retag h ns ++ retag h ms
unfolding retag
retag_append h [] ms = refl
retag_append h (nvar x ∷ ns) ms = ap (◌∷◌ (nvar x)) (retag_append h ns ms)
retag_append h (nfun f ∷ ns) ms = ap (◌∷◌ (nfun f)) (retag_append h ns ms)
retag_append h (npow s e ∷ ns) ms = ap (◌∷◌ (npow s (h e))) (retag_append h ns ms)

retag_single : (m : Node Exp) → retag number (m ∷ []) ≡ counted m ∷ []
unfolding retag counted
retag_single (nvar x) = refl
retag_single (nfun f) = refl
retag_single (npow s e) = refl

nodes_last : (w : List ℕ) (n : ℕ) → nodes_from w 0 (suc n) ≡ nodes_from w 0 n ++ (counted_node w n ∷ [])
unfolding nodes_from
nodes_last w n =
    let p : suc n ≡ n + 1 = omega arith in
    let q : 0 + n ≡ n = omega arith in
    ap (nodes_from w 0) p ∙ nodes_split w n 1 0 ∙ ap (λ i. nodes_from w 0 n ++ (counted_node w i ∷ [])) q

pub side_nodes : (w : List ℕ) (k : ℕ) → retag number (side w FIRST k) ≡ nodes_from w 0 k
unfolding side stack nodes_from retag counted_node
side_nodes w zero = refl
side_nodes w (suc k) =
    ap (retag number) (reverse-cons (node_at w (FIRST + 3 * k)) (stack w FIRST k))
    ∙ retag_append number (side w FIRST k) (node_at w (FIRST + 3 * k) ∷ [])
    ∙ ap₂ ◌++◌ (side_nodes w k) (retag_single (node_at w (FIRST + 3 * k)))
    ∙ sym (nodes_last w k)

-- ---- as long as its words stand

module _ (w v : List ℕ) (same : (i : ℕ) → i < ENDS → get_or v i 0 ≡ get_or w i 0) where
  pub nodes_kept : (n j : ℕ) → n ≤ NODES - j → nodes_from v j n ≡ nodes_from w j n
  unfolding nodes_from counted_node
  nodes_kept zero j h = refl
  nodes_kept (suc n) j h =
      ap₂ (λ m ms. counted m ∷ ms) (node_kept w v (FIRST + 3 * j) (λ i a b. same i (omega arith))) (nodes_kept n (suc j) (omega arith))

  pub rest_kept : (k j : ℕ) → k ≤ NODES → rest v k j ≡ rest w k j
  unfolding rest
  rest_kept k j h = nodes_kept (k - j) j (omega arith)

-- the words that say where terms end stand too
module _ (w v : List ℕ) (size : length v ≡ length w) (same : (i : ℕ) → i < BOUND → get_or v i 0 ≡ get_or w i 0) where
  end_kept : (i : ℕ) → i < NODES → end_of v i ≡ end_of w i
  unfolding end_of
  end_kept i h = same (ENDS + i) (omega arith)

  pub spans_kept : {k j : ℕ} → Spans w k j → Spans v k j
  spans_kept {k} {j} s = record {
    long = omega (arith, s.long);
    few = s.few;
    after = λ i a b. omega (arith, s.few, s.after i a b, end_kept i (omega (arith, s.few)));
    within = λ i a b. omega (arith, s.few, s.within i a b, end_kept i (omega (arith, s.few)));
  }

  pub ends_kept : {ar : ℕ → ℕ} {k j : ℕ} → k ≤ NODES → Ends ar w k j → Ends ar v k j
  ends_kept {ar} {k} few e = record {
    each = λ i a b.
        ap (λ ms. behind ar ms 1) (stands i) ∙ e.each i a b ∙ sym (stands (end_of w i)) ∙ ap (rest v k) (sym (end_kept i (omega arith)));
  }
    where
      stands : (i : ℕ) → rest v k i ≡ rest w k i
      stands i = rest_kept w v (λ n h. same n (omega arith)) k i few
