-- No power of a term has a number above the largest of its nodes.
use Prim.Native.Nat.{ℕ, ◌≤◌}
use mathlib.Core.List.{List, [], ◌∷◌, ◌++◌}
use mathlib.Core.Logic.{ite}
use native.Mathlib.Decide.{dec_le}
use native.Mathlib.Omega.{arith}
use Rattle.patterns.specs.Term.{Terms, var, fun, pow, nil, cons, All, All*, Node, nvar, nfun, npow, nodes, nodes*}
use Rattle.patterns.specs.First.{Exp, Pattern}
use Rattle.covering.specs.Search.{number, larger, largest}

both_below : (n m k : ℕ) → larger n m ≤ k → (n ≤ k) × (m ≤ k)
unfolding larger
both_below n m k = go (dec_le n m)
  where
    go : (d : Dec (n ≤ m)) → ite d m n ≤ k → (n ≤ k) × (m ≤ k)
    go (yes h) l = (omega arith, l)
    go (no h) l = (l, omega arith)

larger_below : (n m k : ℕ) → n ≤ k → m ≤ k → larger n m ≤ k
unfolding larger
larger_below n m k p q = go (dec_le n m)
  where
    go : (d : Dec (n ≤ m)) → ite d m n ≤ k
    go (yes h) = q
    go (no h) = p

first_below : (ns ms : List (Node Exp)) (k : ℕ) → largest (ns ++ ms) ≤ k → largest ns ≤ k
unfolding largest
first_below [] ms k l = omega arith
first_below (nvar x ∷ ns) ms k l = first_below ns ms k l
first_below (nfun f ∷ ns) ms k l = first_below ns ms k l
first_below (npow s e ∷ ns) ms k l =
    let b = both_below (number e) (largest (ns ++ ms)) k l in
    larger_below (number e) (largest ns) k b.0 (first_below ns ms k b.1)

rest_below : (ns ms : List (Node Exp)) (k : ℕ) → largest (ns ++ ms) ≤ k → largest ms ≤ k
unfolding largest
rest_below [] ms k l = l
rest_below (nvar x ∷ ns) ms k l = rest_below ns ms k l
rest_below (nfun f ∷ ns) ms k l = rest_below ns ms k l
rest_below (npow s e ∷ ns) ms k l = rest_below ns ms k (both_below (number e) (largest (ns ++ ms)) k l).1

mutual
  unfolding nodes All largest

  all_below : (c : Pattern) (k : ℕ) → largest (nodes c) ≤ k → All (λ e. number e ≤ k) c
  all_below (var x) k l = tt
  all_below (fun f ts) k l = all_below* ts k l
  all_below (pow s e t) k l =
      let b = both_below (number e) (largest (nodes t)) k l in
      (b.0, all_below t k b.1)

  all_below* : (cs : Terms Exp) (k : ℕ) → largest (nodes* cs) ≤ k → All* (λ e. number e ≤ k) cs
  all_below* nil k l = tt
  all_below* (cons t ts) k l = (
    all_below t k (first_below (nodes t) (nodes* ts) k l),
    all_below* ts k (rest_below (nodes t) (nodes* ts) k l),
  )

pub all_largest : (c : Pattern) → All (λ e. number e ≤ largest (nodes c)) c
all_largest c = all_below c (largest (nodes c)) (omega arith)

-- and it is no larger than they allow
largest_append : (ns ms : List (Node Exp)) (k : ℕ) → largest ns ≤ k → largest ms ≤ k → largest (ns ++ ms) ≤ k
unfolding largest
largest_append [] ms k p q = q
largest_append (nvar x ∷ ns) ms k p q = largest_append ns ms k p q
largest_append (nfun f ∷ ns) ms k p q = largest_append ns ms k p q
largest_append (npow s e ∷ ns) ms k p q =
    let b = both_below (number e) (largest ns) k p in
    larger_below (number e) (largest (ns ++ ms)) k b.0 (largest_append ns ms k b.1 q)

mutual
  unfolding nodes All largest

  below_all : (c : Pattern) (k : ℕ) → All (λ e. number e ≤ k) c → largest (nodes c) ≤ k
  below_all (var x) k a = omega arith
  below_all (fun f ts) k a = below_all* ts k a
  below_all (pow s e t) k a = larger_below (number e) (largest (nodes t)) k a.0 (below_all t k a.1)

  below_all* : (cs : Terms Exp) (k : ℕ) → All* (λ e. number e ≤ k) cs → largest (nodes* cs) ≤ k
  below_all* nil k a = omega arith
  below_all* (cons t ts) k a = largest_append (nodes t) (nodes* ts) k (below_all t k a.0) (below_all* ts k a.1)

-- 02: "a call's exponents end there"
pub largest_small : (c : Pattern) → All (λ e. number e ≤ 4095) c → largest (nodes c) ≤ 4095
largest_small c a = below_all c 4095 a
