-- What is pushed above a place where nothing merges: it is what it is on an empty stack, and what stands below stays.
use Prim.Native.Nat.{ℕ, zero, suc, ◌+◌, ◌*◌, ◌-◌, ◌%◌, ◌≤◌, ◌<◌}
use mathlib.Core.Path.{◌≡◌, refl, sym, ap, ap₂, subst, ◌∙◌}
use mathlib.Core.Logic.{ite}
use mathlib.Core.List.{List, [], ◌∷◌, ◌++◌}
use native.Mathlib.Decide.{ℕ_discrete}
use native.Mathlib.Numerals.{add-one}
use native.Mathlib.Omega.{arith}
use lib.Dec.{eqb}
use lib.ListN.{length, get_or, length-append}
use borrow.Author.Tests.{eqb-true}
use Rattle.patterns.specs.Term.{Node, nvar, nfun, npow}
use Rattle.patterns.specs.First.{Exp, exponents}
use Rattle.patterns.specs.Push.{put, push, pushes}
use Rattle.table.specs.Nodes.{node_at, stack, top_code}
use Rattle.table.specs.Answer.{Assures}
use Rattle.table.specs.Repeats.{Closed, part}
use Rattle.table.proofs.Nodes.{tells, stack_length}
use Rattle.table.proofs.Pushing.{plain_rests}

-- ---- pushes above a closed place

put_over : (s : ℕ) (e : Exp) (ys zs : List (Node Exp)) → Closed zs → put exponents s e (ys ++ zs) ≡ put exponents s e ys ++ zs
unfolding put
put_over s e [] zs c = c s e
put_over s e (nvar x ∷ ys) zs c = refl
put_over s e (nfun f ∷ ys) zs c = refl
put_over s e (npow r d ∷ ys) zs c = go (ℕ_discrete r s)
  where
    go : (q : Dec (r ≡ s))
        → ite q (npow r (exponents.add d e) ∷ (ys ++ zs)) (npow s e ∷ npow r d ∷ (ys ++ zs))
        ≡ ite q (npow r (exponents.add d e) ∷ ys) (npow s e ∷ npow r d ∷ ys) ++ zs
    go (yes p) = refl
    go (no p) = refl

push_over : (ys zs : List (Node Exp)) (m : Node Exp) → Closed zs → push exponents (ys ++ zs) m ≡ push exponents ys m ++ zs
unfolding push
push_over ys zs (nvar x) c = refl
push_over ys zs (nfun f) c = refl
push_over ys zs (npow s e) c = go (exponents.none? e)
  where
    go : (q : Dec (e ≡ exponents.none)) → ite q (ys ++ zs) (put exponents s e (ys ++ zs)) ≡ ite q ys (put exponents s e ys) ++ zs
    go (yes p) = refl
    go (no p) = put_over s e ys zs c

pub pushes_over : (ys zs ms : List (Node Exp)) → Closed zs → pushes exponents (ys ++ zs) ms ≡ pushes exponents ys ms ++ zs
unfolding pushes
pushes_over ys zs [] c = refl
pushes_over ys zs (m ∷ ms) c = ap (λ l. pushes exponents l ms) (push_over ys zs m c) ∙ pushes_over (push exponents ys m) zs ms c

-- ---- closed stacks

pub closed_none : Closed []
unfolding put
closed_none s e = refl

pub closed_both : (ys zs : List (Node Exp)) → Closed ys → Closed zs → Closed (ys ++ zs)
closed_both ys zs c d s e = put_over s e ys zs d ∙ ap (λ l. l ++ zs) (c s e)

like_merges : (r : ℕ) (d : Exp) (ns : List (Node Exp)) → ¬ Closed (npow r d ∷ ns)
unfolding put
like_merges r d ns c = go (ℕ_discrete r r) (c r d)
  where
    go : (q : Dec (r ≡ r)) → ite q (npow r (exponents.add d d) ∷ ns) (npow r d ∷ npow r d ∷ ns) ≡ npow r d ∷ npow r d ∷ ns → ⊥
    go (yes p) e = omega (arith, ap length e)
    go (no p) e = p refl

pub closed_top : (ys zs : List (Node Exp)) → Closed (ys ++ zs) → Closed ys
unfolding put
closed_top [] zs c s e = refl
closed_top (nvar x ∷ ys) zs c s e = refl
closed_top (nfun f ∷ ys) zs c s e = refl
closed_top (npow r d ∷ ys) zs c s e = absurd (like_merges r d (ys ++ zs) c)

-- by the word on top
pub closed_plain : (w : List ℕ) (base n : ℕ) → ¬ (top_code w base n % 3 ≡ 2) → Closed (stack w base n)
unfolding top_code stack node_at
closed_plain w base zero h = closed_none
closed_plain w base (suc n) h = plain_rests (stack w base n) (tells _ _ _) h

-- ---- some of a side's nodes

pub part_length : (w : List ℕ) (base start k : ℕ) → length (part w base start k) ≡ k
unfolding part
part_length w base start zero = refl
part_length w base start (suc k) = ap suc (part_length w base start k)

pub stack_part : (w : List ℕ) (base start k : ℕ) → stack w base (start + k) ≡ part w base start k ++ stack w base start
unfolding part stack
stack_part w base start zero = let same : start + 0 ≡ start = omega arith in ap (stack w base) same
stack_part w base start (suc k) =
    let up : start + suc k ≡ suc (start + k) = omega arith in
    ap (stack w base) up ∙ ap (λ l. node_at w (base + 3 * (start + k)) ∷ l) (stack_part w base start k)

pub node_same : (v w : List ℕ) (base n k : ℕ) → stack v base n ≡ stack w base n → k < n → node_at v (base + 3 * k) ≡ node_at w (base + 3 * k)
unfolding stack
node_same v w base zero k e l = absurd (omega arith)
node_same v w base (suc n) k e l = go (ℕ_discrete k n) (λ r. node_same v w base n k (cc) r)
  where
    go : Dec (k ≡ n) → (k < n → node_at v (base + 3 * k) ≡ node_at w (base + 3 * k)) → node_at v (base + 3 * k) ≡ node_at w (base + 3 * k)
    go (yes p) r = rw p (cc)
    go (no p) r = r (omega arith)

pub part_same : (v w : List ℕ) (base n start k : ℕ) → stack v base n ≡ stack w base n → start + k ≤ n → part v base start k ≡ part w base start k
unfolding part
part_same v w base n start zero e l = refl
part_same v w base n start (suc k) e l =
    ap₂ ◌∷◌ (node_same v w base n (start + k) e (omega arith)) (part_same v w base n start k e (omega arith))

-- ---- a stack in two parts

module _ (w : List ℕ) (base : ℕ) where
  height : (k : ℕ) (xs zs : List (Node Exp)) → stack w base k ≡ xs ++ zs → k ≡ length zs + length xs
  height k xs zs e = omega (arith, stack_length w base k, ap length e, length-append xs zs)

  -- what is below
  pub stack_below : (k : ℕ) (xs zs : List (Node Exp)) → stack w base k ≡ xs ++ zs → stack w base (length zs) ≡ zs
  unfolding stack
  stack_below k [] zs e = let all : length zs ≡ k = omega (arith, height k [] zs e) in ap (stack w base) all ∙ e
  stack_below zero (x ∷ xs) zs e = absurd (omega (arith, ap length e))
  stack_below (suc k) (x ∷ xs) zs e = stack_below k xs zs (cc)

  -- what is above
  pub part_above : (k : ℕ) (xs zs : List (Node Exp)) → stack w base k ≡ xs ++ zs → part w base (length zs) (length xs) ≡ xs
  unfolding stack part
  part_above k [] zs e = refl
  part_above zero (x ∷ xs) zs e = absurd (omega (arith, ap length e))
  part_above (suc k) (x ∷ xs) zs e =
      let rest : stack w base k ≡ xs ++ zs = cc in
      let top : node_at w (base + 3 * k) ≡ x = cc in
      ap₂ ◌∷◌ (subst (λ i. node_at w (base + 3 * i) ≡ x) (height k xs zs rest) top) (part_above k xs zs rest)

  -- what was pushed on a closed stack
  pub part_pushed : (n k : ℕ) (ns ms : List (Node Exp)) → n ≡ length ns → Closed ns → stack w base k ≡ pushes exponents ns ms
      → part w base n (k - n) ≡ pushes exponents [] ms
  part_pushed n k ns ms l c e =
      let new = pushes exponents [] ms in
      let whole : stack w base k ≡ new ++ ns = e ∙ pushes_over [] ns ms c in
      let count : k - n ≡ length new = omega (arith, height k new ns whole) in
      ap₂ (part w base) l count ∙ part_above k new ns whole

-- ---- the same nodes at two places

pub part_none : (w : List ℕ) (base n start : ℕ) → part w base n 0 ≡ part w base start 0
unfolding part
part_none w base n start = refl

pub part_more : (w : List ℕ) (base n start k : ℕ) → part w base n k ≡ part w base start k
    → node_at w (base + 3 * (n + k)) ≡ node_at w (base + 3 * (start + k)) → part w base n (k + 1) ≡ part w base start (k + 1)
unfolding part
part_more w base n start k e f = subst (λ i. part w base n i ≡ part w base start i) (sym (add-one k)) (ap₂ ◌∷◌ f e)

pub part_all : (w : List ℕ) (base n start k count : ℕ) → k ≡ count → part w base n k ≡ part w base start k → part w base n count ≡ part w base start count
part_all w base n start k count l e = subst (λ i. part w base n i ≡ part w base start i) l e

pub node_again : (w : List ℕ) (p q : ℕ) → get_or w p 0 ≡ get_or w q 0 → get_or w (p + 1) 0 ≡ get_or w (q + 1) 0 → get_or w (p + 2) 0 ≡ get_or w (q + 2) 0
    → node_at w p ≡ node_at w q
unfolding node_at
node_again w p q x y z = rw (x, y, z)

-- where the first two words of two nodes are the same, the third decides
pub third_again : (w : List ℕ) (p q : ℕ) → get_or w p 0 ≡ get_or w q 0 → get_or w (p + 1) 0 ≡ get_or w (q + 1) 0
    → Assures (node_at w p ≡ node_at w q) (eqb (get_or w (p + 2) 0) (get_or w (q + 2) 0))
third_again w p q x y = record { so = λ z. node_again w p q x y (eqb-true _ _ z) }
