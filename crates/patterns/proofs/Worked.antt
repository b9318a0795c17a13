-- Worked examples: the cases 1 to 10 of 01's table over terms, lines and trees, and some beside them; where sides part.
use Prim.Native.Nat.{ℕ, zero, suc, ◌<◌}
use mathlib.Core.Path.{◌≡◌, refl, ap, subst⁻¹}
use mathlib.Core.Option.{none, some, some-injective}
use mathlib.Core.List.{[], ◌∷◌}
use native.Mathlib.Omega.{arith}
use lib.ListN.{get_elem?}
use Rattle.patterns.specs.Term.{fill, nvar, nodes}
use Rattle.patterns.specs.Parting.{Parts}
use Rattle.patterns.specs.Certificate.{by}
use Rattle.patterns.specs.Edition.{at, reindex, form, Same}
use Rattle.patterns.specs.Checks.{Lines, Closes, Good}
use Rattle.patterns.specs.Reason.{closing_place}
use Rattle.patterns.specs.Demand.{small, same, weight, Met, parting}
use Rattle.patterns.specs.Judge.{accept, refuse, judge}
use Rattle.patterns.specs.First.{Exp, ex, Pattern, one}
use Rattle.patterns.specs.Examples.{x, y, s, r, o, f, while, w_book, gt_base, gt_line, add_base, add_line, while_line, certificate}
use Rattle.patterns.proofs.Compute.{compute}
use Rattle.patterns.proofs.Judged.{accepts_exactly}

-- ---- 01's table: terms

pub case_1 : form one (s 1 0 (s 1 1 x)) ≡ s 2 1 x
unfolding compute
case_1 = refl

pub case_2 : form one (reindex one (0, 0) (s 1 0 x)) ≡ x
unfolding compute
case_2 = refl

pub case_3 : form one (reindex one (0, 0) (s 0 1 (r 1 0 (s 0 1 x)))) ≡ s 0 2 x
unfolding compute
case_3 = refl

pub case_4 : fill (by ((0, y) ∷ (1, x) ∷ [])) (f x y) ≡ f y x
unfolding compute
case_4 = refl

pub case_5 : reindex one (3, 2) (s 2 1 x) ≡ s 6 5 x
unfolding compute
case_5 = refl

-- ---- the certificate of cases 9 and 10, as a tree

pub case_9 : judge one w_book (certificate 1) ≡ accept 4 (record { k = 1; α = 1 })
unfolding compute
case_9 = refl

pub case_10 : judge one w_book (certificate 0) ≡ refuse (record { number = 15; w = closing_place; a = 4; b = 1 })
unfolding compute
case_10 = refl

-- case 9's certificate meets every check of 01
pub case_9_good : Good one w_book (certificate 1)
case_9_good = ((accepts_exactly one w_book (certificate 1) 4 (record { k = 1; α = 1 })).0 case_9).0

-- case 10's does not close
pub case_10_open : ¬ (Closes one while_line.claim (certificate 0).closing)
unfolding compute
case_10_open c =
    let p : while (s 2 1 x) (s 1 1 o) ≡ while (s 2 2 x) (s 1 1 o) =
    subst⁻¹ (λ (t : Pattern). form one (reindex one (1, 0) t) ≡ while (s 2 2 x) (s 1 1 o))
    (some-injective _ _ c.not_empty) c.loops in
    let z : ◌≡◌ {A = ℕ} 1 2 = ap (λ (e : Exp). e.1) (exponents_of p) in
    omega arith
  where
    exponents_of : while (s 2 1 x) (s 1 1 o) ≡ while (s 2 2 x) (s 1 1 o) → ex 2 1 ≡ ex 2 2
    exponents_of p = cc

-- ---- its lines

pub case_8 : Lines one w_book [] (gt_base ∷ gt_line ∷ add_base ∷ add_line 2 ∷ while_line ∷ [])
case_8 = case_9_good.lines

pub case_6 : Lines one w_book [] (gt_base ∷ gt_line ∷ [])
unfolding Lines
case_6 = (case_8.0, (case_8.1.0, tt))

pub case_7 : Lines one w_book [] (add_base ∷ add_line 0 ∷ [])
unfolding compute
case_7 = (
  record { rule = _; listed = refl; head = refl; stop = refl },
  (
    record {
      base = _;
      earlier = refl;
      rule = _;
      listed = refl;
      only_call = _;
      only = refl;
      base_left = refl;
      base_right = refl;
      head = refl;
      falls = refl;
      level = tt;
    },
    tt,
  ),
)

-- ---- beside the table

-- 01: "Agreement at 1 and at 2 is enough; agreement at 0 is not": case 3's term and its normal form there
pub zero_is_not_enough :
    (at one 0 (s 0 1 (r 1 0 (s 0 1 x))) ≡ at one 0 (s 0 2 x)) × ¬ (Same one (s 0 1 (r 1 0 (s 0 1 x))) (s 0 2 x))
unfolding compute
zero_is_not_enough = (refl, λ p. let z : ◌≡◌ {A = ℕ} 0 1 = cc in omega arith)

-- 01, "Closing", "Part 0: the line's right is not empty, else 14": the same lines, closed on line 1
pub empty_right_gets_14 :
    judge one w_book
    (record {
      lines = (certificate 1).lines;
      closing = record { line = 1; pace = record { k = 1; α = 1 }; fills = [] };
    })
    ≡ refuse (record { number = 14; w = closing_place; a = 1; b = 0 })
unfolding compute
empty_right_gets_14 = refl

-- 01: "The empty mark has no nodes"
pub empty_mark_weighs_nothing : weight one none ≡ 0
unfolding compute
empty_mark_weighs_nothing = refl

-- 01: "A side whose normal form has more than 1,024 nodes": case 1's term has three nodes, its normal form two
pub weighed_in_normal_form : weight one (some (s 1 0 (s 1 1 x))) ≡ 2
unfolding compute
weighed_in_normal_form = refl

-- a tree of the symbol f over x, n levels of it: 2 ^ (n + 1) - 1 nodes
unfoldable pub levels : ℕ → Pattern
levels zero = x
levels (suc n) = f (levels n) (levels n)

-- a side of 1,024 nodes is small, and one of 1,025 is not
pub small_to_1024 : Met one (small (some (s 0 1 (levels 9)))) × ¬ (Met one (small (some (r 0 1 (s 0 1 (levels 9))))))
unfolding compute levels
small_to_1024 = (omega arith, λ h. omega arith)

-- ---- where sides part: 02, Ticket 3

abbrev parts_at : Pattern → Pattern → ℕ → Type 0
parts_at t u c = parting one (same (some t) (some u)) ≡ c

-- "in preorder [..] and counted from 0, of the first node that differs": f(x, y) and f(y, x) differ at 1 and at 2
pub first_of_two : parts_at (f x y) (f y x) 1
unfolding compute
first_of_two = refl

pub first_of_two_parts : Parts (f x y) (f y x) 1
unfolding compute
first_of_two_parts = record {
  before = go;
  here = nvar 0;
  there = nvar 1;
  first = refl;
  second = refl;
  differ = λ e. let z : ◌≡◌ {A = ℕ} 0 1 = cc in omega arith;
}
  where
    go : (i : ℕ) → i < 1 → get_elem? (nodes (f x y)) i ≡ get_elem? (nodes (f y x)) i
    go zero z = refl
    go (suc i) z = absurd (omega arith)

-- at the root
pub at_the_root : parts_at (f x y) x 0
unfolding compute
at_the_root = refl

-- "of the normal forms": the first term is written with a node more than the second, and has the same power; x and y are number 1
pub in_the_normal_forms : parts_at (s 1 0 (s 1 1 x)) (s 2 1 y) 1
unfolding compute
in_the_normal_forms = refl

-- a power that vanishes is not counted
pub behind_what_vanishes : parts_at (reindex one (0, 0) (f (s 1 0 x) x)) (f x y) 2
unfolding compute
behind_what_vanishes = refl

-- a power is one node: its symbol, a or b may differ
pub symbol_differs : parts_at (f x (s 1 1 y)) (f x (r 1 1 y)) 2
unfolding compute
symbol_differs = refl

pub a_differs : parts_at (f x (s 1 1 y)) (f x (s 2 1 y)) 2
unfolding compute
a_differs = refl

pub b_differs : parts_at (f x (s 1 1 y)) (f x (s 1 2 y)) 2
unfolding compute
b_differs = refl

-- "if only one side is the empty mark, [..] C is 0"
pub beside_the_empty_mark : (parting one (same none (some (f x y))) ≡ 0) × (parting one (same (some (f x y)) none) ≡ 0)
unfolding compute
beside_the_empty_mark = (refl, refl)
