-- A side that took a term's nodes holds its normal form, and what a second side amounts to beside it settles whether their marks are the same.
use Prim.Native.Nat.{ℕ}
use mathlib.Core.Path.{◌≡◌, refl, sym, ap, ◌∙◌}
use mathlib.Core.List.{List, [], reverse}
use mathlib.Core.Option.{none, some}
use native.Mathlib.Omega.{arith}
use lib.ListN.{length, length-reverse}
use Rattle.patterns.specs.Term.{var, fun, pow, Node, nodes}
use Rattle.patterns.specs.Edition.{form}
use Rattle.patterns.specs.Formed.{Formed}
use Rattle.patterns.specs.Certificate.{Mark}
use Rattle.patterns.specs.Checks.{OnMark, SameMark}
use Rattle.patterns.specs.Demand.{small, same, weight, Met}
use Rattle.patterns.specs.First.{Exp, Pattern, exponents, one}
use Rattle.patterns.specs.Push.{pushes}
use Rattle.patterns.proofs.Term.{length_nodes}
use Rattle.patterns.proofs.Formed.{nodes_inj, formed_norm}
use Rattle.table.specs.Nodes.{stack, side}
use Rattle.table.specs.Sides.{Stacked, Pushes}
use Rattle.table.specs.Marks.{mark_nodes, form_nodes, Built}
use Rattle.table.specs.Second.{Amounts}
use Rattle.std.specs.Prelude.{Option, Some, None}
use Rattle.table.specs.declared.Outcome.TheVariants.{Same, Other, Full}
use Rattle.table.proofs.Nodes.{side_length}

-- ---- what is built

pub built_empty : (base : ℕ) (w : List ℕ) → Built base none w (Some 0)
unfolding Built mark_nodes side stack
built_empty base w = (omega arith, refl)

turned : (base : ℕ) (ns : List (Node Exp)) (m : Mark Exp) (v : List ℕ) (r : Option ℕ) → reverse ns ≡ form_nodes m → Stacked base ns v r → Built base m v r
unfolding Stacked Built side
turned base ns m v (Some k) e h = (h.0, ap reverse h.1 ∙ e)
turned base ns m v None e h = omega (arith, length-reverse ns, ap length e)

-- nodes that give a normal form, pushed on an empty side
pub built_form : (base : ℕ) (w v : List ℕ) (r : Option ℕ) (m : Mark Exp) (ms : List (Node Exp)) → reverse (pushes exponents [] ms) ≡ form_nodes m
    → Pushes base 0 ms w v r → Built base m v r
unfolding stack
built_form base w v r m ms e p = turned base (pushes exponents [] ms) m v r e p.holds

-- ---- what it settles

form_length : (m : Mark Exp) → length (form_nodes m) ≡ weight one m
unfolding mark_nodes weight
form_length none = refl
form_length (some t) = length_nodes (form one t)

-- 01: "A side whose normal form has more than 1,024 nodes is refused with 16"
pub built_small : (base k : ℕ) (m : Mark Exp) (v : List ℕ) → Built base m v (Some k) → Met one (small m)
unfolding Built Met
built_small base k m v b = omega (arith, form_length m, side_length v base k, ap length b.1, b.0)

pub built_large : (base : ℕ) (m : Mark Exp) (v : List ℕ) → Built base m v None → ¬ (Met one (small m))
unfolding Built Met
built_large base m v b s = omega (arith, form_length m, b)

some_node : (t : Pattern) → [] ≡ nodes t → ⊥
unfolding nodes
some_node (var x) e = let z : ◌≡◌ {A = ℕ} 0 1 = cc in omega arith
some_node (fun f ts) e = let z : ◌≡◌ {A = ℕ} 0 1 = cc in omega arith
some_node (pow s x t) e = let z : ◌≡◌ {A = ℕ} 0 1 = cc in omega arith

nodes_same : (m k : Mark Exp) → SameMark one m k → form_nodes m ≡ form_nodes k
unfolding SameMark
nodes_same m k e = ap mark_nodes e

module _ (ar : ℕ → ℕ) where
  marks_same : (m k : Mark Exp) → OnMark (Formed ar) m → OnMark (Formed ar) k → form_nodes m ≡ form_nodes k → SameMark one m k
  unfolding OnMark SameMark mark_nodes form
  marks_same none none p q e = refl
  marks_same none (some u) p q e = absurd (some_node (form one u) e)
  marks_same (some t) none p q e = absurd (some_node (form one t) (sym e))
  marks_same (some t) (some u) p q e =
      ap some (nodes_inj ar (form one t) (form one u) (formed_norm ar exponents t p) (formed_norm ar exponents u q) e)

  -- a second side of the nodes of k beside the stored ones of m settles whether they are the same
  module _ (base n : ℕ) (m k : Mark Exp) (w : List ℕ) (p : OnMark (Formed ar) m) (q : OnMark (Formed ar) k) (x : Built base m w (Some n)) where
    pub amounts_same : Amounts (side w base n) (form_nodes k) Same → Met one (small k) × Met one (same m k)
    unfolding Amounts Met Built
    amounts_same c = (omega (arith, form_length k, c.0), marks_same m k p q (sym x.1 ∙ c.1))

    pub amounts_other : Amounts (side w base n) (form_nodes k) Other → Met one (small k) × (¬ (Met one (same m k)))
    unfolding Amounts Met Built
    amounts_other c = (omega (arith, form_length k, c.0), λ e. c.1 (x.1 ∙ nodes_same m k e))

pub amounts_full : (stored : List (Node Exp)) (k : Mark Exp) → Amounts stored (form_nodes k) Full → ¬ (Met one (small k))
unfolding Amounts Met
amounts_full stored k c s = omega (arith, form_length k, c)

-- the empty mark beside n stored nodes
pub amounts_none : (w : List ℕ) (base n : ℕ) → n ≡ 0 → Amounts (side w base n) [] Same
unfolding Amounts side stack
amounts_none w base n e = (omega arith, ap (side w base) e)

pub amounts_some : (w : List ℕ) (base n : ℕ) → ¬ (n ≡ 0) → Amounts (side w base n) [] Other
unfolding Amounts
amounts_some w base n d = (omega arith, λ e. d (sym (side_length w base n) ∙ ap length e))
