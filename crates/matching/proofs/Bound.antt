-- The bindings that the table tells: a variable bound, and what stands as long as its words do.
use Prim.Native.Nat.{ℕ, ◌+◌, ◌-◌, ◌≤◌, ◌<◌}
use mathlib.Core.Path.{◌≡◌, sym, ◌∙◌, ap, ap₂}
use mathlib.Core.Logic.{◌≢◌, ite}
use mathlib.Core.List.{List, reverse}
use mathlib.Core.Bool.{cond}
use mathlib.Core.Option.{none, some}
use native.Mathlib.Decide.{ℕ_discrete}
use native.Mathlib.Omega.{arith}
use lib.ListN.{length, get_or, set, length-set}
use lib.Dec.{eqb}
use lib.Seq.{get_or-set_other}
use borrow.Author.Tests.{eq-eqb, ne_eqb}
use Rattle.covering.specs.Left.{Left, taken}
use Rattle.covering.specs.Walk.{with_term}
use Rattle.table.specs.Places.{WORDS, NODES, FIRST, ENDS, BOUND, OFF}
use Rattle.table.specs.Nodes.{side}
use Rattle.table.specs.Sides.{Kept}
use Rattle.table.proofs.Nodes.{stack_kept}
use Rattle.instances.specs.Fillings.{entry}
use Rattle.instances.proofs.Entries.{entry_here, entry_other, entry_same}
use Rattle.calls.specs.Standing.{lessened, left_at}
use Rattle.calls.specs.declared.Place.{Place}
use Rattle.calls.proofs.Standing.{rest_kept}
use Rattle.matching.specs.Bound.{term_by, bindings}

-- ---- what the words of the bindings leave alone

-- the nodes of the call stand as long as the words below ENDS do
pub side_kept : (w v : List ℕ) (k : ℕ) → k ≤ NODES → ((i : ℕ) → i < ENDS → get_or v i 0 ≡ get_or w i 0) → side v FIRST k ≡ side w FIRST k
unfolding side
side_kept w v k few same = ap reverse (stack_kept w v FIRST k (λ i a b. same i (omega arith)))

module _ {w v : List ℕ} (kept : Kept BOUND 128 w v) where
  pub left_kept : {k : ℕ} → k ≤ NODES → (p : Place) → left_at v k p ≡ left_at w k p
  unfolding left_at
  left_kept {k} few p = ap (lessened p.used) (rest_kept w v (λ i h. kept.low i (omega arith)) k p.node few)

  pub term_kept : {k : ℕ} → k ≤ NODES → (ar : ℕ → ℕ) (word off : ℕ) → term_by ar v k word off ≡ term_by ar w k word off
  unfolding term_by
  term_kept few ar word off = ap (λ (ms : Left). cond (eqb word 0) none (some (taken ar ms 1))) (left_kept few _)

-- ---- no variable is bound

pub unbound_term : (ar : ℕ → ℕ) (w : List ℕ) (k word off : ℕ) → word ≡ 0 → term_by ar w k word off ≡ none
unfolding term_by
unbound_term ar w k word off z = rw (eq-eqb word 0 z)

pub bound_term : (ar : ℕ → ℕ) (w : List ℕ) (k word off : ℕ) → word ≢ 0
    → term_by ar w k word off ≡ some (taken ar (left_at w k (record { node = word - 1; used = off })) 1)
unfolding term_by
bound_term ar w k word off z = rw (ne_eqb word 0 z)

pub unbound : (ar : ℕ → ℕ) (w : List ℕ) (k : ℕ) → ((x : ℕ) → entry w BOUND x ≡ 0) → bindings ar w k ≡ λ x. none
unfolding bindings
unbound ar w k z = λ i x. unbound_term ar w k (entry w BOUND x) (entry w OFF x) (z x) i

-- ---- the variable x takes the term at p

abbrev begun : List ℕ → ℕ → Place → List ℕ
begun w x p = set w (BOUND + x) (p.node + 1)

abbrev pub taking : List ℕ → ℕ → Place → List ℕ
taking w x p = set (begun w x p) (OFF + x) p.used

module _ (w : List ℕ) (k x : ℕ) (p : Place) (long : WORDS ≤ length w) (few : k ≤ NODES) (low : x < 64) where
  pub taking_kept : Kept BOUND 128 w (taking w x p)
  taking_kept = record {
    size = length-set (begun w x p) (OFF + x) p.used ∙ length-set w (BOUND + x) (p.node + 1);
    low = λ i h.
        get_or-set_other (begun w x p) (OFF + x) i p.used 0 (λ z. omega arith)
        ∙ get_or-set_other w (BOUND + x) i (p.node + 1) 0 (λ z. omega arith);
    high = λ i h.
        get_or-set_other (begun w x p) (OFF + x) i p.used 0 (λ z. omega arith)
        ∙ get_or-set_other w (BOUND + x) i (p.node + 1) 0 (λ z. omega arith);
  }

  -- each write leaves the other 64 words alone
  bound_same : (y : ℕ) → entry (taking w x p) BOUND y ≡ entry (begun w x p) BOUND y
  bound_same = entry_same BOUND (begun w x p) (taking w x p) (λ i a b. get_or-set_other (begun w x p) (OFF + x) i p.used 0 (λ z. omega arith))

  off_same : (y : ℕ) → entry (begun w x p) OFF y ≡ entry w OFF y
  off_same = entry_same OFF w (begun w x p) (λ i a b. get_or-set_other w (BOUND + x) i (p.node + 1) 0 (λ z. omega arith))

  room : OFF + 64 ≤ length (begun w x p)
  room = omega (arith, length-set w (BOUND + x) (p.node + 1))

  each : (ar : ℕ → ℕ) (y : ℕ) (d : Dec (x ≡ y)) → bindings ar (taking w x p) k y ≡ ite d (some (taken ar (left_at w k p) 1)) (bindings ar w k y)
  unfolding bindings term_by
  each ar y (yes e) =
      let here : entry (taking w x p) BOUND y ≡ p.node + 1 =
      ap (entry (taking w x p) BOUND) (sym e) ∙ bound_same x ∙ entry_here w BOUND x (p.node + 1) low (omega arith) in
      let off : entry (taking w x p) OFF y ≡ p.used = ap (entry (taking w x p) OFF) (sym e) ∙ entry_here (begun w x p) OFF x p.used low room in
      let back : p.node + 1 - 1 ≡ p.node = omega arith in
      ap₂ (term_by ar (taking w x p) k) here off
      ∙ bound_term ar (taking w x p) k (p.node + 1) p.used (λ z. omega arith)
      ∙ ap (λ (n : ℕ). some (taken ar (left_at (taking w x p) k (record { node = n; used = p.used })) 1)) back
      ∙ ap (λ (ms : Left). some (taken ar ms 1)) (left_kept taking_kept few p)
  each ar y (no e) =
      ap₂ (term_by ar (taking w x p) k)
      (bound_same y ∙ entry_other w BOUND x (p.node + 1) low y (λ z. e (sym z)))
      (entry_other (begun w x p) OFF x p.used low y (λ z. e (sym z)) ∙ off_same y)
      ∙ term_kept taking_kept few ar (entry w BOUND y) (entry w OFF y)

  pub taking_bound : (ar : ℕ → ℕ) → bindings ar (taking w x p) k ≡ with_term x (taken ar (left_at w k p) 1) (bindings ar w k)
  unfolding with_term
  taking_bound ar = λ i y. each ar y (ℕ_discrete x y) i
