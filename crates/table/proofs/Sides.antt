-- Pushes compose, what lies elsewhere in the table stays, and no second answer fits.
use Prim.Native.Nat.{ℕ, ◌+◌, ◌≤◌}
use mathlib.Core.Path.{◌≡◌, refl, sym, ap, ◌∙◌}
use mathlib.Core.List.{List, [], ◌++◌}
use native.Mathlib.Omega.{arith}
use lib.ListN.{length}
use Rattle.patterns.specs.Term.{Node}
use Rattle.patterns.specs.First.{Exp, exponents}
use Rattle.patterns.specs.Push.{pushes}
use Rattle.patterns.proofs.Push.{pushes_append, pushes_grow}
use Rattle.table.specs.Places.{SIDE, NODES}
use Rattle.table.specs.Nodes.{stack, load}
use Rattle.table.specs.Sides.{Room, Kept, Stacked, Pushes}
use Rattle.std.specs.Prelude.{Option, Some, None}
use Rattle.table.proofs.Nodes.{stack_length}
use Rattle.table.proofs.Writes.{kept_self, kept_then}
use Rattle.table.proofs.Loads.{load_pushes}
use Rattle.table.proofs.Pushing.{became_as}

pub took_none : (base n : ℕ) (w : List ℕ) → n ≤ NODES → Pushes base n [] w w (Some n)
unfolding Stacked pushes
took_none base n w few = record { holds = (few, refl); kept = kept_self base SIDE w }

-- what one run of pushes left, another took up
pub took_then : (base n k : ℕ) (ms ks : List (Node Exp)) (w v u : List ℕ) (r : Option ℕ)
    → Pushes base n ms w v (Some k) → Pushes base k ks v u r → Pushes base n (ms ++ ks) w u r
unfolding Stacked
took_then base n k ms ks w v u r p q =
    let e : pushes exponents (stack v base k) ks ≡ pushes exponents (stack w base n) (ms ++ ks) =
    ap (λ l. pushes exponents l ks) p.holds.1 ∙ sym (pushes_append exponents (stack w base n) ms ks) in
    became_as e (record { holds = q.holds; kept = kept_then p.kept q.kept })

-- where there was no room for some nodes there is none for more
pub took_stop : (base n : ℕ) (ms ks : List (Node Exp)) (w v : List ℕ) → Pushes base n ms w v None → Pushes base n (ms ++ ks) w v None
unfolding Stacked
took_stop base n ms ks w v p = record {
  holds = rw (pushes_append exponents (stack w base n) ms ks)
      (omega (arith, p.holds, pushes_grow exponents (pushes exponents (stack w base n) ms) ks));
  kept = p.kept;
}

-- and the side is ready for the next
pub took_room : (base n k : ℕ) (ms : List (Node Exp)) (w v : List ℕ) → Room base n w → Pushes base n ms w v (Some k) → Room base k v
unfolding Stacked
took_room base n k ms w v room p = record { within = omega (arith, room.within, p.kept.size); few = p.holds.0 }

-- the numbers that are stored add up to those that were pushed
pub took_load : (base n k : ℕ) (ms : List (Node Exp)) (w v : List ℕ) → Pushes base n ms w v (Some k)
    → load (stack v base k) ≡ load (stack w base n) + load ms
unfolding Stacked
took_load base n k ms w v p = ap load p.holds.1 ∙ load_pushes (stack w base n) ms

-- ---- a wider part of the table

pub kept_wider : {base room other more : ℕ} {w v : List ℕ} → other ≤ base → base + room ≤ other + more → Kept base room w v → Kept other more w v
kept_wider p q c = record {
  size = c.size;
  low = λ k h. c.low k (omega arith);
  high = λ k h. c.high k (omega arith);
}

-- ---- one answer

pub one_answer : (base : ℕ) (wanted : List (Node Exp)) (v u : List ℕ) (r s : Option ℕ) → Stacked base wanted v r → Stacked base wanted u s → r ≡ s
unfolding Stacked
one_answer base wanted v u (Some k) (Some j) p q =
    ap Some (omega (arith, stack_length v base k, stack_length u base j, ap length p.1, ap length q.1))
one_answer base wanted v u (Some k) None p q =
    absurd (omega (arith, stack_length v base k, ap length p.1))
one_answer base wanted v u None (Some j) p q =
    absurd (omega (arith, stack_length u base j, ap length q.1))
one_answer base wanted v u None None p q = refl
