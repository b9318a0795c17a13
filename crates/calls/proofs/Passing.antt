-- The node behind so many terms, and where each term ends.
use Prim.Native.Nat.{ℕ, zero, suc, ◌+◌, ◌*◌, ◌-◌, ◌/◌, ◌%◌, ◌≤◌, ◌<◌}
use mathlib.Core.Path.{◌≡◌, refl, sym, ◌∙◌, ap}
use mathlib.Core.Logic.{◌≢◌}
use mathlib.Core.List.{List, [], ◌∷◌}
use native.Mathlib.Decide.{ℕ_discrete}
use native.Mathlib.Nat.{zero-add}
use native.Mathlib.Omega.{arith}
use lib.ListN.{length, get_or, set, length-set}
use lib.Seq.{get_or-set_same, get_or-set_other}
use Rattle.patterns.specs.Term.{Node}
use Rattle.patterns.specs.First.{Exp}
use Rattle.covering.specs.Left.{Left, places, behind}
use Rattle.table.specs.Places.{WORDS, NODES, FIRST, ENDS}
use Rattle.table.specs.Nodes.{node_at}
use Rattle.table.specs.Sides.{Kept}
use Rattle.table.proofs.Writes.{kept_self, kept_then}
use Rattle.table.proofs.Nodes.{TellsNode, is_var, is_fun, is_pow, tells}
use Rattle.calls.specs.Standing.{counted, counted_node, rest, end_of, Spans, Ends}
use Rattle.calls.specs.Moving.{Follows, Passes, NotesEnds}
use Rattle.calls.proofs.Standing.{rest_node, rest_end, rest_kept}

-- ---- how many terms follow a node

module _ (ar : ℕ → ℕ) (c : ℕ) where
  by_variable : {a b : ℕ} {m : Node Exp} → c % 3 ≡ 0 → TellsNode c a b m → 0 ≡ places ar (counted m)
  unfolding places counted
  by_variable h (is_var x p) = refl
  by_variable h (is_fun f p) = absurd (omega arith)
  by_variable h (is_pow s p) = absurd (omega arith)

  by_symbol : {a b r : ℕ} {m : Node Exp} → c % 3 ≡ 1 → r ≡ ar (c / 3) → TellsNode c a b m → r ≡ places ar (counted m)
  unfolding places counted
  by_symbol h e (is_var x p) = absurd (omega arith)
  by_symbol h e (is_fun f p) = let q : c / 3 ≡ f = omega arith in e ∙ ap ar q
  by_symbol h e (is_pow s p) = absurd (omega arith)

  by_power : {a b : ℕ} {m : Node Exp} → c % 3 ≢ 0 → c % 3 ≢ 1 → TellsNode c a b m → 1 ≡ places ar (counted m)
  unfolding places counted
  by_power h g (is_var x p) = absurd (h (omega arith))
  by_power h g (is_fun f p) = absurd (g (omega arith))
  by_power h g (is_pow s p) = refl

  pub follows_variable : c % 3 ≡ 0 → Follows ar c 0
  follows_variable h = record { told = λ a b. by_variable h (tells c a b) }

  pub follows_symbol : {r : ℕ} → c % 3 ≡ 1 → r ≡ ar (c / 3) → Follows ar c r
  follows_symbol h e = record { told = λ a b. by_symbol h e (tells c a b) }

  pub follows_power : c % 3 ≢ 0 → c % 3 ≢ 1 → Follows ar c 1
  follows_power h g = record { told = λ a b. by_power h g (tells c a b) }

-- ---- so many terms passed

module _ (ar : ℕ → ℕ) where
  pub behind_none : (ms : Left) → behind ar ms 0 ≡ ms
  unfolding behind
  behind_none [] = refl
  behind_none (m ∷ ms) = refl

  behind_add : (ms : Left) (a b : ℕ) → behind ar ms (a + b) ≡ behind ar (behind ar ms a) b
  unfolding behind
  behind_add [] a b = refl
  behind_add (m ∷ ms) zero b = ap (behind ar (m ∷ ms)) (zero-add b)
  behind_add (m ∷ ms) (suc a) b =
      let p : suc a + b ≡ suc (a + b) = omega arith in
      let q : places ar m + (a + b) ≡ places ar m + a + b = omega arith in
      ap (behind ar (m ∷ ms)) p ∙ ap (behind ar ms) q ∙ behind_add ms (places ar m + a) b

  pub behind_first : (ms : Left) (n : ℕ) → 0 < n → behind ar ms n ≡ behind ar (behind ar ms 1) (n - 1)
  behind_first ms n h = let p : n ≡ 1 + (n - 1) = omega arith in ap (behind ar ms) p ∙ behind_add ms 1 (n - 1)

module _ {w : List ℕ} {k j : ℕ} where
  pub passes_start : j ≤ k → Passes w k j 0 j
  passes_start h = record { told = λ ar e. sym (behind_none ar (rest w k j)); after = omega arith; within = h }

  module _ {i at : ℕ} (p : Passes w k j i at) where
    -- the call has no further node
    pub passes_out : {n : ℕ} → at ≡ k → i ≤ n → Passes w k j n k
    unfolding behind
    passes_out {n} z h = record {
      told = λ ar e.
          let none : rest w k at ≡ [] = rest_end w k at (omega arith) in
          let up : i + (n - i) ≡ n = omega arith in
          rest_end w k k (omega arith)
          ∙ ap (λ ms. behind ar ms (n - i)) (sym none ∙ p.told ar e)
          ∙ sym (behind_add ar (rest w k j) i (n - i))
          ∙ ap (behind ar (rest w k j)) up;
      after = omega (arith, p.after);
      within = omega arith;
    }

    -- one term more
    pub passes_on : Spans w k j → at ≢ k → Passes w k j (i + 1) (end_of w at)
    passes_on s ne =
        let inside : at < k = omega (arith, p.within) in
        record {
          told = λ ar e.
              sym (e.each at p.after inside)
              ∙ ap (λ ms. behind ar ms 1) (p.told ar e)
              ∙ sym (behind_add ar (rest w k j) i 1);
          after = omega (arith, p.after, s.after at p.after inside);
          within = s.within at p.after inside;
        }

-- ---- the ends noted

-- from the last node back to node j, where each term ends is noted
pub record Noting (ar : ℕ → ℕ) (k : ℕ) (w₀ w : List ℕ) (j : ℕ) : Type 0 where
  pub spans : Spans w k j
  pub ends : Ends ar w k j
  pub kept : Kept ENDS NODES w₀ w
  pub within : j ≤ k

module _ {ar : ℕ → ℕ} {k : ℕ} {w₀ : List ℕ} where
  pub noting_start : WORDS ≤ length w₀ → k ≤ NODES → Noting ar k w₀ w₀ k
  noting_start long few = record {
    spans = record { long = long; few = few; after = λ i a b. absurd (omega arith); within = λ i a b. absurd (omega arith) };
    ends = record { each = λ i a b. absurd (omega arith) };
    kept = kept_self ENDS NODES w₀;
    within = omega arith;
  }

  pub noting_over : {w : List ℕ} {j : ℕ} → j ≤ 0 → Noting ar k w₀ w j → NotesEnds ar k w₀ w
  noting_over {w} {j} z h = record {
    spans = record {
      long = h.spans.long;
      few = h.spans.few;
      after = λ i a b. h.spans.after i (omega arith) b;
      within = λ i a b. h.spans.within i (omega arith) b;
    };
    ends = record { each = λ i a b. h.ends.each i (omega arith) b };
    kept = h.kept;
  }

  module _ {w : List ℕ} (j : ℕ) {n e : ℕ} (h : Noting ar k w₀ w (j + 1)) (f : Follows ar (get_or w (FIRST + 3 * j) 0) n) (p : Passes w k (j + 1) n e) where
    abbrev v : List ℕ
    v = set w (ENDS + j) e

    written : Kept ENDS NODES w v
    written = record {
      size = length-set w (ENDS + j) e;
      low = λ i l. get_or-set_other w (ENDS + j) i e 0 (λ z. omega arith);
      high = λ i l. get_or-set_other w (ENDS + j) i e 0 (λ z. omega (arith, h.within, h.spans.few));
    }

    stands : (i : ℕ) → rest v k i ≡ rest w k i
    stands i = rest_kept w v (λ m l. written.low m l) k i h.spans.few

    here : end_of v j ≡ e
    unfolding end_of
    here = get_or-set_same w (ENDS + j) e 0 (omega (arith, h.within, h.spans.few, h.spans.long))

    there : (i : ℕ) → i ≢ j → end_of v i ≡ end_of w i
    unfolding end_of
    there i d = get_or-set_other w (ENDS + j) (ENDS + i) e 0 (λ z. d (omega arith))

    -- the term of node j ends there
    ended : behind ar (rest w k j) 1 ≡ rest w k e
    unfolding behind counted_node node_at
    ended =
        let few : (places ar (counted_node w j) + 0) ≡ n =
        zero_right (places ar (counted_node w j)) ∙ sym (f.told _ _) in
        ap (λ ms. behind ar ms 1) (rest_node w k j (omega (arith, h.within)))
        ∙ ap (behind ar (rest w k (j + 1))) few
        ∙ sym (p.told ar h.ends)
      where
        zero_right : (m : ℕ) → m + 0 ≡ m
        zero_right m = omega arith

    pub noting_on : Noting ar k w₀ v j
    noting_on = record {
      spans = record {
        long = omega (arith, h.spans.long, written.size);
        few = h.spans.few;
        after = λ i a b. after i a b (ℕ_discrete i j);
        within = λ i a b. within i a b (ℕ_discrete i j);
      };
      ends = record { each = λ i a b. each i a b (ℕ_discrete i j) };
      kept = kept_then h.kept written;
      within = omega (arith, h.within);
    }
      where
        after : (i : ℕ) → j ≤ i → i < k → Dec (i ≡ j) → i < end_of v i
        after i a b (yes q) = omega (arith, ap (end_of v) q, here, p.after)
        after i a b (no q) = omega (arith, there i q, h.spans.after i (omega arith) b)

        within : (i : ℕ) → j ≤ i → i < k → Dec (i ≡ j) → end_of v i ≤ k
        within i a b (yes q) = omega (arith, ap (end_of v) q, here, p.within)
        within i a b (no q) = omega (arith, there i q, h.spans.within i (omega arith) b)

        each : (i : ℕ) → j ≤ i → i < k → Dec (i ≡ j) → behind ar (rest v k i) 1 ≡ rest v k (end_of v i)
        each i a b (yes q) =
            ap (λ m. behind ar (rest v k m) 1) q
            ∙ ap (λ ms. behind ar ms 1) (stands j)
            ∙ ended
            ∙ sym (stands e)
            ∙ ap (rest v k) (sym here ∙ ap (end_of v) (sym q))
        each i a b (no q) =
            ap (λ ms. behind ar ms 1) (stands i)
            ∙ h.ends.each i (omega arith) b
            ∙ sym (stands (end_of w i))
            ∙ ap (rest v k) (sym (there i q))
