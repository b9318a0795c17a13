-- Nodes of a side that are copied behind the last, or that come again to a second side.
use Prim.Native.Nat.{ℕ, suc, ◌+◌, ◌*◌, ◌-◌, ◌≤◌, ◌<◌}
use mathlib.Core.Path.{◌≡◌, sym, ap, ap₂, subst, ◌∙◌}
use mathlib.Core.List.{List, [], ◌∷◌, ◌++◌}
use Rattle.std.proofs.lemmas.Option.{none-some}
use native.Mathlib.Numerals.{add-one}
use native.Mathlib.Omega.{arith}
use lib.ListN.{length, get_or, length-append}
use Rattle.patterns.specs.Term.{Node}
use Rattle.patterns.specs.First.{Exp, exponents}
use Rattle.patterns.specs.Push.{pushes}
use Rattle.patterns.proofs.Push.{pushes_grow}
use Rattle.table.specs.Places.{SIDE, NODES}
use Rattle.table.specs.Nodes.{node_at, with_node, stack}
use Rattle.table.specs.Sides.{Room, Stacked, Became, Pushes}
use Rattle.table.specs.Repeats.{Closed, part}
use Rattle.table.specs.Second.{Parts, alike, Tracks, rests, waits, Came}
use Rattle.table.specs.declared.Held.{Held}
use Rattle.std.specs.Prelude.{Option, Some, None}
use Rattle.table.proofs.Nodes.{stack_length}
use Rattle.table.proofs.Writes.{kept_self, kept_then}
use Rattle.table.proofs.Pushing.{became_as, store_one}
use Rattle.table.proofs.Parting.{parts_none}
use Rattle.table.proofs.Repeats.{pushes_over, closed_both, part_length, node_same, stack_part, stack_below}

-- ---- copied

module _ (w : List ℕ) (base n start : ℕ) (room : Room base n w) where
  pub copied_none : Became base (part w base start 0 ++ stack w base n) w w (Some (n + 0))
  unfolding part Stacked
  copied_none =
      let same : n + 0 ≡ n = omega arith in
      record { holds = (omega (arith, room.few), ap (stack w base) same); kept = kept_self base SIDE w }

  pub copied_full : (count : ℕ) → NODES < n + count → Became base (part w base start count ++ stack w base n) w w None
  unfolding Stacked
  copied_full count l = record {
    holds = omega (arith, length-append (part w base start count) (stack w base n), part_length w base start count, stack_length w base n);
    kept = kept_self base SIDE w;
  }

  module _ (v : List ℕ) (k : ℕ) (c : Became base (part w base start k ++ stack w base n) w v (Some (n + k))) where
    below : stack v base n ≡ stack w base n
    unfolding Stacked
    below =
        subst (λ i. stack v base i ≡ stack w base n) (stack_length w base n)
        (stack_below v base (n + k) (part w base start k) (stack w base n) c.holds.1)

    more : start + k < n → node_at v (base + 3 * (start + k)) ∷ stack v base (n + k) ≡ part w base start (suc k) ++ stack w base n
    unfolding part Stacked
    more l = ap₂ ◌∷◌ (node_same v w base n (start + k) below l) c.holds.1

    -- one node more
    pub copied_more : (u : List ℕ) → start + k < n → n + k < NODES
        → u ≡ with_node v (base + 3 * (n + k)) (get_or v (base + 3 * (start + k)) 0) (get_or v (base + 3 * (start + k) + 1) 0) (get_or v (base + 3 * (start + k) + 2) 0)
        → Became base (part w base start (k + 1) ++ stack w base n) w u (Some (n + (k + 1)))
    unfolding node_at
    copied_more u l f e =
        let one = store_one v base (n + k) _ _ _ (record { within = omega (arith, room.within, c.kept.size); few = omega arith }) u (λ z. omega arith) e in
        let next : n + k + 1 ≡ n + (k + 1) = omega arith in
        subst (λ i. Became base (part w base start (k + 1) ++ stack w base n) w u (Some i)) next
        (subst (λ i. Became base (part w base start i ++ stack w base n) w u (Some (n + k + 1))) (sym (add-one k))
        (became_as (more l) (record { holds = one.holds; kept = kept_then c.kept one.kept })))

    -- all of them
    pub copied_all : (count : ℕ) → k ≡ count → Became base (part w base start count ++ stack w base n) w v (Some (n + count))
    copied_all count e = subst (λ i. Became base (part w base start i ++ stack w base n) w v (Some (n + i))) e c

-- on a closed side that is what a push of the nodes gives that they came from
pub copied_pushed : {base : ℕ} {w v : List ℕ} {r : Option ℕ} (n start count : ℕ) (ms : List (Node Exp)) → Closed (stack w base n)
    → part w base start count ≡ pushes exponents [] ms → Became base (part w base start count ++ stack w base n) w v r → Pushes base n ms w v r
copied_pushed {base} {w} n start count ms c e g = became_as (ap (λ l. l ++ stack w base n) e ∙ sym (pushes_over [] (stack w base n) ms c)) g

-- ---- what stands below a closed place is not changed by later pushes

module _ {base k : ℕ} {w v : List ℕ} (n : ℕ) (ms : List (Node Exp)) (g : Pushes base n ms w v (Some k)) where
  pub pushed_more : n ≤ k
  unfolding Stacked
  pushed_more = omega (arith, stack_length w base n, stack_length v base k, ap length g.holds.1, pushes_grow exponents (stack w base n) ms)

  pub stays_below : (m : ℕ) → m ≤ n → Closed (stack w base m) → stack v base m ≡ stack w base m
  unfolding Stacked
  stays_below m l c =
      let up : n ≡ m + (n - m) = omega arith in
      let split : stack w base n ≡ part w base m (n - m) ++ stack w base m = ap (stack w base) up ∙ stack_part w base m (n - m) in
      let whole : stack v base k ≡ pushes exponents (part w base m (n - m)) ms ++ stack w base m =
      g.holds.1 ∙ ap (λ l. pushes exponents l ms) split ∙ pushes_over (part w base m (n - m)) (stack w base m) ms c in
      subst (λ i. stack v base i ≡ stack w base m) (stack_length w base m) (stack_below v base k (pushes exponents (part w base m (n - m)) ms) (stack w base m) whole)

-- ---- come again

parts_more : {w : List ℕ} {base n p : ℕ} (xs ns : List (Node Exp)) → Parts w base n ns p → length xs + length ns ≤ p
    → part w base (length ns) (length xs) ≡ xs → Parts w base n (xs ++ ns) p
unfolding part
parts_more [] ns x l e = x
parts_more {w} {base} (m ∷ xs) ns x l e =
    let count : length ns + length xs ≡ length (xs ++ ns) = omega (arith, length-append xs ns) in
    alike (parts_more xs ns x (omega arith) (cc)) (omega arith) (subst (λ i. node_at w (base + 3 * i) ≡ m) count (cc))

module _ {w : List ℕ} {base : ℕ} (h : Held) where
  -- the stored nodes from the next on are those that the coming ones give
  pub came_again : (count : ℕ) (ms : List (Node Exp)) → h.power ≡ None → h.nodes + count ≤ h.parts → Closed (pushes exponents [] ms)
      → part w base h.nodes count ≡ pushes exponents [] ms
      → Came w base ms h (record { nodes = h.nodes + count; parts = h.parts; power = h.power })
  came_again count ms z l d e = record { told = go; low = omega arith; light = omega arith }
    where
      many : length (pushes exponents [] ms) ≡ count
      many = sym (ap length e) ∙ part_length w base h.nodes count

      go : (n : ℕ) (ns : List (Node Exp)) → Tracks w base n h ns
          → Tracks w base n (record { nodes = h.nodes + count; parts = h.parts; power = h.power }) (pushes exponents ns ms)
      go n ns (rests q f c) =
          subst (Tracks w base n _) (sym (pushes_over [] ns ms f))
          (rests z (closed_both (pushes exponents [] ms) ns d f)
          (record {
            nodes = omega (arith, c.nodes, many, length-append (pushes exponents [] ms) ns);
            parts = parts_more (pushes exponents [] ms) ns c.parts (omega (arith, c.nodes, many)) (ap₂ (part w base) (sym c.nodes) many ∙ e);
          }))
      go n ns (waits s q d o c) = absurd (none-some _ (sym z ∙ q))

  -- where no power waits and none of the nodes differs, they are stored
  pub tracks_stored : {n : ℕ} {ns : List (Node Exp)} → h.power ≡ None → h.nodes ≤ h.parts → Tracks w base n h ns → stack w base h.nodes ≡ ns
  tracks_stored z l (rests q f c) = ap (stack w base) c.nodes ∙ parts_none c.parts (omega (arith, c.nodes))
  tracks_stored z l (waits s q d o c) = absurd (none-some _ (sym z ∙ q))

  pub tracks_closed : {n : ℕ} {ns : List (Node Exp)} → h.power ≡ None → Tracks w base n h ns → Closed ns × (h.nodes ≡ length ns)
  tracks_closed z (rests q f c) = (f, c.nodes)
  tracks_closed z (waits s q d o c) = absurd (none-some _ (sym z ∙ q))
