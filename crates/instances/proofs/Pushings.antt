-- A walk that pushes what each node gives: what it pushed so far, with what is still to come, is what the whole walk pushes.
use Prim.Native.Nat.{ℕ, ◌+◌, ◌≤◌, ◌<◌, ◌^◌}
use mathlib.Core.Path.{◌≡◌, refl, sym, subst, ap}
use mathlib.Core.List.{List, [], ◌∷◌, ◌++◌, flat_map}
use native.Mathlib.Omega.{arith}
use Rattle.patterns.specs.Term.{Node, npow}
use Rattle.patterns.specs.Counters.{pair_path}
use Rattle.patterns.specs.First.{Exp, shift}
use Rattle.patterns.specs.Push.{pushes, retag}
use Rattle.table.specs.Nodes.{stack, load}
use Rattle.table.specs.Sides.{node_told, Coded, Room, Pushes}
use Rattle.table.specs.declared.Item.{Item}
use Rattle.std.specs.Prelude.{Option, Some, None}
use Rattle.table.proofs.Loads.{load_cons, load_append}
use Rattle.table.proofs.Pushing.{became_as}
use Rattle.table.proofs.Sides.{took_none, took_then, took_stop, took_room, took_load}
use Rattle.table.specs.Places.{NODES}
use Rattle.instances.specs.Walks.{single, walk, walked}
use Rattle.instances.specs.Turns.{Begins, Turns}
use Rattle.instances.specs.Filled.{ComesAs, itself}
use Rattle.instances.specs.declared.Header.{Header}
use Rattle.instances.specs.declared.Header.TheVariants.{Variable, Symbol, Power, Missing}
use Rattle.instances.specs.declared.nodes.Walk.{Walk}
use Rattle.instances.proofs.Goings.{Going, going_start, going_on}
use Rattle.instances.proofs.Loads.{flat_map_append, each_itself, spelled_light}
use Rattle.instances.proofs.Givings.{given, given_rest, given_over, given_more}

pub took_as : {base : ℕ} {ms ks : List (Node Exp)} {w v : List ℕ} {r : Option ℕ} (n : ℕ) → ms ≡ ks → Pushes base n ms w v r → Pushes base n ks w v r
took_as {base} {ms} {ks} {w} {v} {r} n e t = subst (λ l. Pushes base n l w v r) e t

-- ---- one node, reindexed

-- a node that is light enough may be pushed
pub item_fits : {base n i j : ℕ} {h : Header} {m : Item} (w : List ℕ) → ComesAs i j h m → Room base n w → load (stack w base n) ≤ 2 ^ 62
    → Room base n w × ((load (node_told m ∷ stack w base n) < 2 ^ 64) × Coded m)
item_fits {base} {n} {m = m} w c room l = (room, (omega (arith, c.light, load_cons (node_told m) (stack w base n)), c.coded))

pub took_item : {base i j : ℕ} {w v : List ℕ} {r : Option ℕ} {h : Header} {m : Item} (n : ℕ) → ComesAs i j h m → Pushes base n (node_told m ∷ []) w v r
    → Pushes base n (retag (shift (i, j)) (single h)) w v r
unfolding pushes
took_item {base} {w = w} n c t = became_as (c.node (stack w base n)) t

-- reindexed by (1, 0) it is as it stands
pub plain : (h : Header) → retag (shift (1, 0)) (single h) ≡ flat_map itself (single h)
unfolding retag shift single flat_map
plain (Variable x c) = refl
plain (Symbol f k c) = refl
plain (Power s a b c) = ap (λ e. npow s e ∷ []) (pair_path (omega arith) (omega arith))
plain Missing = refl

pub took_plain : {base : ℕ} {w v : List ℕ} {r : Option ℕ} {h : Header} {m : Item} (n : ℕ) → ComesAs 1 0 h m → Pushes base n (node_told m ∷ []) w v r
    → Pushes base n (flat_map itself (single h)) w v r
took_plain {h = h} n c t = took_as n (plain h) (took_item n c t)

-- ---- the walk

-- what the nodes met so far give was pushed
abbrev pub Pushing : (Node Exp → List (Node Exp)) → List ℕ → List ℕ → ℕ → ℕ → ℕ → List ℕ → List ℕ → ℕ → Walk → Type 0
Pushing f book s at base count w₀ w n t = Going (λ met. Pushes base count (flat_map f met) w₀ w (Some n)) book s at t

module _ (f : Node Exp → List (Node Exp)) (book s : List ℕ) (at base count : ℕ) (w₀ : List ℕ) where
  pub pushing_start : {t : Walk} → Begins book s at t → count ≤ NODES → Pushing f book s at base count w₀ w₀ count t
  unfolding flat_map
  pushing_start b few = going_start b (took_none base count w₀ few)

  module _ (w : List ℕ) (n : ℕ) (t : Walk) (g : Pushing f book s at base count w₀ w n t) where
    pub pushing_room : Room base count w₀ → Room base n w
    pushing_room room = took_room base count n (flat_map f g.met) w₀ w room g.holds

    pub pushing_light : (a b : ℕ) → load (stack w₀ base count) ≤ a → load (given f book s at) ≤ b → load (stack w base n) ≤ a + b
    pushing_light a b x y =
        let rest = (walk book s t.left t.stand).met in
        omega (arith, took_load base count n (flat_map f g.met) w₀ w g.holds, ap load (given_rest f g), load_append (flat_map f g.met) (flat_map f rest))

    pub pushing_over : {u : Walk} → Turns t u None → Pushes base count (given f book s at) w₀ w (Some n)
    pushing_over turn = took_as count (given_over f g turn) g.holds

    -- one node more
    module _ {u : Walk} {h : Header} (turn : Turns t u (Some h)) {v : List ℕ} {r : Option ℕ}
        (one : Pushes base n (flat_map f (single h)) w v r) where
      took_more : Pushes base count (flat_map f (g.met ++ single h)) w₀ v r
      took_more =
          took_as count (sym (flat_map_append f g.met (single h)))
          (took_then base count n (flat_map f g.met) (flat_map f (single h)) w₀ w v r g.holds one)

      pub pushing_full : {o : Option ℕ} → r ≡ None → o ≡ None → Pushes base count (given f book s at) w₀ v o
      pushing_full no_room answer =
          let rest = (walk book s u.left u.stand).met in
          subst (λ o. Pushes base count (given f book s at) w₀ v o) (sym answer)
          (took_as count (given_more f g turn)
          (took_stop base count (flat_map f (g.met ++ single h)) (flat_map f rest) w₀ v
          (subst (λ k. Pushes base count (flat_map f (g.met ++ single h)) w₀ v k) no_room took_more)))

      pub pushing_on : {k : ℕ} → r ≡ Some k → Pushing f book s at base count w₀ v k u
      pushing_on counted = going_on g turn (subst (λ o. Pushes base count (flat_map f (g.met ++ single h)) w₀ v o) counted took_more)

-- ---- as it stands

pub light_given : (book s : List ℕ) (at : ℕ) → load (given itself book s at) ≤ 2 ^ 21
light_given book s at = subst (λ ns. load ns ≤ 2 ^ 21) (sym (each_itself (walked book s at).met)) (spelled_light book s at)

-- the next node fits
pub spelling_fits : (book s : List ℕ) (at base count : ℕ) (w₀ w : List ℕ) (n : ℕ) (t : Walk) {h : Header} {m : Item}
    → Pushing itself book s at base count w₀ w n t → Room base count w₀ × (load (stack w₀ base count) ≤ 2 ^ 60) → ComesAs 1 0 h m
    → Room base n w × ((load (node_told m ∷ stack w base n) < 2 ^ 64) × Coded m)
spelling_fits book s at base count w₀ w n t g before c =
    item_fits w c (pushing_room itself book s at base count w₀ w n t g before.0)
    (omega (arith, pushing_light itself book s at base count w₀ w n t g (2 ^ 60) (2 ^ 21) before.1 (light_given book s at)))

pub spelled : {base : ℕ} {w v : List ℕ} {r : Option ℕ} (book s : List ℕ) (at n : ℕ) → Pushes base n (given itself book s at) w v r
    → Pushes base n (walked book s at).met w v r
spelled book s at n t = took_as n (each_itself (walked book s at).met) t
