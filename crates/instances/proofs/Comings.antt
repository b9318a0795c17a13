-- A walk whose nodes come to a second side: those that came so far, with those that are still to come, are what the whole walk gives.
use Rattle.std.specs.Prelude.{Option, Some, None}
use Prim.Native.Nat.{ℕ, ◌+◌, ◌*◌, ◌≤◌, ◌<◌, ◌^◌}
use mathlib.Core.Path.{◌≡◌, sym, ap, subst, ◌∙◌}
use mathlib.Core.List.{List, [], ◌∷◌, flat_map}
use native.Mathlib.Omega.{arith}
use lib.ListN.{length, length-reverse}
use mathlib.Core.Option.{some}
use Rattle.patterns.specs.Term.{Filling, fill, Node}
use Rattle.patterns.specs.Edition.{reindex}
use Rattle.patterns.specs.First.{Exp, Pattern, exponents, shift, one}
use Rattle.patterns.specs.Push.{pushes, retag}
use Rattle.patterns.proofs.Push.{pushes_append, pushes_grow}
use Rattle.table.specs.Places.{NODES}
use Rattle.table.specs.Nodes.{load, side}
use Rattle.table.specs.Sides.{node_told, Coded, Room}
use Rattle.table.specs.Marks.{form_nodes}
use Rattle.table.specs.Second.{weight, Tracks, Came, CameOne, Amounts, Concludes}
use Rattle.table.specs.declared.Item.{Item}
use Rattle.table.specs.declared.Held.{Held}
use Rattle.table.specs.declared.Triple.{Triple}
use Rattle.table.specs.declared.Outcome.{Outcome}
use Rattle.table.specs.declared.Outcome.TheVariants.{Full}
use Rattle.table.proofs.Loads.{load_append, load_push, load_pushes}
use Rattle.table.proofs.Holding.{held_none, tracks_many, came_none, came_then, came_as}
use Rattle.instances.specs.Lying.{TermAt}
use Rattle.instances.specs.Fillings.{FillsTold}
use Rattle.instances.specs.Walks.{single, walk, walked}
use Rattle.instances.specs.Turns.{Begins, Turns}
use Rattle.instances.specs.Filled.{ComesAs, itself, word_of, filled}
use Rattle.instances.specs.Instances.{Against}
use Rattle.instances.specs.Repeats.{Remembers, Tracked}
use Rattle.instances.specs.declared.Header.{Header}
use Rattle.instances.specs.declared.nodes.Walk.{Walk}
use Rattle.instances.specs.declared.Spelt.{Spelt}
use Rattle.instances.proofs.Goings.{Going, going_start, going_on}
use Rattle.instances.proofs.Loads.{flat_map_append, each_itself, filled_light}
use Rattle.instances.proofs.Givings.{given, given_rest, given_over}
use Rattle.instances.proofs.Pushings.{plain, light_given}
use Rattle.instances.proofs.Instances.{gives_itself, instance_form}

-- ---- one node

-- it may come
pub item_comes : {i j base : ℕ} {w : List ℕ} (h : Held) {header : Header} {m : Item} → ComesAs i j header m → Room base h.parts w → h.nodes ≤ 2 ^ 32
    → weight h.power ≤ 2 ^ 62
    → Room base h.parts w × ((h.nodes ≤ 2 ^ 32) × (weight h.power + load (node_told m ∷ []) < 2 ^ 64) × Coded m)
item_comes h c room few l = (room, (few, omega (arith, c.light), c.coded))

pub came_item : {w : List ℕ} {base i j : ℕ} {h r : Held} {header : Header} {m : Item} → ComesAs i j header m → CameOne w base (node_told m) h r
    → Came w base (retag (shift (i, j)) (single header)) h r
unfolding pushes load
came_item {w} {base} {i} {j} {h} {r} {header} {m} c k = record {
  told = λ n ns x. subst (Tracks w base n r) (c.node ns) (k.came.told n ns x);
  low = k.came.low;
  light = omega
      (arith, k.came.light, load_push [] (node_told m), load_pushes [] (retag (shift (i, j)) (single header)), ap load (c.node []));
}

pub came_plain : {w : List ℕ} {base : ℕ} {h r : Held} {header : Header} {m : Item} → ComesAs 1 0 header m → CameOne w base (node_told m) h r
    → Came w base (flat_map itself (single header)) h r
came_plain {header = header} c k = came_as (plain header) (came_item c k)

-- ---- the walk

-- what the nodes met so far give has come
abbrev pub Coming : (Node Exp → List (Node Exp)) → List ℕ → List ℕ → ℕ → List ℕ → ℕ → Held → Held → Walk → Type 0
Coming f book s at w base h₀ h t = Going (λ met. Came w base (flat_map f met) h₀ h) book s at t

pub coming_start : (f : Node Exp → List (Node Exp)) {book s : List ℕ} {at : ℕ} (w : List ℕ) (base : ℕ) (h : Held) {t : Walk}
    → Begins book s at t → Coming f book s at w base h h t
unfolding flat_map
coming_start f w base h b = going_start b came_none

module _ (f : Node Exp → List (Node Exp)) {book s : List ℕ} {at : ℕ} {w : List ℕ} {base : ℕ} {h₀ h : Held} {t : Walk}
    (g : Coming f book s at w base h₀ h t) where
  pub coming_room : Room base h₀.parts w → Room base h.parts w
  coming_room room = record { within = room.within; few = omega (arith, room.few, g.holds.low) }

  pub coming_light : (b : ℕ) → load (given f book s at) ≤ b → weight h.power ≤ weight h₀.power + b
  coming_light b y =
      omega (arith, g.holds.light, ap load (given_rest f g), load_append (flat_map f g.met) (flat_map f (walk book s t.left t.stand).met))

  pub coming_over : {u : Walk} → Turns t u None → Came w base (given f book s at) h₀ h
  coming_over n = came_as (given_over f g n) g.holds

  pub coming_on : {u : Walk} {header : Header} → Turns t u (Some header) → {v : Held}
      → Came w base (flat_map f (single header)) h v → Coming f book s at w base h₀ v u
  coming_on {header = header} n one = going_on g n (came_as (sym (flat_map_append f g.met (single header))) (came_then g.holds one))

-- ---- the term of a filling

pub came_term : {w : List ℕ} {base : ℕ} {h r : Held} (book s : List ℕ) (at : ℕ) → Came w base (given itself book s at) h r
    → Came w base (walked book s at).met h r
came_term book s at t = came_as (each_itself (walked book s at).met) t

-- the next node may come, and settles two at most
pub term_comes : {book s : List ℕ} {at : ℕ} {w : List ℕ} {base : ℕ} {h₀ h : Held} {t : Walk} {header : Header} {m : Item}
    → Coming itself book s at w base h₀ h t → ComesAs 1 0 header m → Room base h₀.parts w → h.nodes + 2 * t.left ≤ NODES + 512
    → weight h₀.power ≤ 2 ^ 60
    → Room base h.parts w × ((h.nodes ≤ 2 ^ 32) × (weight h.power + load (node_told m ∷ []) < 2 ^ 64) × Coded m)
term_comes {book} {s} {at} {h = h} g c room few l =
    item_comes h c (coming_room itself g room) (omega arith) (omega (arith, coming_light itself g (2 ^ 21) (light_given book s at)))

-- ---- a node of an instance

module _ (book cert w : List ℕ) (fills i j : ℕ) {base : ℕ} {h r : Held} (header : Header) {word : ℕ} (e : word ≡ word_of w fills header) where
  pub came_unlisted : {m : Item} → word ≡ 0 → ComesAs i j header m → CameOne w base (node_told m) h r
      → Came w base (flat_map (filled book cert w fills i j) (single header)) h r
  came_unlisted z c k = came_as (gives_itself book cert w fills i j header word e z) (came_item c k)

-- ---- the whole instance

weight_none : {power : Option Triple} → power ≡ None → weight power ≡ 0
unfolding weight
weight_none e = rw e

-- no node has come
pub record Begun (n : ℕ) (h : Held) : Type 0 where
  pub nodes : h.nodes ≡ 0
  pub parts : h.parts ≡ n
  pub power : h.power ≡ None

module _ (book s cert w : List ℕ) (at fills i j base n : ℕ) {h₀ h : Held} {t : Walk} (none : Begun n h₀)
    (g : Coming (filled book cert w fills i j) book s at w base h₀ h t) where
  -- they are those of a stack
  held : Tracks w base n h₀ []
  held = held_none w base n none.nodes none.parts none.power

  tracked : Tracked w base h
  tracked = record { n = n; ns = _; tracks = g.holds.told n [] held }

  pub instance_comes : {last : Option Spelt} → Room base n w → fills + 64 ≤ length w → h.nodes ≤ NODES → i < 65536 → j < 65536 → Remembers book cert w base NODES last
      → Room base h.parts w × ((h.nodes ≤ NODES) × (weight h.power ≤ 2 ^ 60) × (fills + 64 ≤ length w) × Remembers book cert w base NODES last × Tracked w base h)
  instance_comes room low few small-i small-j m = (
    coming_room (filled book cert w fills i j) g (record { within = room.within; few = omega (arith, room.few, none.parts) }),
    (
      few,
      omega (arith, weight_none none.power, coming_light (filled book cert w fills i j) g (2 ^ 38) (filled_light book cert w fills i j small-i small-j s at)),
      low,
      m,
      tracked,
    ),
  )

  pub against_over : {u : Walk} {o : Outcome} → Turns t u None → Concludes w base n h o → Against book s cert base n at i j fills w o
  against_over turn x = record { amounts = x.told _ ((coming_over (filled book cert w fills i j) g turn).told n [] held) }

  pub against_full : NODES < h.nodes → Against book s cert base n at i j fills w Full
  unfolding Amounts
  against_full l =
      let f = filled book cert w fills i j in
      let met = flat_map f g.met in
      let rest = flat_map f (walk book s t.left t.stand).met in
      let whole = pushes exponents [] (given f book s at) in
      let e : length whole ≡ length (pushes exponents (pushes exponents [] met) rest) =
      ap (λ l. length (pushes exponents [] l)) (sym (given_rest f g)) ∙ ap length (pushes_append exponents [] met rest) in
      record {
        amounts = omega
            (arith, e, length-reverse whole, tracks_many (g.holds.told n [] held), pushes_grow exponents (pushes exponents [] met) rest);
      }

-- the walk over a term that lies there amounts to the nodes of the instance's normal form
pub against_form : {book s cert : List ℕ} {base n at i j fills : ℕ} {w : List ℕ} {r : Outcome} → Against book s cert base n at i j fills w r
    → (t : Pattern) (θ : Filling Exp) → TermAt book s at t → FillsTold book cert w fills θ
    → Amounts (side w base n) (form_nodes (some (fill θ (reindex one (i, j) t)))) r
against_form {book} {s} {cert} {base} {n} {at} {i} {j} {fills} {w} {r} a t θ h F =
    subst (λ ns. Amounts (side w base n) ns r) (instance_form book cert w fills i j s at t θ h F) a.amounts
