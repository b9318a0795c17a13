-- What the walk over a pattern pushes, reindexed and filled, is the normal form of the instance.
use Prim.Native.Nat.{ℕ, ◌+◌, ◌-◌, ◌≤◌, ◌<◌, ◌^◌}
use mathlib.Core.Path.{◌≡◌, refl, sym, ap, ap₂, ◌∙◌}
use mathlib.Core.List.{List, [], ◌∷◌, ◌++◌, reverse, flat_map, append-nil}
use mathlib.Core.Option.{some}
use native.Mathlib.Omega.{arith}
use lib.ListN.{length}
use borrow.Author.Tests.{eq-eqb, ne_eqb}
use Rattle.patterns.specs.Term.{Filling, fill, Node, nvar, nfun, npow, nodes}
use Rattle.patterns.specs.Edition.{reindex, form}
use Rattle.patterns.specs.First.{Exp, Pattern, exponents, shift, one}
use Rattle.patterns.specs.Push.{pushes, retag, expand}
use Rattle.patterns.proofs.Push.{push_instance}
use Rattle.table.specs.Places.{SIDE, NODES}
use Rattle.table.specs.Nodes.{stack, load}
use Rattle.table.specs.Sides.{Room, Kept, Stacked, Pushes}
use Rattle.table.specs.Marks.{mark_nodes, form_nodes, Built}
use Rattle.std.specs.Prelude.{Option, Some, None}
use Rattle.table.proofs.Marks.{built_form}
use Rattle.instances.specs.Lying.{TermAt}
use Rattle.instances.specs.Fillings.{entry, Entry, unlisted, listed, FillsTold}
use Rattle.instances.specs.Instances.{Stored, FewNodes, Builds}
use Rattle.instances.specs.Walks.{single, Passage, walked}
use Rattle.instances.specs.Turns.{Turns}
use Rattle.instances.specs.Filled.{word_of, filled}
use Rattle.instances.specs.Repeats.{Remembers}
use Rattle.instances.specs.declared.Header.{Header}
use Rattle.instances.specs.declared.Header.TheVariants.{Variable, Symbol, Power, Missing}
use Rattle.instances.specs.declared.nodes.Walk.{Walk}
use Rattle.instances.specs.declared.Spelt.{Spelt}
use Rattle.instances.specs.declared.Side.{Side}
use Rattle.instances.proofs.Walks.{walked_term}
use Rattle.instances.proofs.Entries.{entry_same}
use Rattle.instances.proofs.Goings.{going_over}
use Rattle.instances.proofs.Loads.{filled_light}
use Rattle.instances.proofs.Pushings.{took_as, Pushing, pushing_over, pushing_room, pushing_light}

-- ---- one node of an instance

module _ (book cert w : List ℕ) (fills i j : ℕ) where
  reindexed_only : (h : Header) → word_of w fills h ≡ 0 → retag (shift (i, j)) (single h) ≡ flat_map (filled book cert w fills i j) (single h)
  unfolding retag single flat_map filled word_of
  reindexed_only (Variable x c) e = rw (eq-eqb (entry w fills x) 0 e)
  reindexed_only (Symbol f n c) e = refl
  reindexed_only (Power s a b c) e = refl
  reindexed_only Missing e = refl

  term_only : (h : Header) → ¬ (word_of w fills h ≡ 0) → (walked book cert (word_of w fills h - 1)).met ≡ flat_map (filled book cert w fills i j) (single h)
  unfolding single flat_map filled word_of
  term_only (Variable x c) e = rw (ne_eqb (entry w fills x) 0 e, append-nil)
  term_only (Symbol f n c) e = absurd (e refl)
  term_only (Power s a b c) e = absurd (e refl)
  term_only Missing e = absurd (e refl)

  module _ (h : Header) (word : ℕ) (e : word ≡ word_of w fills h) where
    pub gives_itself : word ≡ 0 → retag (shift (i, j)) (single h) ≡ flat_map (filled book cert w fills i j) (single h)
    gives_itself z = reindexed_only h (sym e ∙ z)

    pub gives_term : ¬ (word ≡ 0) → (walked book cert (word - 1)).met ≡ flat_map (filled book cert w fills i j) (single h)
    gives_term z = ap (λ k. (walked book cert (k - 1)).met) e ∙ term_only h (λ q. z (e ∙ q))

-- the table of a filling that lies below a side is not changed by what is pushed there
filled_kept : (book cert w v : List ℕ) (fills base i j : ℕ) (h : Header) → fills + 64 ≤ base → Kept base SIDE w v
    → flat_map (filled book cert v fills i j) (single h) ≡ flat_map (filled book cert w fills i j) (single h)
unfolding single flat_map filled
filled_kept book cert w v fills base i j (Variable x c) h k = rw (entry_same fills w v (λ y a b. k.low y (omega arith)) x)
filled_kept book cert w v fills base i j (Symbol f n c) h k = refl
filled_kept book cert w v fills base i j (Power s a b c) h k = refl
filled_kept book cert w v fills base i j Missing h k = refl

pub step_filled : {base : ℕ} {w v : List ℕ} {r : Option ℕ} (book cert w₀ : List ℕ) (fills i j n : ℕ) (h : Header) → fills + 64 ≤ base → Kept base SIDE w₀ w
    → Pushes base n (flat_map (filled book cert w fills i j) (single h)) w v r
    → Pushes base n (flat_map (filled book cert w₀ fills i j) (single h)) w v r
step_filled {base} {w} {v} {r} book cert w₀ fills i j n h below k t = took_as n (filled_kept book cert w₀ w fills base i j h below k) t

-- ---- the whole instance

-- an empty side holds nothing
no_load : (w : List ℕ) (base : ℕ) → load (stack w base 0) ≤ 0
unfolding stack load
no_load w base = omega arith

module _ (book cert w : List ℕ) (fills i j : ℕ) where
  module _ (θ : Filling Exp) (F : FillsTold book cert w fills θ) where
    at_variable : (x : ℕ) → filled book cert w fills i j (nvar x) ≡ nodes (θ x)
    unfolding filled nodes
    at_variable x = go (θ x) (F.each x)
      where
        go : (t : Pattern) → Entry book cert x (entry w fills x) t → filled book cert w fills i j (nvar x) ≡ nodes t
        go _ (unlisted e) = rw (eq-eqb (entry w fills x) 0 e)
        go t (listed at e h) =
            let down : entry w fills x - 1 ≡ at = omega arith in
            rw (ne_eqb (entry w fills x) 0 (λ z. omega arith), down) (ap (λ (v : Passage). v.met) (walked_term book cert at t h))

    instance_nodes : (ns : List (Node Exp)) → flat_map (filled book cert w fills i j) ns ≡ expand θ (retag (shift (i, j)) ns)
    unfolding flat_map retag expand filled
    instance_nodes [] = refl
    instance_nodes (nvar x ∷ ns) = ap₂ ◌++◌ (at_variable x) (instance_nodes ns)
    instance_nodes (nfun f ∷ ns) = ap (λ l. nfun f ∷ l) (instance_nodes ns)
    instance_nodes (npow s e ∷ ns) = ap (λ l. npow s (shift (i, j) e) ∷ l) (instance_nodes ns)

  module _ (s : List ℕ) (at : ℕ) where
    abbrev pub whole : List (Node Exp)
    whole = flat_map (filled book cert w fills i j) (walked book s at).met

    -- pushed and turned, that is the normal form
    pub instance_form : (t : Pattern) (θ : Filling Exp) → TermAt book s at t → FillsTold book cert w fills θ
        → reverse (pushes exponents [] whole) ≡ form_nodes (some (fill θ (reindex one (i, j) t)))
    unfolding reindex form mark_nodes
    instance_form t θ h F =
        ap (λ (u : Passage). reverse (pushes exponents [] (flat_map (filled book cert w fills i j) u.met))) (walked_term book s at t h)
        ∙ ap (λ ns. reverse (pushes exponents [] ns)) (instance_nodes θ F (nodes t))
        ∙ push_instance exponents (shift (i, j)) θ t

  module _ (s : List ℕ) (at base : ℕ) (v : List ℕ) where
    -- the side has the normal form
    instance_built : (r : Option ℕ) → Pushes base 0 (whole s at) w v r → (t : Pattern) (θ : Filling Exp) → TermAt book s at t → FillsTold book cert w fills θ
        → Built base (some (fill θ (reindex one (i, j) t))) v r
    instance_built r p t θ h F = built_form base w v r (some (fill θ (reindex one (i, j) t))) (whole s at) (instance_form s at t θ h F) p

    finished : (n e : ℕ) (ns : List (Node Exp)) → walked book s at ≡ record { met = ns; end = e } → Pushes base 0 (whole s at) w v (Some n)
        → Builds book s cert base at i j fills w v (Some (record { nodes = n; end = e }))
    unfolding Stored FewNodes Stacked
    finished n e ns q p = record {
      told = λ t θ h F. (instance_built (Some n) p t θ h F, ap (λ (u : Passage). u.end) (sym q ∙ walked_term book s at t h));
      few = p.holds.0;
      kept = p.kept;
    }

    pub built_over : {n : ℕ} {t u : Walk} → Pushing (filled book cert w fills i j) book s at base 0 w v n t → Turns t u None
        → Builds book s cert base at i j fills w v (Some (record { nodes = n; end = u.stand.at }))
    built_over {n} {t} {u} g turn = finished n u.stand.at _ (going_over g turn) (pushing_over _ book s at base 0 w v n t g turn)

    -- the next node fits
    pub building_fits : (n : ℕ) (t : Walk) {last : Option Spelt} → Pushing (filled book cert w fills i j) book s at base 0 w v n t
        → (base + SIDE ≤ length w) × (fills + 64 ≤ base) → i < 65536 → j < 65536 → Remembers book cert v base n last
        → Room base n v × ((load (stack v base n) ≤ 2 ^ 60) × (fills + 64 ≤ length v) × Remembers book cert v base n last)
    building_fits n t g before small-i small-j m =
        let room = pushing_room _ book s at base 0 w v n t g (record { within = before.0; few = omega arith }) in
        let light = pushing_light _ book s at base 0 w v n t g 0 (2 ^ 38) (no_load w base) (filled_light book cert w fills i j small-i small-j s at) in
        (room, (omega arith, omega (arith, room.within, before.1), m))

    pub built_full : {r : Option Side} → Pushes base 0 (whole s at) w v None → r ≡ None → Builds book s cert base at i j fills w v r
    unfolding Stored FewNodes
    built_full p e = rw e (record { told = instance_built None p; few = tt; kept = p.kept })

-- ---- a side that was built

pub few_done : {r : Option Side} {side-built : Side} → FewNodes r → r ≡ Some side-built → side-built.nodes ≤ NODES
unfolding FewNodes
few_done f q = rw q at f
