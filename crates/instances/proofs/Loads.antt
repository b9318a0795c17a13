-- What a walk pushes is light: its numbers have 12 bits each, and it meets at most 256 nodes.
use Prim.Native.Nat.{ℕ, zero, suc, ◌*◌, ◌-◌, ◌≤◌, ◌<◌, ◌^◌}
use mathlib.Core.Path.{◌≡◌, refl, sym, subst, ap, ◌∙◌}
use mathlib.Core.Bool.{Bool, true, false, cond}
use mathlib.Core.List.{List, [], ◌∷◌, ◌++◌, flat_map, append_assoc, append-nil}
use native.Mathlib.Nat.{mul-le-mul, mul-suc}
use native.Mathlib.Omega.{arith}
use lib.Dec.{eqb}
use Rattle.patterns.specs.Term.{Node, nvar}
use Rattle.patterns.specs.First.{Exp, shift}
use Rattle.table.specs.Nodes.{load}
use Rattle.table.proofs.Loads.{load_append}
use Rattle.instances.specs.Fillings.{entry}
use Rattle.instances.specs.Headers.{header_at}
use Rattle.instances.specs.Walks.{single, next_stand, ahead, ended, walk, walked}
use Rattle.instances.specs.Filled.{itself, filled}
use Rattle.instances.specs.declared.Header.{Header}
use Rattle.instances.specs.declared.Header.TheVariants.{Variable, Symbol, Power, Missing}
use Rattle.instances.specs.declared.Stand.{Stand}
use Rattle.instances.proofs.Headers.{SmallHeader, header_small}

-- ---- a list for each node, one after the other

pub flat_map_append : {A B : Type 0} (f : A → List B) (l m : List A) → flat_map f (l ++ m) ≡ flat_map f l ++ flat_map f m
unfolding flat_map
flat_map_append f [] m = refl
flat_map_append f (a ∷ l) m = ap (λ k. f a ++ k) (flat_map_append f l m) ∙ sym (append_assoc (f a) (flat_map f l) (flat_map f m))

pub each_itself : (ns : List (Node Exp)) → flat_map itself ns ≡ ns
unfolding flat_map
each_itself [] = refl
each_itself (m ∷ ns) = ap (λ l. m ∷ l) (each_itself ns)

-- ---- a walk is as light as its headers

module _ (f : Node Exp → List (Node Exp)) (cost : ℕ) (light : (h : Header) → SmallHeader h → load (flat_map f (single h)) ≤ cost) (book s : List ℕ) where
  walk_light : (left : ℕ) (p : Stand) → load (flat_map f (walk book s left p).met) ≤ cost * left
  unfolding walk flat_map load
  walk_light zero p = omega arith
  walk_light (suc left) p =
      let h = header_at book s p.at in
      more left p h (next_stand p.pending h) (header_small book s p.at) (walk_light left (next_stand p.pending h)) (eqb p.pending 0)
    where
      more : (left : ℕ) (p : Stand) (h : Header) (q : Stand) → SmallHeader h → load (flat_map f (walk book s left q).met) ≤ cost * left → (b : Bool)
          → load (flat_map f (cond b (ended p) (ahead (single h) (walk book s left q))).met) ≤ cost * suc left
      more left p h q m k true = omega arith
      more left p h q m k false = rw (flat_map_append f (single h) (walk book s left q).met)
          (omega (arith, load_append (flat_map f (single h)) (flat_map f (walk book s left q).met), light h m, mul-suc cost left))

  pub walked_light : (at : ℕ) → load (flat_map f (walked book s at).met) ≤ cost * 256
  unfolding walked
  walked_light at = walk_light 256 (record { at = at; pending = 1 })

-- as it stands
light_itself : (h : Header) → SmallHeader h → load (flat_map itself (single h)) ≤ 2 ^ 13
unfolding flat_map single load SmallHeader
light_itself (Variable x c) m = omega arith
light_itself (Symbol f n c) m = omega arith
light_itself (Power f a b c) m = omega (arith, m.0, m.1)
light_itself Missing m = omega arith

pub spelled_light : (book s : List ℕ) (at : ℕ) → load (walked book s at).met ≤ 2 ^ 21
spelled_light book s at =
    subst (λ ns. load ns ≤ 2 ^ 21) (each_itself (walked book s at).met) (walked_light itself (2 ^ 13) light_itself book s at)

-- reindexed and filled
module _ (book cert w : List ℕ) (fills i j : ℕ) (small-i : i < 65536) (small-j : j < 65536) where
  light_filled : (h : Header) → SmallHeader h → load (flat_map (filled book cert w fills i j) (single h)) ≤ 2 ^ 30
  unfolding flat_map single load SmallHeader filled shift
  light_filled (Variable x c) m = rw append-nil (go (eqb (entry w fills x) 0))
    where
      go : (b : Bool) → load (cond b (nvar x ∷ []) (walked book cert (entry w fills x - 1)).met) ≤ 2 ^ 30
      go true = omega arith
      go false = omega (arith, spelled_light book cert (entry w fills x - 1))
  light_filled (Symbol f n c) m = omega arith
  light_filled (Power f a b c) m =
      let u : a ≤ 4095 = omega (arith, m.0) in
      let v : i ≤ 65535 = omega arith in
      let z : j ≤ 65535 = omega arith in
      omega (arith, mul-le-mul u v, mul-le-mul u z, m.1)
  light_filled Missing m = omega arith

  pub filled_light : (s : List ℕ) (at : ℕ) → load (flat_map (filled book cert w fills i j) (walked book s at).met) ≤ 2 ^ 38
  filled_light s at = walked_light (filled book cert w fills i j) (2 ^ 30) light_filled book s at
