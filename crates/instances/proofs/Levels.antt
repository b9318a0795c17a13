-- Whether a = 0 in every power of a term is told by its nodes, and the walk asks each of them.
use Prim.Native.Nat.{ℕ}
use Rattle.std.specs.Prelude.{Some, None}
use mathlib.Core.Path.{◌≡◌, refl, sym, subst, ap, ◌∙◌}
use mathlib.Core.Bool.{Bool, true, false, not, false≢true}
use mathlib.Core.List.{List, ◌++◌}
use lib.Dec.{eqb}
use borrow.Author.Tests.{eqb-true, eqb-false}
use Rattle.bits.specs.declared.Cursor.{Cursor}
use Rattle.patterns.specs.Term.{Terms, var, fun, pow, nil, cons, All, All*, nodes, nodes*}
use Rattle.patterns.specs.First.{Exp, Pattern, Level}
use Rattle.patterns.specs.Every.{Every}
use Rattle.patterns.proofs.Every.{every_first, every_rest, every_append}
use Rattle.table.specs.Answer.{Says}
use Rattle.instances.specs.Lying.{TermAt}
use Rattle.instances.specs.Walks.{single, Passage, walked, LevelNode}
use Rattle.instances.specs.Turns.{Begins, Turns}
use Rattle.instances.specs.Instances.{Levels}
use Rattle.instances.specs.declared.Header.{Header}
use Rattle.instances.specs.declared.Header.TheVariants.{Variable, Symbol, Power, Missing}
use Rattle.instances.specs.declared.nodes.Walk.{Walk}
use Rattle.instances.proofs.Walks.{walked_term}
use Rattle.instances.proofs.Goings.{Going, going_start, going_over, going_more, going_on}

mutual
  unfolding All nodes Every LevelNode

  level_node_all : (t : Pattern) → Every LevelNode (nodes t) → All Level t
  level_node_all (var x) c = tt
  level_node_all (fun f ts) c = level_node_all* ts c.1
  level_node_all (pow s e t) c = (c.0, level_node_all t c.1)

  level_node_all* : (ts : Terms Exp) → Every LevelNode (nodes* ts) → All* Level ts
  level_node_all* nil c = tt
  level_node_all* (cons t ts) c =
      (level_node_all t (every_first LevelNode (nodes t) (nodes* ts) c), level_node_all* ts (every_rest LevelNode (nodes t) (nodes* ts) c))

mutual
  unfolding All nodes Every LevelNode

  all_level_node : (t : Pattern) → All Level t → Every LevelNode (nodes t)
  all_level_node (var x) a = (tt, tt)
  all_level_node (fun f ts) a = (tt, all_level_node* ts a)
  all_level_node (pow s e t) a = (a.0, all_level_node t a.1)

  all_level_node* : (ts : Terms Exp) → All* Level ts → Every LevelNode (nodes* ts)
  all_level_node* nil a = tt
  all_level_node* (cons t ts) a = every_append LevelNode (nodes t) (nodes* ts) (all_level_node t a.0) (all_level_node* ts a.1)

-- ---- one node

module _ (h : Header) where
  pub level_node_variable : (x : ℕ) (c : Cursor) → h ≡ Variable x c → Says (Every LevelNode (single h)) true
  unfolding Says Every LevelNode single
  level_node_variable x c e = rw e (tt, tt)

  pub level_node_symbol : (f n : ℕ) (c : Cursor) → h ≡ Symbol f n c → Says (Every LevelNode (single h)) true
  unfolding Says Every LevelNode single
  level_node_symbol f n c e = rw e (tt, tt)

  pub level_node_power : (s a b : ℕ) (c : Cursor) → h ≡ Power s a b c → Says (Every LevelNode (single h)) (eqb a 0)
  unfolding Says Every LevelNode single Level
  level_node_power s a b c e = rw e (go (eqb a 0) refl)
    where
      go : (r : Bool) → eqb a 0 ≡ r → Says ((a ≡ 0) × Unit {0}) r
      go true q = (eqb-true a 0 q, tt)
      go false q = λ z. eqb-false a 0 q z.0

  pub level_node_missing : h ≡ Missing → Says (Every LevelNode (single h)) true
  unfolding Says Every single
  level_node_missing e = rw e tt

-- ---- the walk that asks each node

abbrev pub Levelling : List ℕ → List ℕ → ℕ → Walk → Type 0
Levelling book s at t = Going (Every LevelNode) book s at t

pub levelling_start : {book s : List ℕ} {at : ℕ} {t : Walk} → Begins book s at t → Levelling book s at t
unfolding Every
levelling_start b = going_start b tt

met_nodes : {book s : List ℕ} {at : ℕ} (v : Passage) → walked book s at ≡ v → (t : Pattern) → TermAt book s at t → v.met ≡ nodes t
met_nodes {book} {s} {at} v e t h = ap (λ (v : Passage). v.met) (sym e ∙ walked_term book s at t h)

module _ {book s : List ℕ} {at : ℕ} {walk : Walk} (g : Levelling book s at walk) {u : Walk} where
  pub levelling_over : Turns walk u None → Levels book s at true
  unfolding Says
  levelling_over n = record { told = λ t h. level_node_all t (subst (Every LevelNode) (met_nodes _ (going_over g n) t h) g.holds) }

  module _ {h : Header} (n : Turns walk u (Some h)) where
    pub levelling_not : (b : Bool) → Says (Every LevelNode (single h)) b → not b ≡ true → Levels book s at false
    unfolding Says
    levelling_not true so z = absurd (false≢true z)
    levelling_not false wild z = record {
      told = λ t l a. wild (every_rest LevelNode g.met (single h) (every_first LevelNode (g.met ++ single h) _
          (subst (Every LevelNode) (sym (met_nodes _ (going_more g n) t l)) (all_level_node t a))));
    }

    pub levelling_on : (b : Bool) → Says (Every LevelNode (single h)) b → not b ≡ false → Levelling book s at u
    unfolding Says
    levelling_on true so z = going_on g n (every_append LevelNode g.met (single h) g.holds so)
    levelling_on false wild z = absurd (false≢true (sym z))
