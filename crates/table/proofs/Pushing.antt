-- What the code stores is what the push of the theory gives.
use Prim.Native.Nat.{ℕ, zero, suc, ◌+◌, ◌*◌, ◌-◌, ◌%◌, ◌≤◌, ◌<◌}
use mathlib.Core.Path.{◌≡◌, refl, sym, ap, subst, ◌∙◌}
use mathlib.Core.Logic.{if_pos, if_neg}
use mathlib.Core.List.{List, [], ◌∷◌}
use native.Mathlib.Decide.{ℕ_discrete}
use native.Mathlib.Numerals.{add-one}
use native.Mathlib.Omega.{arith}
use lib.ListN.{get_or}
use Rattle.patterns.specs.Term.{Node, npow}
use Rattle.patterns.specs.First.{Exp, exponents}
use Rattle.patterns.specs.Counters.{pair_path, more, alone}
use Rattle.patterns.specs.Push.{put, push, pushes}
use Rattle.table.specs.Places.{SIDE, NODES}
use Rattle.table.specs.Nodes.{node_of, node_at, with_node, stack, top_code, load}
use Rattle.table.specs.Sides.{node_told, Coded, Room, Stacked, Became, Pushes}
use Rattle.table.specs.declared.Item.{Item}
use Rattle.table.specs.declared.Item.TheVariants.{Plain, Power}
use Rattle.std.specs.Prelude.{Option, Some, None}
use Rattle.table.proofs.Nodes.{TellsNode, is_var, is_fun, is_pow, tells, pow_told, stack_length}
use Rattle.table.proofs.Writes.{kept_self, with_stack, with_kept}

pub became_as : {base : ℕ} {ns ms : List (Node Exp)} {w v : List ℕ} {r : Option ℕ} → ns ≡ ms → Became base ns w v r → Became base ms w v r
became_as {base} {ns} {ms} {w} {v} {r} e b = subst (λ l. Became base l w v r) e b

-- ---- a node stored

module _ (w : List ℕ) (base n code a b : ℕ) (room : Room base n w) where
  pub store_full : n ≡ NODES → Became base (node_of code a b ∷ stack w base n) w w None
  unfolding Stacked
  store_full h = record { holds = omega (arith, stack_length w base n); kept = kept_self base SIDE w }

  pub store_one : (v : List ℕ) → (n ≡ NODES → ⊥) → v ≡ with_node w (base + 3 * n) code a b
      → Became base (node_of code a b ∷ stack w base n) w v (Some (n + 1))
  unfolding Stacked
  store_one v h e =
      let less : n < NODES = omega (arith, room.few) in
      rw (add-one n, e)
      (record {
        holds = (omega arith, with_stack w base n code a b (omega (arith, room.within)));
        kept = with_kept w base n code a b less;
      })

-- ---- the node on top

pub top_none : (w : List ℕ) (base n : ℕ) → n ≡ 0 → 0 ≡ top_code w base n
unfolding top_code
top_none w base zero h = refl
top_none w base (suc n) h = absurd (omega arith)

pub top_one : (w : List ℕ) (base n : ℕ) → (n ≡ 0 → ⊥) → get_or w (base + 3 * (n - 1)) 0 ≡ top_code w base n
unfolding top_code
top_one w base zero h = absurd (h refl)
top_one w base (suc n) h = let down : suc n - 1 ≡ n = omega arith in rw down

pub top_some : (w : List ℕ) (base n s : ℕ) → top_code w base n ≡ 3 * s + 2 → 1 ≤ n
unfolding top_code
top_some w base zero s k = absurd (omega arith)
top_some w base (suc n) s k = omega arith

-- ---- a power

pub push_none : (ns : List (Node Exp)) (s a b : ℕ) → a + b ≡ 0 → push exponents ns (npow s (a, b)) ≡ ns
unfolding push exponents more alone
push_none ns s a b h = if_pos (exponents.none? (a, b)) (pair_path (omega arith) (omega arith)) _ _

pub push_some : (ns : List (Node Exp)) (s a b : ℕ) → (a + b ≡ 0 → ⊥) → push exponents ns (npow s (a, b)) ≡ put exponents s (a, b) ns
unfolding push exponents more alone
push_some ns s a b h =
    if_neg (exponents.none? (a, b))
    (λ z.
    let p : a ≡ 0 = ap (λ (e : Exp). e.0) z in
    let q : b ≡ 0 = ap (λ (e : Exp). e.1) z in
    h (omega arith)) _ _

pub put_other : {c x y : ℕ} {m : Node Exp} (s : ℕ) (e : Exp) (ns : List (Node Exp)) → TellsNode c x y m → (c ≡ 3 * s + 2 → ⊥)
    → put exponents s e (m ∷ ns) ≡ npow s e ∷ m ∷ ns
unfolding put
put_other s e ns (is_var x p) h = refl
put_other s e ns (is_fun f p) h = refl
put_other s e ns (is_pow r p) h = if_neg (ℕ_discrete r s) (λ z. h (omega arith)) _ _

pub put_like : {c x y : ℕ} {m : Node Exp} (s a b : ℕ) (ns : List (Node Exp)) → TellsNode c x y m → c ≡ 3 * s + 2
    → put exponents s (a, b) (m ∷ ns) ≡ npow s (x + a, y + b) ∷ ns
unfolding put exponents more alone
put_like s a b ns (is_var x p) h = absurd (omega arith)
put_like s a b ns (is_fun f p) h = absurd (omega arith)
put_like s a b ns (is_pow r p) h = let z : r ≡ s = omega arith in if_pos (ℕ_discrete r s) z _ _ ∙ rw z

push_other : (w : List ℕ) (base n s a b : ℕ) → (a + b ≡ 0 → ⊥) → (top_code w base n ≡ 3 * s + 2 → ⊥)
    → node_of (3 * s + 2) a b ∷ stack w base n ≡ push exponents (stack w base n) (npow s (a, b))
unfolding top_code stack node_at put
push_other w base zero s a b h k = ap (λ m. m ∷ []) (pow_told s a b) ∙ sym (push_some [] s a b h)
push_other w base (suc n) s a b h k =
    ap (λ m. m ∷ stack w base (suc n)) (pow_told s a b)
    ∙ sym (push_some _ s a b h ∙ put_other s (a, b) (stack w base n) (tells _ _ _) k)

-- dropped
pub push_dropped : (w : List ℕ) (base n s a b : ℕ) → n ≤ NODES → a + b ≡ 0 → Pushes base n (npow s (a, b) ∷ []) w w (Some n)
unfolding Stacked pushes
push_dropped w base n s a b few h =
    record { holds = (few, sym (push_none (stack w base n) s a b h)); kept = kept_self base SIDE w }

-- stored
pub push_stored : (w v : List ℕ) (base n s a b : ℕ) (r : Option ℕ) → (a + b ≡ 0 → ⊥) → (top_code w base n ≡ 3 * s + 2 → ⊥)
    → Became base (node_of (3 * s + 2) a b ∷ stack w base n) w v r → Pushes base n (npow s (a, b) ∷ []) w v r
unfolding pushes
push_stored w v base n s a b r h k g = became_as (push_other w base n s a b h k) g

-- added to its like
like_pushed : (w : List ℕ) (base n s a b : ℕ) → get_or w (base + 3 * n) 0 ≡ 3 * s + 2 → (a + b ≡ 0 → ⊥)
    → node_of (3 * s + 2) (get_or w (base + 3 * n + 1) 0 + a) (get_or w (base + 3 * n + 2) 0 + b) ∷ stack w base n
    ≡ push exponents (stack w base (suc n)) (npow s (a, b))
unfolding stack node_at
like_pushed w base n s a b k h =
    ap (λ m. m ∷ stack w base n) (pow_told s _ _)
    ∙ sym (push_some (stack w base (suc n)) s a b h ∙ put_like s a b (stack w base n) (tells _ _ _) k)

pub push_added : (w v : List ℕ) (base n s a b : ℕ) → Room base n w → (a + b ≡ 0 → ⊥) → top_code w base n ≡ 3 * s + 2
    → v ≡ with_node w (base + 3 * (n - 1)) (3 * s + 2) (get_or w (base + 3 * (n - 1) + 1) 0 + a) (get_or w (base + 3 * (n - 1) + 2) 0 + b)
    → Pushes base n (npow s (a, b) ∷ []) w v (Some n)
unfolding top_code Stacked pushes
push_added w v base zero s a b room h k e = absurd (omega arith)
push_added w v base (suc n) s a b room h k e =
    let down : suc n - 1 ≡ n = omega arith in
    let at : v ≡ with_node w (base + 3 * n) (3 * s + 2) (get_or w (base + 3 * n + 1) 0 + a) (get_or w (base + 3 * n + 2) 0 + b) = rw down at e in
    rw at
    (record {
      holds = (room.few, with_stack w base n _ _ _ (omega (arith, room.within, room.few)) ∙ like_pushed w base n s a b k h);
      kept = with_kept w base n _ _ _ (omega (arith, room.few));
    })

-- ---- a variable or a symbol

pub plain_pushed : {c x y : ℕ} {m : Node Exp} (ns : List (Node Exp)) → TellsNode c x y m → ¬ (c % 3 ≡ 2) → push exponents ns m ≡ m ∷ ns
unfolding push
plain_pushed ns (is_var x p) h = refl
plain_pushed ns (is_fun f p) h = refl
plain_pushed ns (is_pow s p) h = absurd (h (omega arith))

-- a power that comes next is a node of its own
pub plain_rests : {c x y : ℕ} {m : Node Exp} (ns : List (Node Exp)) → TellsNode c x y m → ¬ (c % 3 ≡ 2) → (s : ℕ) (e : Exp)
    → put exponents s e (m ∷ ns) ≡ npow s e ∷ m ∷ ns
plain_rests ns t h s e = put_other s e ns t (λ z. h (omega arith))

-- ---- any node

module _ (w v : List ℕ) (base n : ℕ) (r : Option ℕ) (m : Item) where
  pub push_plain : (code : ℕ) → m ≡ Plain code → Coded m → Became base (node_of code 0 0 ∷ stack w base n) w v r → Pushes base n (node_told m ∷ []) w v r
  unfolding node_told Coded pushes
  push_plain code e h g = let k : ¬ (code % 3 ≡ 2) = rw e at h in rw e (became_as (sym (plain_pushed (stack w base n) (tells code 0 0) k)) g)

  pub push_raised : (s a b : ℕ) → m ≡ Power s a b → Pushes base n (npow s (a, b) ∷ []) w v r → Pushes base n (node_told m ∷ []) w v r
  unfolding node_told
  push_raised s a b e g = rw e g

pub power_fits : (m : Item) (s a b : ℕ) (ns : List (Node Exp)) (bound : ℕ) → m ≡ Power s a b → load (node_told m ∷ ns) < bound → a + b + load ns < bound
unfolding node_told load
power_fits m s a b ns bound e h = rw e at h
