-- No number wraps: pushing adds up exactly what is pushed, and no word of a power is above the sum.
use Prim.Native.Nat.{ℕ, zero, suc, ◌+◌, ◌*◌, ◌-◌, ◌≤◌}
use mathlib.Core.Path.{◌≡◌, refl, ap}
use mathlib.Core.Logic.{ite}
use mathlib.Core.List.{List, [], ◌∷◌, ◌++◌}
use native.Mathlib.Decide.{ℕ_discrete}
use native.Mathlib.Omega.{arith}
use lib.ListN.{get_or}
use Rattle.patterns.specs.Term.{Node, nvar, nfun, npow}
use Rattle.patterns.specs.First.{Exp, exponents}
use Rattle.patterns.specs.Counters.{more, alone}
use Rattle.patterns.specs.Push.{put, push, pushes}
use Rattle.table.specs.Nodes.{node_at, stack, top_code, load}
use Rattle.table.proofs.Nodes.{TellsNode, is_var, is_fun, is_pow, tells}

load_none : load [] ≡ 0
unfolding load
load_none = refl

pub load_cons : (m : Node Exp) (ns : List (Node Exp)) → load (m ∷ ns) ≡ load (m ∷ []) + load ns
unfolding load
load_cons (nvar x) ns = omega arith
load_cons (nfun f) ns = omega arith
load_cons (npow s e) ns = omega arith

pub load_append : (ms ns : List (Node Exp)) → load (ms ++ ns) ≡ load ms + load ns
unfolding load
load_append [] ns = omega arith
load_append (nvar x ∷ ms) ns = load_append ms ns
load_append (nfun f ∷ ms) ns = load_append ms ns
load_append (npow s e ∷ ms) ns = omega (arith, load_append ms ns)

load_sum : (s : ℕ) (d e : Exp) (ns : List (Node Exp))
    → load (npow s (exponents.add d e) ∷ ns) ≡ e.0 + e.1 + (d.0 + d.1 + load ns)
unfolding load exponents more alone
load_sum s d e ns = omega arith

load_put : (s : ℕ) (e : Exp) (ns : List (Node Exp)) → load (put exponents s e ns) ≡ e.0 + e.1 + load ns
unfolding load put
load_put s e [] = refl
load_put s e (nvar x ∷ ns) = refl
load_put s e (nfun f ∷ ns) = refl
load_put s e (npow r d ∷ ns) = go (ℕ_discrete r s)
  where
    go : (c : Dec (r ≡ s))
        → load (ite c (npow r (exponents.add d e) ∷ ns) (npow s e ∷ npow r d ∷ ns)) ≡ e.0 + e.1 + (d.0 + d.1 + load ns)
    go (yes p) = load_sum r d e ns
    go (no p) = refl

none_load : (e : Exp) → e ≡ exponents.none → e.0 + e.1 ≡ 0
unfolding exponents more alone
none_load e p = ap (λ (d : Exp). d.0 + d.1) p

pub load_push : (ns : List (Node Exp)) (m : Node Exp) → load (push exponents ns m) ≡ load (m ∷ ns)
unfolding load push
load_push ns (nvar x) = refl
load_push ns (nfun f) = refl
load_push ns (npow s e) = go (exponents.none? e)
  where
    go : (c : Dec (e ≡ exponents.none)) → load (ite c ns (put exponents s e ns)) ≡ e.0 + e.1 + load ns
    go (yes p) = omega (arith, none_load e p)
    go (no p) = load_put s e ns

pub load_pushes : (ns ms : List (Node Exp)) → load (pushes exponents ns ms) ≡ load ns + load ms
unfolding pushes
load_pushes ns [] = omega (arith, load_none)
load_pushes ns (m ∷ ms) = omega (arith, load_pushes (push exponents ns m) ms, load_push ns m, load_cons m ns, load_cons m ms)

-- ---- the words of the power on top

told_like : {c x y : ℕ} {m : Node Exp} (s : ℕ) (ns : List (Node Exp)) → TellsNode c x y m → c ≡ 3 * s + 2
    → load (m ∷ ns) ≡ x + y + load ns
unfolding load
told_like s ns (is_var x p) h = absurd (omega arith)
told_like s ns (is_fun f p) h = absurd (omega arith)
told_like s ns (is_pow r p) h = refl

pub top_light : (w : List ℕ) (base n s : ℕ) → top_code w base n ≡ 3 * s + 2
    → get_or w (base + 3 * (n - 1) + 1) 0 + get_or w (base + 3 * (n - 1) + 2) 0 ≤ load (stack w base n)
unfolding top_code stack node_at
top_light w base zero s h = absurd (omega arith)
top_light w base (suc n) s h =
    let down : suc n - 1 ≡ n = omega arith in
    rw (down, told_like s (stack w base n) (tells _ (get_or w (base + 3 * n + 1) 0) (get_or w (base + 3 * n + 2) 0)) h) (omega arith)
