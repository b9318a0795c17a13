-- Calls that are reached, beside others and one after another.
use Prim.Native.Nat.{ℕ, suc, ◌+◌}
use mathlib.Core.Path.{◌≡◌}
use mathlib.Core.List.{[], ◌∷◌, ◌++◌}
use mathlib.Core.Option.{Option, none, some}
use native.Mathlib.Omega.{arith}
use Rattle.patterns.specs.Term.{Plain}
use Rattle.patterns.specs.Derive.{Book, Query, Step, Steps}
use Rattle.patterns.proofs.Derive.{steps_beside, steps_then, steps_cut}
use Rattle.patterns.specs.Claims.{End, Reaches}

-- what a call that is reached does beside others
pub solved : (P : Book (Unit {0})) (t : Plain) → Reaches P t none → (K : Query) → (n : ℕ) × Steps P (suc n) (t ∷ K) K
unfolding End
solved P t h K = (h.number, rw h.end at (steps_beside P (suc h.number) (t ∷ []) h.query K h.steps))

pub led : (P : Book (Unit {0})) (t s : Plain) → Reaches P t (some s) → (K : Query)
    → (n : ℕ) × (R : Query) × Steps P (suc n) (t ∷ K) (s ∷ R)
unfolding End
led P t s h K =
    (h.number, h.end.0 ++ K, rw h.end.1 at (steps_beside P (suc h.number) (t ∷ []) h.query K h.steps))

-- zero or more steps to an end
pub record Comes (P : Book (Unit {0})) (Q : Query) (m : Option Plain) : Type 0 where
  pub number : ℕ
  pub query : Query
  pub steps : Steps P number Q query
  pub end : End m query

pub after : {P : Book (Unit {0})} {Q R : Query} {m : Option Plain} (n : ℕ) → Steps P n Q R → Comes P R m → Comes P Q m
after {P} n s h = record {
  number = n + h.number;
  query = h.query;
  steps = steps_then P n h.number _ _ _ s h.steps;
  end = h.end;
}

pub begins : {P : Book (Unit {0})} {t : Plain} {Q : Query} {m : Option Plain} → Step P (t ∷ []) Q → Comes P Q m → Reaches P t m
unfolding Steps
begins {Q} s h = record { number = h.number; query = h.query; steps = (Q, s, h.steps); end = h.end }

pub comes : {P : Book (Unit {0})} {t : Plain} {m : Option Plain} → Reaches P t m → Comes P (t ∷ []) m
comes h = record { number = suc h.number; query = h.query; steps = h.steps; end = h.end }

-- a derivation that leads to a call with N steps before it, cut to one step more
pub goes_on : (P : Book (Unit {0})) (t s r : Plain) (K : Query) (N : ℕ) → s ≡ r
    → ((n : ℕ) × (R : Query) × Steps P (suc n) (t ∷ K) (s ∷ R))
    → ((R : Query) → (Q : Query) × Steps P N (r ∷ R) Q) → (Q : Query) × Steps P (suc N) (t ∷ K) Q
goes_on P t s r K N e a f =
    let b = f a.1 in
    let q : suc a.0 + N ≡ suc N + a.0 = omega arith in
    steps_cut P (suc N) a.0 (t ∷ K) b.0
    (rw q at (steps_then P (suc a.0) N (t ∷ K) (r ∷ a.1) b.0 (rw e at a.2) b.1))
