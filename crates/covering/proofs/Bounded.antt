-- No index above every number of the call's powers covers it, unless the pattern has no index: then all do, or none.
use Prim.Native.Nat.{ℕ, zero, suc, ◌+◌, ◌*◌, ◌≤◌, ◌<◌}
use mathlib.Core.Path.{◌≡◌, refl, sym, ◌∙◌}
use native.Mathlib.Nat.{suc-mul}
use native.Mathlib.Omega.{arith}
use Rattle.patterns.specs.Term.{Terms, var, fun, pow, nil, cons, Filling, fill, fill*, exps, exps*, plain, times, All, All*}
use Rattle.patterns.specs.Normal.{Normal, Normal*}
use Rattle.patterns.specs.Counters.{alone}
use Rattle.patterns.specs.Formed.{Formed, Formed*}
use Rattle.patterns.specs.Edition.{at}
use Rattle.patterns.specs.First.{Exp, Pattern, value, unmoved, Level, one}
use Rattle.patterns.proofs.Term.{fill_times, plain_agree, all_map}
use Rattle.covering.proofs.Counted.{Counted, means, means*, Whole, counted, clash}
use Rattle.covering.proofs.Peeling.{tells}

-- a factor that keeps a product below the other factor
no_factor : (a i k : ℕ) → k < i → a * i ≤ k → a ≡ 0
no_factor zero i k h p = refl
no_factor (suc a) i k h p = absurd (omega (arith, suc-mul a i))

module _ (ar : ℕ → ℕ) (σ : Filling (Unit {0})) (i k : ℕ) (far : k < i) where
  mutual
    unfolding fill exps plain times value All Level Formed Normal alone

    pub level_beyond : (t : Pattern) (u : Counted) → Whole ar u → All (λ m. m ≤ k) u
        → fill σ (means (counted i t)) ≡ means u → All Level t
    level_beyond (var x) u w a e = tt
    level_beyond (fun f ts) (var y) w a e = clash (cc)
    level_beyond (fun f ts) (fun g us) w a e = level_beyond* ts us w.formed.2 w.normal a (cc)
    level_beyond (fun f ts) (pow r zero u) w a e = absurd (w.normal.0 refl)
    level_beyond (fun f ts) (pow r (suc m) u) w a e = clash (cc)
    level_beyond (pow s d t) u w a e =
        let n : ℕ = d.0 * i + d.1 in
        let p = tells ar s n u w (fill σ (means (counted i t))) (sym (fill_times σ n s (means (counted i t))) ∙ e) in
        let q = p.2 k a in
        let l = q.0 in
        (no_factor d.0 i k far (omega arith), level_beyond t p.0 p.1 q.1 p.3)

    level_beyond* : (ts : Terms Exp) (us : Terms ℕ) → Formed* ar us → Normal* alone us → All* (λ m. m ≤ k) us
        → fill* σ (means* (exps* (value i) ts)) ≡ means* us → All* Level ts
    level_beyond* nil us h w a e = tt
    level_beyond* (cons t ts) nil h w a e = clash (cc)
    level_beyond* (cons t ts) (cons u us) h w a e = (
      level_beyond t u (record { formed = h.0; normal = w.0 }) a.0 (cc),
      level_beyond* ts us h.1 w.1 a.1 (cc),
    )

-- without index, a pattern means the same everywhere
pub level_at : (t : Pattern) → All Level t → (i j : ℕ) → at one i t ≡ at one j t
unfolding at
level_at t a i j = plain_agree (value i) (value j) t (all_map (λ e p. unmoved e p i j) t a)
