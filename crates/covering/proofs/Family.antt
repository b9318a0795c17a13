-- What a covering index says of the accepted family: the call is in it, never gets stuck, and is no variable.
use Prim.Native.Nat.{ℕ, zero, suc}
use mathlib.Core.Path.{◌≡◌, sym, ◌∙◌, ap, subst}
use mathlib.Core.Logic.{◌↔◌}
use mathlib.Core.List.{[], ◌∷◌, map}
use mathlib.Core.Option.{some}
use lib.ListN.{get_elem?}
use native.Mathlib.Omega.{arith}
use Rattle.patterns.specs.Term.{var, fun, pow, Plain, Filling, fill, plain, times, All}
use Rattle.patterns.specs.Normal.{Normal}
use Rattle.patterns.specs.Counters.{alone, more, pair_path}
use Rattle.patterns.specs.Derive.{Rule, Book, Query, Step, Steps, plain_rule}
use Rattle.patterns.specs.Edition.{at}
use Rattle.patterns.specs.Certificate.{Claim, Certificate, claim_of}
use Rattle.patterns.specs.Claims.{FixedRule, FixedBook, Family, program}
use Rattle.patterns.specs.Judge.{accept, judge}
use Rattle.patterns.specs.First.{Exp, Pattern, Pair, Pace, exponents, value, Level, one}
use Rattle.patterns.proofs.Every.{map_listed, every_listed}
use Rattle.patterns.proofs.First.{accepted_never_stuck}
use Rattle.covering.specs.Covers.{Covers, RootedRule, RootedBook}
use Rattle.covering.proofs.Counted.{clash}

-- a call is covered exactly if it is in the family
pub family_exactly : (l : Claim Exp) (s : Pace) (c : Pattern)
    → Family one l s (at one 0 c) ↔ ((i : ℕ) × Covers l.left s.α c i)
family_exactly l s c = (
  λ f. (f.index, record { from = f.from; filling = f.filling; call = sym f.call }),
  λ v. record { index = v.0; from = v.1.from; filling = v.1.filling; call = sym v.1.call },
)

-- a covered call of an accepted certificate never gets stuck
pub covered_never_stuck : (B : Book Exp) → FixedBook one B → (K : Certificate Exp Pair Pace) (l k α : ℕ)
    → judge one B K ≡ accept l (record { k = k; α = α })
    → (p : Claim Exp) × (get_elem? (map claim_of K.lines) l ≡ some p)
    × ((c : Pattern) (i : ℕ) → Covers p.left α c i → (n : ℕ) → (Q : Query) × Steps (program one B) n (at one 0 c ∷ []) Q)
covered_never_stuck B fixed K l k α h =
    let a = accepted_never_stuck B fixed K l k α h in (
      a.0,
      a.1,
      λ c i v n. subst (λ q. (Q : Query) × Steps (program one B) n (q ∷ []) Q) v.call (a.2 i v.from v.filling n),
    )

-- ---- no variable is covered

-- a power that a normal term has without index is applied at least once
counts_up : (e : Exp) → ¬ (e ≡ exponents.none) → Level e → ¬ (value 0 e ≡ 0)
unfolding exponents more alone Level value
counts_up e h p q = h (pair_path p (omega arith))

times_root : (n s : ℕ) (t : Plain) (σ : Filling (Unit {0})) (x : ℕ) → ¬ (n ≡ 0) → ¬ (fill σ (times n s t) ≡ var x)
unfolding times fill
times_root zero s t σ x h e = h (omega arith)
times_root (suc n) s t σ x h e = clash (cc)

-- no filled head is a variable
head_root : (t : Pattern) → Normal exponents t → ((x : ℕ) → ¬ (t ≡ var x)) → All Level t → (σ : Filling (Unit {0})) (x : ℕ)
    → ¬ (fill σ (plain (value 0) t) ≡ var x)
unfolding plain fill Normal All
head_root (var y) n r a σ x e = r y (cc)
head_root (fun f ts) n r a σ x e = clash (cc)
head_root (pow s d t) n r a σ x e = times_root (value 0 d) s (plain (value 0) t) σ x (counts_up d n.0 a.0) e

no_step : (B : Book Exp) → FixedBook one B → RootedBook B → (x : ℕ) (Q : Query) → ¬ (Step (program one B) (var x ∷ []) Q)
unfolding program FixedBook FixedRule RootedBook plain_rule
no_step B fixed rooted x Q s =
    let m = map_listed (plain_rule (value 0)) B s.number s.rule s.listed in
    let f = every_listed (FixedRule one) B fixed s.number m.0 m.1 in
    let r = every_listed RootedRule B rooted s.number m.0 m.1 in
    let e : var x ≡ fill s.filling s.rule.head = cc in
    let q : s.rule.head ≡ plain (value 0) m.0.head = sym (ap (λ (u : Rule (Unit {0})). u.head) m.2) in
    head_root m.0.head r.normal r.rooted f.0 s.filling x (ap (fill s.filling) (sym q) ∙ sym e)

-- An accepted certificate covers no call that is a variable: it would have a derivation of one step.
pub variable_not_covered : (B : Book Exp) → FixedBook one B → RootedBook B → (K : Certificate Exp Pair Pace) (l k α : ℕ)
    → judge one B K ≡ accept l (record { k = k; α = α })
    → (p : Claim Exp) × (get_elem? (map claim_of K.lines) l ≡ some p) × ((x i : ℕ) → ¬ Covers p.left α (var x) i)
unfolding Steps at plain
variable_not_covered B fixed rooted K l k α h =
    let a = covered_never_stuck B fixed K l k α h in (
      a.0,
      a.1,
      λ x i v. let d = a.2 (var x) i v 1 in no_step B fixed rooted x d.1.0 d.1.1,
    )
