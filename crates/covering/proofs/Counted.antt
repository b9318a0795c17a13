-- Terms whose powers count: a pattern at an index, and a call. Such a term's meaning tells it, if it is normal.
use Prim.Native.Nat.{ℕ}
use mathlib.Core.Path.{◌≡◌, ◌∙◌, ap}
use native.Mathlib.Omega.{arith}
use Rattle.patterns.specs.Term.{Term, Terms, var, fun, pow, nil, cons, Plain, Plains, exps, exps*, plain, plain*, All, All*}
use Rattle.patterns.specs.Normal.{Over, Normal, Normal*}
use Rattle.patterns.specs.Counters.{alone, more, pair_path}
use Rattle.patterns.specs.Formed.{Formed}
use Rattle.patterns.specs.Edition.{at}
use Rattle.patterns.specs.First.{Exp, Pattern, exponents, value, Level, one}
use Rattle.patterns.proofs.Term.{plain_exps}
use Rattle.patterns.proofs.Formed.{formed_exps}
use Rattle.patterns.proofs.Meaning.{normal_apart}
use Rattle.patterns.proofs.Counters.{alone_tests}
use Rattle.covering.specs.Covers.{Call}
use Rattle.covering.specs.Search.{number}

abbrev pub Counted : Type 0
Counted = Term ℕ

abbrev pub means : Counted → Plain
means u = plain (λ n. n) u

abbrev pub means* : Terms ℕ → Plains
means* us = plain* (λ n. n) us

-- two constructors can't be equal
pub clash : {A : Type 0} → ◌≡◌ {A = ℕ} 0 1 → A
clash p = absurd (omega arith)

-- the terms that a call is made of
pub record Whole (ar : ℕ → ℕ) (u : Counted) : Type 0 where
  pub formed : Formed ar u
  pub normal : Normal alone u

pub means_inj : (ar : ℕ → ℕ) (u v : Counted) → Whole ar u → Whole ar v → means u ≡ means v → u ≡ v
means_inj ar u v h k p = normal_apart alone (Unit {0}) (λ i e. e) alone_tests u v h.normal k.normal (λ i. p)

-- ---- a pattern at an index

abbrev pub counted : ℕ → Pattern → Counted
counted i t = exps (value i) t

pub means_counted : (i : ℕ) (t : Pattern) → means (counted i t) ≡ at one i t
unfolding at
means_counted i t = plain_exps (λ n. n) (value i) t

-- ---- a call

abbrev pub plainly : Pattern → Counted
plainly c = exps number c

pub means_plainly : (c : Pattern) → means (plainly c) ≡ at one 0 c
unfolding at value
means_plainly c = plain_exps (λ n. n) number c ∙ ap (λ v. plain v c) (λ i e. zeroth e i)
  where
    zeroth : (e : Exp) → e.1 ≡ value 0 e
    zeroth e = omega arith

over_exps : {E F : Type 0} (h : E → F) (s : ℕ) (t : Term E) → Over s (exps h t) → Over s t
unfolding Over exps
over_exps h s (var x) o = o
over_exps h s (fun f ts) o = o
over_exps h s (pow r e t) o = o

nothing : (e : Exp) → Level e → e.1 ≡ 0 → e ≡ exponents.none
unfolding Level exponents more alone
nothing e p q = pair_path p q

mutual
  unfolding exps Normal All alone

  normal_plainly : (c : Pattern) → Normal exponents c → All Level c → Normal alone (plainly c)
  normal_plainly (var x) n a = tt
  normal_plainly (fun f ts) n a = normal_plainly* ts n a
  normal_plainly (pow s e t) n a =
      (λ z. n.0 (nothing e a.0 z), λ o. n.1 (over_exps number s t o), normal_plainly t n.2 a.1)

  normal_plainly* : (cs : Terms Exp) → Normal* exponents cs → All* Level cs → Normal* alone (exps* number cs)
  normal_plainly* nil n a = tt
  normal_plainly* (cons t ts) n a = (normal_plainly t n.0 a.0, normal_plainly* ts n.1 a.1)

pub whole_plainly : (ar : ℕ → ℕ) (c : Pattern) → Formed ar c → Call c → Whole ar (plainly c)
whole_plainly ar c h k = record { formed = formed_exps ar number c h; normal = normal_plainly c k.normal k.level }

mutual
  unfolding exps All

  pub all_exps : {E F : Type 0} (P : F → Type 0) (h : E → F) (t : Term E) → All (λ e. P (h e)) t → All P (exps h t)
  all_exps P h (var x) a = tt
  all_exps P h (fun f ts) a = all_exps* P h ts a
  all_exps P h (pow s e t) a = (a.0, all_exps P h t a.1)

  all_exps* : {E F : Type 0} (P : F → Type 0) (h : E → F) (ts : Terms E) → All* (λ e. P (h e)) ts → All* P (exps* h ts)
  all_exps* P h nil a = tt
  all_exps* P h (cons t ts) a = (all_exps P h t a.0, all_exps* P h ts a.1)
