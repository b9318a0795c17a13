-- The first of some checks that is not met, of lists one after the other, and of a comparison.
use Rattle.std.proofs.Common.{Result, Ok, Err, IsErrAnd}
use Rattle.std.proofs.lemmas.Result.{err_from_is_err_and}
use Prim.Native.Nat.{ℕ}
use mathlib.Core.Path.{◌≡◌, refl, sym, subst, ap, ◌∙◌}
use mathlib.Core.Logic.{ite, if_pos, if_neg}
use mathlib.Core.List.{List, [], ◌∷◌, ◌++◌}
use mathlib.Core.Option.{Option, none, some}
use native.Mathlib.Omega.{arith}
use Rattle.patterns.specs.Certificate.{Mark}
use Rattle.patterns.specs.First.{Exp, one}
use Rattle.patterns.specs.Demand.{small, same, Met, met?}
use Rattle.patterns.specs.Judge.{Check, check, given, compare}
use Rattle.comparing.specs.declared.Fault.{Fault}
use Rattle.comparing.specs.declared.Compared.{Compared}
use Rattle.comparing.specs.declared.Compared.TheVariants.{Equal, Unequal, TooBig}
use Rattle.comparing.specs.declared.Subject.{Subject}
use Rattle.comparing.specs.Subjects.{Settles, Compares}
use Rattle.comparing.specs.Found.{Found, fault, Tells, Finds}
use Rattle.comparing.specs.Asked.{Equals}

-- ---- one check

pub fault_met : (k : Check Exp) (ks : List (Check Exp)) → Met one k.demand → fault (k ∷ ks) ≡ fault ks
unfolding fault
fault_met k ks h = if_pos (met? one k.demand) h _ _

pub fault_unmet : (k : Check Exp) (ks : List (Check Exp)) → ¬ (Met one k.demand) → fault (k ∷ ks) ≡ some (k.number, k.part)
unfolding fault
fault_unmet k ks h = if_neg (met? one k.demand) h _ _

pub fault_none : fault [] ≡ none
unfolding fault
fault_none = refl

-- ---- one list after the other

fault_go_on : (ks ls : List (Check Exp)) → fault ks ≡ none → fault (ks ++ ls) ≡ fault ls
unfolding fault
fault_go_on [] ls e = refl
fault_go_on (k ∷ ks) ls e = go (met? one k.demand) (λ h. fault_go_on ks ls h) e
  where
    go : (d : Dec (Met one k.demand)) → (fault ks ≡ none → fault (ks ++ ls) ≡ fault ls) → ite d (fault ks) (some (k.number, k.part)) ≡ none
        → ite d (fault (ks ++ ls)) (some (k.number, k.part)) ≡ fault ls
    go (yes p) rest h = rest h
    go (no p) rest h = let z : ◌≡◌ {A = ℕ} 0 1 = cc in absurd (omega arith)

fault_stays : (ks ls : List (Check Exp)) (x : ℕ × ℕ) → fault ks ≡ some x → fault (ks ++ ls) ≡ some x
unfolding fault
fault_stays [] ls x e = let z : ◌≡◌ {A = ℕ} 0 1 = cc in absurd (omega arith)
fault_stays (k ∷ ks) ls x e = go (met? one k.demand) (λ h. fault_stays ks ls x h) e
  where
    go : (d : Dec (Met one k.demand)) → (fault ks ≡ some x → fault (ks ++ ls) ≡ some x)
        → ite d (fault ks) (some (k.number, k.part)) ≡ some x → ite d (fault (ks ++ ls)) (some (k.number, k.part)) ≡ some x
    go (yes p) rest h = rest h
    go (no p) rest h = h

pub at_fault : {ks : List (Check Exp)} {e : ℕ} {f : Fault} {r : Found} → Finds ks e r → r ≡ Err f → fault ks ≡ some (f.number, f.part)
unfolding Tells
at_fault {ks} {e} h q = subst (Tells ks e) q h.is

pub at_good : {ks : List (Check Exp)} {e x : ℕ} {r : Found} → Finds ks e r → r ≡ Ok x → (fault ks ≡ none) × (x ≡ e)
unfolding Tells
at_good {ks} {e} h q = subst (Tells ks e) q h.is

pub finds_fault : {ks : List (Check Exp)} {end e : ℕ} {f : Fault} {r : Found} → Finds ks e r → r ≡ Err f → Finds ks end (Err f)
unfolding Tells
finds_fault h q = record { is = at_fault h q }

-- what is handed on to a caller is the fault that was met
pub handed_on : {T E : Type 0} {f : E} (r : Result T E) → IsErrAnd r (λ y. y ≡ f) → r ≡ Err f
handed_on r h = let p = err_from_is_err_and r h in p.1 ∙ ap Err p.2

-- where all are met another end may be told
pub finds_last : {ks : List (Check Exp)} {end e x : ℕ} {r : Found} → Finds ks e r → r ≡ Ok x → Finds ks end (Ok end)
unfolding Tells
finds_last h q = record { is = ((at_good h q).0, refl) }

pub finds_stop : {ks : List (Check Exp)} {end e : ℕ} {f : Fault} {r : Found} (ls : List (Check Exp)) → Finds ks e r → r ≡ Err f → Finds (ks ++ ls) end (Err f)
unfolding Tells
finds_stop {ks} {f = f} ls h q = record { is = fault_stays ks ls (f.number, f.part) (at_fault h q) }

pub finds_then : {ks ls : List (Check Exp)} {end e x : ℕ} {r s : Found} → Finds ks e r → r ≡ Ok x → (x ≡ e → Finds ls end s) → Finds (ks ++ ls) end s
unfolding Tells
finds_then {ks} {ls} {end} {e} {x} {r} {s} h q rest = record { is = go s (rest g.1).is }
  where
    g : (fault ks ≡ none) × (x ≡ e)
    g = at_good h q

    go : (s : Found) → Tells ls end s → Tells (ks ++ ls) end s
    go (Err f) z = fault_go_on ks ls g.0 ∙ z
    go (Ok y) z = (fault_go_on ks ls g.0 ∙ z.0, z.1)

-- ---- one check by itself

-- a number and a part, as they are told
abbrev pub unmet : ℕ → ℕ → Found
unmet n p = Err (record { number = n; part = p })

pub finds_met : {k : Check Exp} {end : ℕ} → Met one k.demand → Finds (k ∷ []) end (Ok end)
unfolding Tells
finds_met {k} h = record { is = (fault_met k [] h ∙ fault_none, refl) }

pub finds_unmet : {k : Check Exp} {end : ℕ} (ks : List (Check Exp)) → ¬ (Met one k.demand) → Finds (k ∷ ks) end (unmet k.number k.part)
unfolding Tells
finds_unmet {k} ks h = record { is = fault_unmet k ks h }

-- a list of which this is known
pub finds_none : {ks : List (Check Exp)} {end : ℕ} → fault ks ≡ none → Finds ks end (Ok end)
unfolding Tells
finds_none e = record { is = (e, refl) }

pub finds_ending : {ks : List (Check Exp)} {e end : ℕ} {r : Found} → e ≡ end → Finds ks e r → Finds ks end r
finds_ending {ks} {r = r} q h = subst (λ x. Finds ks x r) q h

-- checks over what is given
pub finds_given : {A : Type 0} {o : Option A} {a : A} {end : ℕ} {r : Found} (f : A → List (Check Exp)) → o ≡ some a → Finds (f a) end r → Finds (given o f) end r
unfolding given
finds_given {A} {o} {a} {end} {r} f e h = subst (λ x. Finds (given x f) end r) (sym e) h

-- ---- a comparison

module _ (n p : ℕ) (m k : Mark Exp) (end : ℕ) where
  pub finds_equal : {e : ℕ} {r : Compared} → Settles m k end r → r ≡ Equal e → Finds (compare n p m k) end (Ok e)
  unfolding Settles Tells compare
  finds_equal {e} s q =
      let h : Met one (small m) × Met one (small k) × Met one (same m k) × (e ≡ end) = rw q at s in
      record { is = (fault_met _ _ h.0 ∙ fault_met _ _ h.1 ∙ fault_met _ _ h.2 ∙ fault_none, h.3) }

  pub finds_unequal : {r : Compared} → Settles m k end r → r ≡ Unequal → Finds (compare n p m k) end (unmet n p)
  unfolding Settles Tells compare
  finds_unequal s q =
      let h : Met one (small m) × Met one (small k) × (¬ (Met one (same m k))) = rw q at s in
      record { is = fault_met _ _ h.0 ∙ fault_met _ _ h.1 ∙ fault_unmet _ _ h.2 }

  pub finds_too_big : {r : Compared} → Settles m k end r → r ≡ TooBig → Finds (compare n p m k) end (unmet 16 p)
  unfolding Settles Tells compare
  finds_too_big s q = let h : ¬ (Met one (small m) × Met one (small k)) = rw q at s in record { is = go h (met? one (small m)) (met? one (small k)) }
    where
      go : ¬ (Met one (small m) × Met one (small k)) → Dec (Met one (small m)) → Dec (Met one (small k))
          → fault (check 16 p (small m) ∷ check 16 p (small k) ∷ check n p (same m k) ∷ []) ≡ some (16, p)
      go h (no x) y = fault_unmet _ _ x
      go h (yes x) (no y) = fault_met _ _ x ∙ fault_unmet _ _ y
      go h (yes x) (yes y) = absurd (h (x, y))

module _ {book cert w after : List ℕ} {a b : Subject} {r : Compared} (n p : ℕ) (c : Compares book cert a b w after r) where
  pub equals_equal : {e : ℕ} → r ≡ Equal e → Equals book cert n p a b w after (Ok e)
  equals_equal q = record { told = λ m e x k f y. finds_equal n p m k e (c.told m e x k f y) q; below = c.below }

  pub equals_unequal : r ≡ Unequal → Equals book cert n p a b w after (unmet n p)
  equals_unequal q = record { told = λ m e x k f y. finds_unequal n p m k e (c.told m e x k f y) q; below = c.below }

  pub equals_too_big : r ≡ TooBig → Equals book cert n p a b w after (unmet 16 p)
  equals_too_big q = record { told = λ m e x k f y. finds_too_big n p m k e (c.told m e x k f y) q; below = c.below }
