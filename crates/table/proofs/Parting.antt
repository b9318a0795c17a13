-- Where two sides part: what one node more does to the number, and what the number settles in the end.
use Prim.Native.Nat.{ℕ, ◌+◌, ◌*◌, ◌%◌, ◌≤◌, ◌<◌}
use mathlib.Core.Path.{◌≡◌, refl, sym, ap, ap₂, subst, ◌∙◌}
use mathlib.Core.Logic.{◌≢◌}
use mathlib.Core.Bool.{Bool, true, false, ◌&&◌}
use mathlib.Core.List.{List, [], ◌∷◌}
use native.Mathlib.Decide.{ℕ_discrete}
use native.Mathlib.Omega.{arith}
use lib.Dec.{eqb}
use lib.ListN.{length, get_or}
use borrow.Author.Tests.{eq-eqb, ne_eqb}
use Rattle.patterns.specs.Term.{Node, nvar, nfun, npow}
use Rattle.patterns.specs.First.{Exp}
use Rattle.patterns.specs.Counters.{pair_path}
use Rattle.table.specs.Nodes.{node_of, node_at, stack}
use Rattle.table.specs.Answer.{Says}
use Rattle.table.specs.Second.{Parts, none, before, alike, here, PartsNext, IsPower, PowerPartsNext}
use Rattle.table.proofs.Nodes.{code_other, no_power, pow_told}
use Rattle.table.proofs.Answer.{says_true, says_false}

-- ---- the whole

module _ {w : List ℕ} {base n : ℕ} where
  pub parts_low : {ns : List (Node Exp)} {p : ℕ} → Parts w base n ns p → p ≤ n
  parts_low (none e) = omega arith
  parts_low (before x l) = parts_low x
  parts_low (alike x l e) = parts_low x
  parts_low (here x l d e) = omega (arith, parts_low x)

  -- as far as no node differs
  pub parts_none : {ns : List (Node Exp)} {p : ℕ} → Parts w base n ns p → length ns ≤ p → stack w base (length ns) ≡ ns
  unfolding stack
  parts_none (none e) l = refl
  parts_none (before x b) l = absurd (omega arith)
  parts_none (alike x b e) l = ap₂ ◌∷◌ e (parts_none x (omega arith))
  parts_none (here x b d e) l = absurd (omega arith)

  -- one does
  pub parts_some : {ns : List (Node Exp)} {p : ℕ} → Parts w base n ns p → p < n → stack w base (length ns) ≢ ns
  unfolding stack
  parts_some (none e) l q = omega arith
  parts_some (before x b) l q = parts_some x l (cc)
  parts_some (alike x b e) l q = parts_some x l (cc)
  parts_some (here x b d e) l q = d (cc)

-- ---- one node more

module _ {w : List ℕ} {base k p : ℕ} {m : Node Exp} where
  pub next_before : p ≤ k → PartsNext w base k p m p
  next_before l = record { told = λ n ns e x. before x (omega arith); low = omega arith }

  next_alike : k < p → node_at w (base + 3 * k) ≡ m → PartsNext w base k p m p
  next_alike l q = record {
    told = λ n ns e x. alike x (omega arith) (subst (λ i. node_at w (base + 3 * i) ≡ m) e q);
    low = omega arith;
  }

  next_here : k < p → node_at w (base + 3 * k) ≢ m → PartsNext w base k p m k
  next_here l q = record {
    told = λ n ns e x. here x (omega arith) (subst (λ i. node_at w (base + 3 * i) ≢ m) e q) e;
    low = omega arith;
  }

-- ---- a variable or a symbol, by its word alone

module _ {w : List ℕ} {base k p code : ℕ} where
  pub plain_alike : k < p → ¬ (code % 3 ≡ 2) → get_or w (base + 3 * k) 0 ≡ code → PartsNext w base k p (node_of code 0 0) p
  unfolding node_at
  plain_alike l h e = next_alike l (rw e (no_power code _ _ 0 0 h))

  pub plain_here : k < p → ¬ (get_or w (base + 3 * k) 0 ≡ code) → PartsNext w base k p (node_of code 0 0) k
  unfolding node_at
  plain_here l d = next_here l (code_other _ _ _ _ _ _ d)

-- ---- a power, by its three words

module _ (w : List ℕ) (at code a b : ℕ) where
  pub word_other : ¬ (get_or w at 0 ≡ code) → IsPower w at code a b false
  unfolding Says node_at
  word_other d = record { told = λ s e z. code_other _ _ _ _ a b d (z ∙ sym (pow_told s a b) ∙ ap (λ c. node_of c a b) (sym e)) }

  module _ (same : get_or w at 0 ≡ code) where
    told_so : (s : ℕ) → code ≡ 3 * s + 2 → node_at w at ≡ npow s (get_or w (at + 1) 0, get_or w (at + 2) 0)
    unfolding node_at
    told_so s e = ap (λ c. node_of c (get_or w (at + 1) 0) (get_or w (at + 2) 0)) (same ∙ e) ∙ pow_told s _ _

    numbers : (s : ℕ) → code ≡ 3 * s + 2 → node_at w at ≡ npow s (a, b) → ◌≡◌ {A = Exp} (get_or w (at + 1) 0, get_or w (at + 2) 0) (a, b)
    numbers s e z = cc (told_so s e)

    pub first_other : ¬ (get_or w (at + 1) 0 ≡ a) → IsPower w at code a b false
    unfolding Says
    first_other d = record { told = λ s e z. d (ap (λ (x : Exp). x.0) (numbers s e z)) }

    pub second_told : get_or w (at + 1) 0 ≡ a → IsPower w at code a b (eqb (get_or w (at + 2) 0) b)
    unfolding Says
    second_told f = record { told = λ s e. go s e (ℕ_discrete (get_or w (at + 2) 0) b) }
      where
        go : (s : ℕ) → code ≡ 3 * s + 2 → Dec (get_or w (at + 2) 0 ≡ b) → Says (node_at w at ≡ npow s (a, b)) (eqb (get_or w (at + 2) 0) b)
        go s e (yes g) = rw (eq-eqb _ _ g) (told_so s e ∙ ap (npow s) (pair_path f g))
        go s e (no g) = rw (ne_eqb _ _ g) (λ z. g (ap (λ (x : Exp). x.1) (numbers s e z)))

  -- that is what `==` tells of the three words
  pub words_told : {r : Bool} → r ≡ (eqb (get_or w at 0) code && (eqb (get_or w (at + 1) 0) a && eqb (get_or w (at + 2) 0) b)) → IsPower w at code a b r
  words_told {r} e = rw e (go (ℕ_discrete (get_or w at 0) code) (ℕ_discrete (get_or w (at + 1) 0) a))
    where
      go : Dec (get_or w at 0 ≡ code) → Dec (get_or w (at + 1) 0 ≡ a)
          → IsPower w at code a b (eqb (get_or w at 0) code && (eqb (get_or w (at + 1) 0) a && eqb (get_or w (at + 2) 0) b))
      go (yes p) (yes q) = rw (eq-eqb _ _ p, eq-eqb _ _ q) (second_told p q)
      go (yes p) (no q) = rw (eq-eqb _ _ p, ne_eqb _ _ q) (first_other p q)
      go (no p) d = rw (ne_eqb _ _ p) (word_other p)

module _ {w : List ℕ} {base k p code a b : ℕ} where
  pub power_before : p ≤ k → PowerPartsNext w base k p code a b p
  power_before l = record { told = λ s e. next_before l; low = omega arith }

  module _ (l : k < p) {t : Bool} (x : IsPower w (base + 3 * k) code a b t) where
    pub power_alike : t ≡ true → PowerPartsNext w base k p code a b p
    power_alike q = record { told = λ s e. next_alike l (says_true t (x.told s e) q); low = omega arith }

    pub power_here : t ≡ false → PowerPartsNext w base k p code a b k
    power_here q = record { told = λ s e. next_here l (says_false t (x.told s e) q); low = omega arith }

-- ---- worked examples: f(s^{1,2}(x)) is stored, in nine words

abbrev pub stored : List ℕ
stored = 1 ∷ 0 ∷ 0 ∷ 2 ∷ 1 ∷ 2 ∷ 0 ∷ 0 ∷ 0 ∷ []

-- f(s^{1,2}(x)) does not part from it; f(s^{1,3}(y)) does at number 1, and not again at 2
pub parts_nowhere : Parts stored 0 3 (nvar 0 ∷ npow 0 (1, 2) ∷ nfun 0 ∷ []) 3
unfolding node_at node_of
parts_nowhere = alike (alike (alike (none refl) (omega arith) refl) (omega arith) refl) (omega arith) refl

other_b : node_at stored 3 ≢ npow 0 (1, 3)
unfolding node_at node_of
other_b e = let q : ◌≡◌ {A = Exp} (1, 2) (1, 3) = cc in omega (arith, ap (λ (x : Exp). x.1) q)

pub parts_at_1 : Parts stored 0 3 (nvar 1 ∷ npow 0 (1, 3) ∷ nfun 0 ∷ []) 1
unfolding node_at node_of
parts_at_1 = before (here (alike (none refl) (omega arith) refl) (omega arith) other_b refl) (omega arith)
