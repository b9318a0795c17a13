-- The fields of a symbol and of a power: just those that the arities allow.
use Prim.Native.Nat.{ℕ, zero, suc, ◌≤◌, ◌<◌}
use mathlib.Core.Path.{◌≡◌, refl, sym, ap}
use mathlib.Core.Logic.{◌≢◌}
use mathlib.Core.List.{List, [], ◌∷◌}
use native.Mathlib.Omega.{arith}
use lib.ListN.{length}
use Rattle.patterns.specs.Every.{Every}
use Rattle.patterns.specs.First.{Exp, ex}
use Rattle.fields.specs.Kinds.{applied, unary, beside, InRange, Unnormal, Spent}
use Rattle.fields.specs.Kinds.{FieldKind as kind}
use Rattle.fields.proofs.Ranges.{passes_exactly}
use Rattle.grammar.specs.Terms.{a_symbol, a_unary, an_exponent, a_raise}
use Rattle.grammar.specs.Books.{arity_in}
use Rattle.grammar.proofs.Exactness.{Exactly, refit, field_exactly, from_to_exactly, both}

-- ---- the arities

-- a list of arities as a rule book has it
pub record Signature (arities : List ℕ) : Type 0 where
  pub small : Every (λ a. a ≤ 8) arities
  pub count : length arities < 256

listed_arity : (arities : List ℕ) → Every (λ a. a ≤ 8) arities → (f : ℕ) → f < length arities → arity_in arities f ≤ 8
unfolding Every arity_in
listed_arity [] h f k = absurd (omega arith)
listed_arity (a ∷ l) h zero k = h.0
listed_arity (a ∷ l) h (suc f) k = listed_arity l h.1 f (omega arith)

known_symbol : (arities : List ℕ) (f : ℕ) → arity_in arities f ≤ 8 → f < length arities
unfolding arity_in
known_symbol [] f k = absurd (omega arith)
known_symbol (a ∷ l) zero k = omega arith
known_symbol (a ∷ l) (suc f) k = let r = known_symbol l f k in omega arith

-- ---- a symbol's field and a power's fields

nonzero_forth : (a b : ℕ) → ¬ ((a ≡ 0) × (b ≡ 0)) → ex a b ≢ ex 0 0
nonzero_forth a b h p = h (ap (λ (x : Exp). x.0) p, ap (λ (x : Exp). x.1) p)

nonzero_back : (a b : ℕ) → ex a b ≢ ex 0 0 → ¬ ((a ≡ 0) × (b ≡ 0))
nonzero_back a b h p = h (λ i. ex (p.0 i) (p.1 i))

pub exponent_exactly : (end : ℕ) → end ≤ 4096
    → Exactly (an_exponent end) (λ e. (e.0 < end) × (e.1 < 4096) × (e ≢ ex 0 0)) (λ e. (12, e.0) ∷ (12, e.1) ∷ [])
unfolding an_exponent InRange Unnormal Spent
exponent_exactly end h =
    both
    (from_to_exactly kind.power_a 0 end (omega arith))
    (λ a k. field_exactly kind.power_b (beside a))
    (λ a b. (a, b))
    (λ a b k l. ((k.1, l.0, nonzero_forth a b ((passes_exactly (beside a) b).0 l.1).2), refl))
    (λ e k. (
      e.0,
      e.1,
      (omega arith, k.0),
      (k.1, (passes_exactly (beside e.0) e.1).1 ((λ z. z), tt, nonzero_back e.0 e.1 k.2)),
      refl,
    ))

-- a power's symbol and exponent, below the symbol `above`
unfoldable pub Raises : List ℕ → ℕ → ℕ → ℕ × Exp → Type 0
Raises arities end above p =
    (arity_in arities p.0 ≡ 1) × (p.0 < length arities) × (above ≢ p.0) × (p.1.0 < end) × (p.1.1 < 4096) × (p.1 ≢ ex 0 0)

module _ (arities : List ℕ) (sig : Signature arities) where
  pub symbol_exactly : Exactly (a_symbol (arity_in arities)) (λ f. (arity_in arities f ≢ 1) × (f < length arities)) (λ f. (8, f) ∷ [])
  unfolding a_symbol InRange Unnormal Spent
  symbol_exactly =
      refit
      (field_exactly kind.symbol (applied (arity_in arities)))
      (λ f h. let r = ((passes_exactly (applied (arity_in arities)) f).0 h.1).1 in (r.0, known_symbol arities f r.1))
      (λ f h.
      let c = sig.count in
      let l = h.1 in (
        omega arith,
        (passes_exactly (applied (arity_in arities)) f).1 ((λ z. z), (h.0, listed_arity arities sig.small f l), (λ z. z)),
      ))

  pub raise_exactly : (end above : ℕ) → end ≤ 4096
      → Exactly (a_raise (arity_in arities) end above) (Raises arities end above) (λ p. (8, p.0) ∷ (12, p.1.0) ∷ (12, p.1.1) ∷ [])
  unfolding a_raise a_unary Raises InRange Unnormal Spent
  raise_exactly end above h =
      both
      (field_exactly kind.power_symbol (unary (arity_in arities) above))
      (λ s k. exponent_exactly end h)
      (λ s e. (s, e))
      (λ s e k l.
      let r = (passes_exactly (unary (arity_in arities) above) s).0 k.1 in
      let a = r.1 in
      ((a, known_symbol arities s (omega arith), (λ z. r.2 (sym z)), l.0, l.1, l.2), refl))
      (λ p k.
      let c = sig.count in
      let l = k.1 in (
        p.0,
        p.1,
        (omega arith, (passes_exactly (unary (arity_in arities) above) p.0).1 ((λ z. z), k.0, (λ z. k.2 (sym z)))),
        (k.3, k.4, k.5),
        refl,
      ))
