-- The tests of symbols, as a walk along fields meets them.
use Rattle.std.specs.Prelude.{Result, Ok, Err}
use Prim.Native.Nat.{ℕ, ◌<◌, ◌≤◌}
use mathlib.Core.Path.{◌≡◌, refl, sym, ◌∙◌}
use mathlib.Core.Logic.{◌≢◌}
use borrow.Author.Tests.{eq-eqb, ne_eqb, le-leb, lt-leb}
use Rattle.fields.specs.Source.{Field}
use Rattle.fields.specs.Kinds.{applied, unary}
use Rattle.fields.specs.Kinds.{FieldKind as kind}
use Rattle.fields.specs.Grammar.{field}
use Rattle.fields.specs.Along.{Steps, Comes}
use Rattle.fields.proofs.Always.{Always}
use Rattle.fields.proofs.AlongAlways.{always_handed}
use Rattle.fields.proofs.Alongs.{field_no, field_refused, field_in}
use Rattle.grammar.specs.Terms.{a_symbol, a_unary}
use Rattle.terms.proofs.Symbols.{symbol_small}

-- what the code finds at a symbol: `f` stands there, and `n` is the arity of the symbol v
module _ {S : Type 0} (st : Steps S) (ar : ℕ → ℕ) {x : S} {f : Field} (g : f ≡ st.at 8 x) where
  pub symbol_bad : {m : ℕ} {r : Result ℕ ℕ} → f ≡ Err m → r ≡ Err m → Comes st (a_symbol ar) x ar r x
  unfolding a_symbol
  symbol_bad e q = field_no kind.symbol (applied ar) refl (sym g ∙ e) q

  pub unary_bad : (above : ℕ) {m : ℕ} {r : Result ℕ ℕ} → f ≡ Err m → r ≡ Err m → Comes st (a_unary ar above) x (λ v. v) r x
  unfolding a_unary
  unary_bad above e q = field_no kind.power_symbol (unary ar above) refl (sym g ∙ e) q

  module _ {v n : ℕ} (e : f ≡ Ok v) (arity : n ≡ ar v) where
    pub symbol_unary : n ≡ 1 → Comes st (a_symbol ar) x ar (Err 4) x
    unfolding a_symbol
    symbol_unary h = field_refused kind.symbol (applied ar) refl (sym g ∙ e) (rw (← arity, eq-eqb n 1 h))

    pub symbol_missing : n ≢ 1 → 8 < n → Comes st (a_symbol ar) x ar (Err 4) x
    unfolding a_symbol
    symbol_missing h k = field_refused kind.symbol (applied ar) refl (sym g ∙ e) (rw (← arity, ne_eqb n 1 h, lt-leb n 8 k))

    pub symbol_in : {y : S} → n ≢ 1 → n ≤ 8 → y ≡ st.past 8 v x → Comes st (a_symbol ar) x ar (Ok n) y
    unfolding a_symbol
    symbol_in h k p = field_in kind.symbol (applied ar) refl (sym g ∙ e) (rw (← arity, ne_eqb n 1 h, le-leb n 8 k)) arity p

    module _ (above : ℕ) where
      pub unary_not : n ≢ 1 → Comes st (a_unary ar above) x (λ v. v) (Err 4) x
      unfolding a_unary
      unary_not h = field_refused kind.power_symbol (unary ar above) refl (sym g ∙ e) (rw (← arity, ne_eqb n 1 h))

      pub unary_like : n ≡ 1 → v ≡ above → Comes st (a_unary ar above) x (λ v. v) (Err 5) x
      unfolding a_unary
      unary_like h k = field_refused kind.power_symbol (unary ar above) refl (sym g ∙ e) (rw (← arity, eq-eqb n 1 h, eq-eqb v above k))

      pub unary_in : {y : S} → n ≡ 1 → v ≢ above → y ≡ st.past 8 v x → Comes st (a_unary ar above) x (λ v. v) (Ok v) y
      unfolding a_unary
      unary_in h k p = field_in kind.power_symbol (unary ar above) refl (sym g ∙ e) (rw (← arity, eq-eqb n 1 h, ne_eqb v above k)) refl p

pub symbol_few : {S : Type 0} {st : Steps S} (ar : ℕ → ℕ) {x y : S} {r : Result ℕ ℕ} {n : ℕ} → Comes st (a_symbol ar) x ar r y → r ≡ Ok n → n ≤ 8
unfolding a_symbol field Always
symbol_few ar h e = always_handed h e (λ k. k ≤ 8) (λ f t. symbol_small ar f t)
