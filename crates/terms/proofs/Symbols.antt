-- The tests of symbols, and the look-up of arities.
use Prim.Native.Nat.{ℕ, ◌+◌, ◌*◌, ◌<◌, ◌≤◌}
use mathlib.Core.Path.{◌≡◌, sym, ◌∙◌, ap}
use mathlib.Core.List.{List}
use mathlib.Core.Bool.{Bool}
use mathlib.Core.Option.{none}
use borrow.Author.Tests.{lt-ltb, le-ltb}
use Rattle.fields.specs.declared.Walker.{Walker}
use Rattle.fields.specs.Source.{Field}
use Rattle.fields.specs.Source.{field_at, start}
use Rattle.fields.specs.Grammar.{on_field}
use Rattle.terms.specs.Arity.{number_at, arity_at}
use Rattle.fields.specs.Kinds.{applied, test, InRange}
use Rattle.fields.proofs.Ranges.{passes_exactly}

pub number_is : (s l : List ℕ) (w : ℕ) (c : Walker) (other : ℕ) {f : Field} → f ≡ field_at s l w c
    → number_at s l w c other ≡ on_field f (λ v. v) (λ m. other)
unfolding number_at
number_is s l w c other e = ap (λ f. on_field f (λ v. v) (λ m. other)) (sym e)

module _ (s l : List ℕ) (listed : Bool) (f : ℕ) {n : ℕ} {c : Walker} (first : c ≡ start listed) (read : n ≡ number_at s l 8 c 0) where
  count : n ≡ number_at s l 8 (start listed) 0
  count = read ∙ ap (λ (x : Walker). number_at s l 8 x 0) first

  pub no_arity : n ≤ f → arity_at s l listed f ≡ 16
  unfolding arity_at
  no_arity h = rw (← count, le-ltb f n h)

  pub some_arity : f < n
      → arity_at s l listed f ≡ number_at s l 4 (record { bit = 8 + 4 * f; n = 1 + f; listed = listed }) 16
  unfolding arity_at
  some_arity h = rw (← count, lt-ltb f n h)

-- a symbol that was taken has at most 8 arguments
pub symbol_small : (ar : ℕ → ℕ) (f : ℕ) → test (applied ar) f ≡ none → ar f ≤ 8
unfolding InRange
symbol_small ar f e = ((passes_exactly (applied ar) f).0 e).1.1
