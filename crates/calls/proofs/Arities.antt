-- A symbol of more than 8 bits has no arity.
use Rattle.std.specs.Prelude.{Ok, Err}
use Prim.Native.Nat.{ℕ, ◌<◌}
use mathlib.Core.Path.{◌≡◌, refl, sym}
use mathlib.Core.List.{List, []}
use mathlib.Core.Bool.{false}
use native.Mathlib.Omega.{arith}
use Rattle.fields.specs.Source.{Field}
use Rattle.fields.specs.Source.{field_at, start}
use Rattle.fields.specs.Grammar.{on_field}
use Rattle.fields.proofs.Gives.{got_small}
use Rattle.terms.specs.Arity.{number_at}
use Rattle.terms.proofs.Symbols.{no_arity}
use Rattle.instances.specs.Lying.{arities}

few_symbols : (book : List ℕ) → number_at book [] 8 (start false) 0 < 256
unfolding number_at
few_symbols book = go (field_at book [] 8 (start false)) refl
  where
    go : (f : Field) → field_at book [] 8 (start false) ≡ f → on_field f (λ v. v) (λ m. 0) < 256
    go (Ok v) e = got_small book [] 8 (start false) v e
    go (Err m) e = omega arith

pub large_symbol : (book : List ℕ) (f : ℕ) → 255 < f → 16 ≡ arities book f
large_symbol book f h = sym (no_arity book [] false f refl refl (omega (arith, few_symbols book)))
