-- The cases of the grammar of fillings, as the code meets them.
use Rattle.std.specs.Prelude.{Ok}
use Prim.Native.Nat.{ℕ, ◌+◌, ◌<◌}
use mathlib.Core.Path.{◌≡◌, refl}
use mathlib.Core.List.{[], ◌∷◌}
use Rattle.fields.specs.Kinds.{from_to}
use Rattle.fields.specs.Kinds.{FieldKind as kind}
use Rattle.fields.specs.Grammar.{field}
use Rattle.fields.specs.Source.{Field}
use Rattle.fields.specs.Along.{Steps, Comes}
use Rattle.fields.proofs.AlongAlways.{always_handed as handed_along}
use Rattle.fields.proofs.Many.{Rounds}
use Rattle.fields.proofs.Always.{Always, always_bind, always_then, field_below}
use Rattle.grammar.specs.Terms.{a_pair, pairs_of, any_term}
use Rattle.terms.specs.Values.{first_of}

pub pairs_rounds : (ar : ℕ → ℕ) → Rounds (pairs_of ar) (a_pair ar) (λ least p. p.0 + 1) ◌∷◌ (λ least. [])
unfolding pairs_of
pairs_rounds ar = record { none = λ least. refl; more = λ n least. refl }

-- the same of a walk along fields
pub pair_below : {S : Type 0} {st : Steps S} (ar : ℕ → ℕ) (least : ℕ) {x y : S} {r : Field} {v : ℕ}
    → Comes st (a_pair ar least) x first_of r y → r ≡ Ok v → v < 64
unfolding a_pair Always
pair_below ar least h e =
    handed_along h e (λ k. k < 64)
    (always_bind (λ v. v < 64) (λ p. p.0 < 64) _ (field kind.filled_variable (from_to least 64)) (field_below kind.filled_variable least 64)
    (λ v k. always_then (λ p. p.0 < 64) _ (any_term ar) (λ g. k)))
