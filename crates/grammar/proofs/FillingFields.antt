-- The grammar of fillings spells just the fillings within the limits, each by its own fields.
use Prim.Native.Nat.{ℕ, zero, suc, ◌+◌, ◌≤◌, ◌<◌}
use mathlib.Core.Path.{◌≡◌, refl}
use mathlib.Core.List.{List, flat_map}
use native.Mathlib.Omega.{arith}
use lib.ListN.{length}
use Rattle.fields.specs.Kinds.{from_to}
use Rattle.fields.specs.Kinds.{FieldKind as kind}
use Rattle.fields.specs.Grammar.{done, bind, field}
use Rattle.grammar.specs.Terms.{any_term, a_pair, pairs_of, a_filling}
use Rattle.grammar.specs.Books.{arity_in}
use Rattle.grammar.specs.Limits.{TermFits, Rising, FillsFit}
use Rattle.grammar.specs.Listing.{pair_fields, filling_fields}
use Rattle.grammar.proofs.Spelling.{bind_made}
use Rattle.grammar.proofs.Exactness.{Exactly, refit, same, from_to_exactly, both, keyed, no_more, more}
use Rattle.grammar.proofs.SymbolFields.{Signature}
use Rattle.grammar.proofs.TermFields.{any_exactly}

module _ (arities : List ℕ) (sig : Signature arities) where
  pub pair_exactly : (least : ℕ)
      → Exactly (a_pair (arity_in arities) least) (λ p. (least ≤ p.0) × (p.0 < 64) × TermFits arities 4096 p.1) pair_fields
  unfolding a_pair pair_fields
  pair_exactly least =
      same
      (λ i. bind (field kind.filled_variable (from_to least 64)) λ x. bind_made (any_term (arity_in arities)) (λ g. g.term) (λ t. done (x, t)) i)
      (both
      (from_to_exactly kind.filled_variable least 64 (omega arith))
      (λ x h. any_exactly arities sig)
      (λ x t. (x, t))
      (λ x t h k. ((h.0, h.1, k), refl))
      (λ p h. (p.0, p.1, (h.0, h.1), h.2, refl)))

  pub pairs_exactly : (n least : ℕ)
      → Exactly (pairs_of (arity_in arities) n least) (λ θ. (length θ ≡ n) × Rising arities least θ) (flat_map pair_fields)
  unfolding pairs_of Rising
  pairs_exactly zero least = no_more pair_fields tt
  pairs_exactly (suc n) least =
      more
      (pair_exactly least)
      (λ p h. pairs_exactly n (p.0 + 1))
      (λ p ps h k. (h.0, h.1, h.2, k))
      (λ p ps h. ((h.0, h.1, h.2), h.3))

  pub filling_exactly : Exactly (a_filling (arity_in arities)) (FillsFit arities) filling_fields
  unfolding a_filling filling_fields
  filling_exactly =
      refit
      (keyed length (from_to_exactly kind.filling_count 0 65 (omega arith)) (λ n h. pairs_exactly n 0))
      (λ θ h. let l = h.0.1 in record { count = omega arith; rising = h.1 })
      (λ θ h. let l = h.count in ((omega arith, omega arith), h.rising))
