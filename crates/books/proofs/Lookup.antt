-- The arities that the code looks up are those that the walk has read.
use Rattle.std.specs.Prelude.{Ok}
use Prim.Native.Nat.{ℕ, zero, suc, ◌+◌, ◌*◌, ◌<◌}
use mathlib.Core.Path.{◌≡◌, refl, sym, ◌∙◌, ap, subst, fun_ext}
use mathlib.Core.List.{List, [], ◌∷◌, flat_map}
use mathlib.Core.Bool.{Bool}
use native.Mathlib.Omega.{arith}
use native.Mathlib.Decide.{dec_lt}
use lib.ListN.{length, get_or, get_or-eq_default}
use Rattle.fields.specs.declared.Walker.{Walker}
use Rattle.fields.specs.Source.{Source, source, field_at, moved, start}
use Rattle.fields.specs.Run.{State, state, run}
use Rattle.fields.specs.Run.Result.{ok}
use Rattle.fields.proofs.Ways.{way}
use Rattle.fields.proofs.Gives.{Gives}
use Rattle.fields.proofs.Reading.{way_gives, trace_spells}
use Rattle.fields.proofs.Outcomes.{outcome_of_ok}
use Rattle.grammar.specs.Books.{arity_in, a_signature}
use Rattle.grammar.specs.Listing.{arity_fields, signature_fields}
use Rattle.grammar.proofs.BookFields.{signature_exactly}
use Rattle.terms.specs.Arity.{number_at, arity_at}
use Rattle.terms.proofs.Symbols.{no_arity, some_arity, number_is}

-- the f-th of the arities that a source hands out one after the other
given_arity : (src : Source) (c : Walker) (ars : List ℕ) → Gives src c (flat_map arity_fields ars) → (f : ℕ) → f < length ars
    → src 4 (record { bit = c.bit + 4 * f; n = c.n + f; listed = c.listed }) ≡ Ok (get_or ars f 16)
unfolding flat_map arity_fields Gives
given_arity src c [] g f h = absurd (omega arith)
given_arity src c (a ∷ l) g zero h = ap (src 4) (λ i. record { bit = (p i); n = (q i); listed = c.listed }) ∙ g.0
  where
    p : c.bit + 4 * 0 ≡ c.bit
    p = omega arith

    q : c.n + 0 ≡ c.n
    q = omega arith
given_arity src c (a ∷ l) g (suc f) h =
    ap (src 4) (λ i. record { bit = (p i); n = (q i); listed = c.listed })
    ∙ given_arity src (moved 4 c) l g.1 f (omega arith)
  where
    p : c.bit + 4 * suc f ≡ c.bit + 4 + 4 * f
    p = omega arith

    q : c.n + suc f ≡ c.n + 1 + f
    q = omega arith

module _ (s l : List ℕ) (listed : Bool) (ws bs ars : List ℕ) (τ : State) (read : run (source s l) a_signature (state (start listed) ws bs) ≡ ok ars τ) where
  handed : Gives (source s l) (start listed) (signature_fields ars)
  handed =
      subst (Gives (source s l) (start listed))
      (signature_exactly.forth ars _ (trace_spells s l a_signature (start listed) (outcome_of_ok (source s l) a_signature (start listed) ws bs read))).1
      (way_gives (way (source s l) a_signature (start listed)))

  count : length ars ≡ number_at s l 8 (start listed) 0
  unfolding Gives signature_fields
  count = sym (number_is s l 8 (start listed) 0 (sym handed.0))

  each : (f : ℕ) → f < length ars
      → field_at s l 4 (record { bit = 8 + 4 * f; n = 1 + f; listed = listed }) ≡ Ok (get_or ars f 16)
  unfolding Gives signature_fields
  each f h = given_arity (source s l) (moved 8 (start listed)) ars handed.1 f h

  arity_is : (f : ℕ) → arity_at s l listed f ≡ arity_in ars f
  unfolding arity_in
  arity_is f = go (dec_lt f (length ars))
    where
      go : Dec (f < length ars) → arity_at s l listed f ≡ get_or ars f 16
      go (yes h) =
          some_arity s l listed f refl count h
          ∙ number_is s l 4 (record { bit = 8 + 4 * f; n = 1 + f; listed = listed }) 16
          (sym (each f h))
      go (no h) = no_arity s l listed f refl count (omega arith) ∙ sym (get_or-eq_default ars 16 (omega arith))

  pub arity_known : (λ f. arity_at s l listed f) ≡ arity_in ars
  arity_known = fun_ext arity_is
