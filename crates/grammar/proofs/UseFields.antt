-- The grammars of claims, of uses, and of where an unfold stops spell just those within the limits.
use Prim.Native.Nat.{ℕ, zero, suc, ◌+◌, ◌≤◌, ◌<◌, min}
use mathlib.Core.Path.{◌≡◌, refl, ap}
use mathlib.Core.List.{List, [], ◌∷◌, ◌++◌, flat_map}
use mathlib.Core.Option.{Option, none, some}
use mathlib.Core.Bool.{cond}
use native.Mathlib.Omega.{arith}
use lib.ListN.{length}
use lib.Dec.{eqb}
use Rattle.patterns.specs.Every.{Every}
use Rattle.patterns.specs.First.{Exp, Pair}
use Rattle.patterns.specs.Certificate.{Use, Stop, fact, call}
use Rattle.patterns.specs.Checks.{OnMark}
use Rattle.fields.specs.Kinds.{any}
use Rattle.fields.specs.Kinds.{FieldKind as kind}
use Rattle.fields.specs.Grammar.{done, bind, field}
use Rattle.grammar.specs.Terms.{any_term}
use Rattle.grammar.specs.Books.{arity_in}
use Rattle.grammar.specs.Certificates.{a_right_if, a_right, a_claim, an_index, an_instance, a_use, uses_of, a_last_if, a_last, a_stop, a_stopped, a_stop_at}
use Rattle.grammar.specs.Limits.{TermFits, FillsFit, UseFits, ClaimFits, LastFits, StopFits}
use Rattle.grammar.specs.Listing.{if_any, term_fields, filling_fields, claim_fields, use_fields, stop_number, stop_fields}
use Rattle.grammar.proofs.Spelling.{bind_made}
use Rattle.grammar.proofs.Exactness.{Exactly, refit, same, done_exactly, any_exactly as bits-exactly, from_to_exactly, both, keyed, no_more, more, maybe_exactly}
use Rattle.grammar.proofs.SymbolFields.{Signature}
use Rattle.grammar.proofs.TermFields.{any_exactly}
use Rattle.grammar.proofs.FillingFields.{filling_exactly}

pub index_exactly : Exactly an_index (λ r. (r.0 < 4096) × (r.1 < 4096)) (λ r. (12, r.0) ∷ (12, r.1) ∷ [])
unfolding an_index
index_exactly =
    both
    (bits-exactly kind.index_i)
    (λ i h. bits-exactly kind.index_j)
    (λ i j. (i, j))
    (λ i j h k. ((h, k), refl))
    (λ r h. (r.0, r.1, h.0, h.1, refl))

module _ (arities : List ℕ) (sig : Signature arities) where
  -- ---- claims and uses

  pub right_exactly : Exactly (a_right (arity_in arities)) (OnMark (TermFits arities 4096)) (if_any term_fields)
  unfolding a_right a_right_if OnMark
  right_exactly =
      same
      (λ i. bind (field kind.right_bit any) λ b. cond (eqb b 0) (done none) (bind_made (any_term (arity_in arities)) (λ g. g.term) (λ t. done (some t)) i))
      (maybe_exactly kind.right_bit refl (OnMark (TermFits arities 4096)) tt (λ t h. h) (λ t h. h) (any_exactly arities sig))

  pub claim_exactly : Exactly (a_claim (arity_in arities)) (ClaimFits arities) claim_fields
  unfolding a_claim claim_fields
  claim_exactly =
      same
      (bind_made (any_term (arity_in arities)) (λ g. g.term) (λ t. bind (a_right (arity_in arities)) λ m. done (record { left = t; right = m })))
      (both
      (any_exactly arities sig)
      (λ t h. right_exactly)
      (λ t m. record { left = t; right = m })
      (λ t m h k. (record { left = h; right = k }, refl))
      (λ c h. (c.left, c.right, h.left, h.right, refl)))

  pub instance_exactly : Exactly (an_instance (arity_in arities)) (λ q. ((q.0.0 < 4096) × (q.0.1 < 4096)) × FillsFit arities q.1) (λ q. (12, q.0.0) ∷ (12, q.0.1) ∷ filling_fields q.1)
  unfolding an_instance
  instance_exactly =
      both
      index_exactly
      (λ r h. filling_exactly arities sig)
      (λ r θ. (r, θ))
      (λ r θ h k. ((h, k), refl))
      (λ q h. (q.0, q.1, h.0, h.1, refl))

  module _ (line : ℕ) (early : line ≤ 256) where
    pub use_exactly : Exactly (a_use (arity_in arities) line) (UseFits arities line) use_fields
    unfolding a_use use_fields
    use_exactly =
        both
        (from_to_exactly kind.used_line 0 line (omega arith))
        (λ l h. instance_exactly)
        (λ l q. record { line = l; index = q.0; fills = q.1 })
        (λ l q h k. (record { earlier = h.1; i = k.0.0; j = k.0.1; fills = k.1 }, refl))
        (λ u h. (u.line, (u.index, u.fills), (omega arith, h.earlier), ((h.i, h.j), h.fills), refl))

    pub uses_exactly : (n : ℕ)
        → Exactly (uses_of (arity_in arities) line n) (λ us. (length us ≡ n) × Every (UseFits arities line) us) (flat_map use_fields)
    unfolding uses_of Every
    uses_exactly zero = no_more use_fields tt
    uses_exactly (suc n) = more use_exactly (λ u h. uses_exactly n) (λ u us h k. (h, k)) (λ u us h. h)

    pub last_exactly : Exactly (a_last (arity_in arities) line) (LastFits arities line) (if_any use_fields)
    unfolding a_last a_last_if LastFits
    last_exactly = maybe_exactly kind.use_bit refl (LastFits arities line) tt (λ u h. h) (λ u h. h) use_exactly

    -- ---- where an unfold stops

    -- the uses are within the limits
    unfoldable pub StopUses : Stop Exp Pair → Type 0
    StopUses fact = Unit {0}
    StopUses (call us last) = Every (UseFits arities line) us × LastFits arities line last

    pub stop_exactly : (i : ℕ) → Exactly (a_stop (arity_in arities) line i) (λ s. (stop_number s ≡ i) × StopUses s) stop_fields
    unfolding a_stop stop_fields stop_number StopUses
    stop_exactly zero = done_exactly (refl, tt) refl only
      where
        only : (s : Stop Exp Pair) → (stop_number s ≡ zero) × StopUses s → s ≡ fact
        only fact h = refl
        only (call us last) h = absurd (omega arith)
    stop_exactly (suc i) =
        both
        (uses_exactly i)
        (λ us h. last_exactly)
        call
        (λ us last h k. ((ap suc h.0, (h.1, k)), refl))
        onto
      where
        onto : (s : Stop Exp Pair) → (stop_number s ≡ suc i) × StopUses s
            → (us : List (Use Exp Pair)) × (last : Option (Use Exp Pair)) × ((length us ≡ i) × Every (UseFits arities line) us)
            × LastFits arities line last × (call us last ≡ s)
        onto fact h = absurd (omega arith)
        onto (call us last) h = (us, last, (omega arith, h.1.0), h.1.1, refl)

    pub stopped_exactly : (i : ℕ)
        → Exactly (a_stopped (arity_in arities) line i)
        (λ q. (stop_number q.1 ≡ i) × (FillsFit arities q.0 × StopUses q.1))
        (λ q. filling_fields q.0 ++ stop_fields q.1)
    unfolding a_stopped
    stopped_exactly i =
        both
        (filling_exactly arities sig)
        (λ θ h. stop_exactly i)
        (λ θ s. (θ, s))
        (λ θ s h k. ((k.0, (h, k.1)), refl))
        (λ q h. (q.0, q.1, h.1.0, (h.0, h.1.1), refl))

    -- 01: "If m = 0 then i = 0; else i is 1 to m."
    stop_fits : (m : ℕ) (s : Stop Exp Pair) → min m 1 ≤ stop_number s → stop_number s < m + 1 → StopUses s
        → StopFits arities line m s
    unfolding stop_number StopUses StopFits
    stop_fits m fact h k u = omega arith
    stop_fits m (call us last) h k u = (omega arith, u.0, u.1)

    fits_stop : (m : ℕ) (s : Stop Exp Pair) → StopFits arities line m s
        → (min m 1 ≤ stop_number s) × (stop_number s < m + 1) × StopUses s
    unfolding stop_number StopUses StopFits
    fits_stop m fact h = (omega arith, omega arith, tt)
    fits_stop m (call us last) h = let l = h.0 in (omega arith, omega arith, (h.1, h.2))

    pub stop_at_exactly : (m : ℕ) → m ≤ 8
        → Exactly (a_stop_at (arity_in arities) line m)
        (λ q. FillsFit arities q.0 × StopFits arities line m q.1)
        (λ q. (4, stop_number q.1) ∷ filling_fields q.0 ++ stop_fields q.1)
    unfolding a_stop_at
    stop_at_exactly m h =
        refit
        (keyed (λ q. stop_number q.1) (from_to_exactly kind.stop_number (min m 1) (m + 1) (omega arith)) (λ i k. stopped_exactly i))
        (λ q k. (k.1.0, stop_fits m q.1 k.0.0 k.0.1 k.1.1))
        (λ q k. let r = fits_stop m q.1 k.1 in ((r.0, r.1), (k.0, r.2)))
