-- The grammar of a line spells just the lines within the limits, each by its own fields.
use Prim.Native.Nat.{ℕ, zero, suc, ◌≤◌, ◌<◌}
use mathlib.Core.Path.{◌≡◌, refl, sym, ap, subst}
use mathlib.Core.List.{List, [], ◌∷◌, ◌++◌}
use mathlib.Core.Option.{some, some-injective}
use native.Mathlib.Omega.{arith}
use lib.ListN.{length, get_or, get_elem?}
use Rattle.patterns.specs.Every.{Every}
use Rattle.patterns.specs.First.{Exp, Pair}
use Rattle.patterns.specs.Certificate.{Fills, Use, Stop, LineKind, unfolds, descends}
use Rattle.fields.specs.Kinds.{one_call, InRange, Unnormal, Spent}
use Rattle.fields.specs.Kinds.{FieldKind as kind}
use Rattle.fields.proofs.Ranges.{passes_exactly}
use Rattle.grammar.specs.Books.{arity_in}
use Rattle.grammar.specs.Certificates.{an_unfold, a_fall, a_descent, a_kind, a_line_of, a_line}
use Rattle.grammar.specs.Limits.{FillsFit, UseFits, ClaimFits, StopFits, KindFits}
use Rattle.grammar.specs.Listing.{filling_fields, claim_fields, kind_fields, kind_number, line_fields}
use Rattle.grammar.proofs.Exactness.{Exactly, refit, field_exactly, any_exactly as bits-exactly, from_to_exactly, both, keyed}
use Rattle.grammar.proofs.SymbolFields.{Signature}
use Rattle.grammar.proofs.FillingFields.{filling_exactly}
use Rattle.grammar.proofs.UseFields.{claim_exactly, use_exactly, stop_at_exactly}

listed_number : (ms : List ℕ) (k : ℕ) → k < length ms → get_elem? ms k ≡ some (get_or ms k 0)
listed_number [] k h = absurd (omega arith)
listed_number (m ∷ ms) zero h = refl
listed_number (m ∷ ms) (suc k) h = listed_number ms k (omega arith)

number_listed : (ms : List ℕ) (k m : ℕ) → get_elem? ms k ≡ some m → (k < length ms) × (get_or ms k 0 ≡ m)
number_listed [] k m p = let z : ◌≡◌ {A = ℕ} 0 1 = cc in absurd (omega arith)
number_listed (n ∷ ms) zero m p = (omega arith, some-injective n m p)
number_listed (n ∷ ms) (suc k) m p = let r = number_listed ms k m p in (omega arith, r.1)

one_listed : (ms : List ℕ) (k : ℕ) → get_or ms k 0 ≡ 1 → get_elem? ms k ≡ some 1
one_listed [] k p = absurd (omega arith)
one_listed (m ∷ ms) zero p = ap some p
one_listed (m ∷ ms) (suc k) p = one_listed ms k p

few_calls : (ms : List ℕ) → Every (λ m. m ≤ 8) ms → (k : ℕ) → get_or ms k 0 ≤ 8
unfolding Every
few_calls [] h k = omega arith
few_calls (m ∷ ms) h zero = h.0
few_calls (m ∷ ms) h (suc k) = few_calls ms h.1 k

module _ (arities : List ℕ) (sig : Signature arities) where
  module _ (ms : List ℕ) (few : length ms < 256) (short : Every (λ m. m ≤ 8) ms) where
    -- ---- the two kinds of line

    pub fall_exactly : Exactly (a_fall (arity_in arities) ms) (λ q. (get_elem? ms q.0 ≡ some 1) × FillsFit arities q.1) (λ q. (8, q.0) ∷ filling_fields q.1)
    unfolding a_fall InRange Unnormal Spent
    fall_exactly =
        both
        (field_exactly kind.rule (one_call ms))
        (λ k h. filling_exactly arities sig)
        (λ k θ. (k, θ))
        (λ k θ h l. ((one_listed ms k ((passes_exactly (one_call ms) k).0 h.1).1, l), refl))
        (λ q h.
        let r = number_listed ms q.0 1 h.0 in
        let l = r.0 in
        (q.0, q.1, (omega arith, (passes_exactly (one_call ms) q.0).1 ((λ z. z), r.1, (λ z. z))), h.1, refl))

    module _ (line : ℕ) (early : line ≤ 256) where
      pub unfold_exactly : Exactly (an_unfold (arity_in arities) ms line) (λ q. (kind_number q ≡ 0) × KindFits arities ms line q) kind_fields
      unfolding an_unfold kind_fields kind_number KindFits
      unfold_exactly =
          both
          (from_to_exactly kind.rule 0 (length ms) (omega arith))
          (λ k h. stop_at_exactly arities sig line early (get_or ms k 0) (few_calls ms short k))
          (λ k q. unfolds k q.0 q.1)
          (λ k q h l. ((refl, (get_or ms k 0, listed_number ms k h.1, l.0, l.1)), refl))
          onto
        where
          onto : (q : LineKind Exp Pair) → (kind_number q ≡ 0) × KindFits arities ms line q
              → (k : ℕ) × (r : Fills Exp × Stop Exp Pair) × ((0 ≤ k) × (k < length ms))
              × (FillsFit arities r.0 × StopFits arities line (get_or ms k 0) r.1) × (unfolds k r.0 r.1 ≡ q)
          onto (unfolds k θ s) h =
              let c = number_listed ms k h.1.0 h.1.1 in
              (k, (θ, s), (omega arith, c.0), (h.1.2, subst (λ m. StopFits arities line m s) (sym c.1) h.1.3), refl)
          onto (descends u k θ) h = absurd (omega arith)

      pub descent_exactly : Exactly (a_descent (arity_in arities) ms line) (λ q. (kind_number q ≡ 1) × KindFits arities ms line q) kind_fields
      unfolding a_descent kind_fields kind_number KindFits
      descent_exactly =
          both
          (use_exactly arities sig line early)
          (λ u h. fall_exactly)
          (λ u q. descends u q.0 q.1)
          (λ u q h l. ((refl, (h, l.0, l.1)), refl))
          onto
        where
          onto : (q : LineKind Exp Pair) → (kind_number q ≡ 1) × KindFits arities ms line q
              → (u : Use Exp Pair) × (r : ℕ × Fills Exp) × UseFits arities line u
              × ((get_elem? ms r.0 ≡ some 1) × FillsFit arities r.1) × (descends u r.0 r.1 ≡ q)
          onto (unfolds k θ s) h = absurd (omega arith)
          onto (descends u k θ) h = (u, (k, θ), h.1.0, (h.1.1, h.1.2), refl)

      pub kind_exactly : (n : ℕ) → n < 2
          → Exactly (a_kind (arity_in arities) ms line n) (λ q. (kind_number q ≡ n) × KindFits arities ms line q) kind_fields
      unfolding a_kind
      kind_exactly zero h = unfold_exactly
      kind_exactly (suc zero) h = descent_exactly
      kind_exactly (suc (suc n)) h = absurd (omega arith)

      pub line_of_exactly : (n : ℕ) → n < 2
          → Exactly (a_line_of (arity_in arities) ms line n)
          (λ l. (kind_number l.kind ≡ n) × (ClaimFits arities l.claim × KindFits arities ms line l.kind))
          (λ l. claim_fields l.claim ++ kind_fields l.kind)
      unfolding a_line_of
      line_of_exactly n h =
          both
          (claim_exactly arities sig)
          (λ c k. kind_exactly n h)
          (λ c q. record { claim = c; kind = q })
          (λ c q k m. ((m.0, (k, m.1)), refl))
          (λ l k. (l.claim, l.kind, k.1.0, (k.0, k.1.1), refl))

      pub line_exactly : Exactly (a_line (arity_in arities) ms line) (λ l. ClaimFits arities l.claim × KindFits arities ms line l.kind) line_fields
      unfolding a_line line_fields kind_number
      line_exactly =
          refit
          (keyed (λ l. kind_number l.kind) (bits-exactly kind.line_kind) line_of_exactly)
          (λ l h. h.1)
          (λ l h. (kind_below l.kind, h))
        where
          kind_below : (q : LineKind Exp Pair) → kind_number q < 2
          kind_below (unfolds k θ s) = omega arith
          kind_below (descends u k θ) = omega arith
