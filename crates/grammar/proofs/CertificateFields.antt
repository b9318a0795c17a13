-- The grammar of the certificate spells just the certificates within the limits, each by its own fields.
use Prim.Native.Nat.{ℕ, zero, suc, ◌+◌, ◌-◌, ◌≤◌, ◌<◌}
use mathlib.Core.Logic.{◌↔◌}
use mathlib.Core.Path.{◌≡◌, refl, sym, subst}
use mathlib.Core.List.{List, [], ◌∷◌, ◌++◌, flat_map}
use native.Mathlib.Omega.{arith}
use lib.ListN.{length}
use Rattle.patterns.specs.Every.{Every}
use Rattle.patterns.specs.First.{Exp, Pair, Pace}
use Rattle.patterns.specs.Certificate.{Certificate}
use Rattle.fields.specs.Kinds.{FieldKind as kind}
use Rattle.fields.specs.Spells.{Spells}
use Rattle.grammar.specs.Books.{RuleBook, arity_in}
use Rattle.grammar.specs.Certificates.{lines_of, a_pace, a_closed, a_closing, a_certificate_of, a_certificate}
use Rattle.grammar.specs.Limits.{BookFits, call_counts, FillsFit, LinesFit, ClosingFits, CertificateFits}
use Rattle.grammar.specs.Listing.{Fields, filling_fields, line_fields, closing_fields, certificate_fields}
use Rattle.grammar.proofs.Exactness.{Exactly, exact, refit, any_exactly as bits-exactly, from_to_exactly, both, keyed, no_more, more}
use Rattle.grammar.proofs.SymbolFields.{Signature}
use Rattle.grammar.proofs.FillingFields.{filling_exactly}
use Rattle.grammar.proofs.BookFields.{book_signature, call_counts_few, call_counts_small}
use Rattle.grammar.proofs.LineFields.{line_exactly}

pub pace_exactly : Exactly a_pace (λ s. s.α + s.k ≤ 4095) (λ s. (12, s.k) ∷ (12, s.α) ∷ [])
unfolding a_pace
pace_exactly =
    both
    (bits-exactly kind.step_k)
    (λ k h. from_to_exactly kind.start_α 0 (4096 - k) (omega arith))
    (λ k α. record { k = k; α = α })
    (λ k α h l. (omega arith, refl))
    (λ s h. (s.k, s.α, omega arith, omega arith, refl))

module _ (arities : List ℕ) (sig : Signature arities) where
  pub closed_exactly : Exactly (a_closed (arity_in arities)) (λ q. (q.0.α + q.0.k ≤ 4095) × FillsFit arities q.1) (λ q. (12, q.0.k) ∷ (12, q.0.α) ∷ filling_fields q.1)
  unfolding a_closed
  closed_exactly =
      both
      pace_exactly
      (λ s h. filling_exactly arities sig)
      (λ s θ. (s, θ))
      (λ s θ h k. ((h, k), refl))
      (λ q h. (q.0, q.1, h.0, h.1, refl))

  -- a line number has 8 bits
  pub closing_exactly : (n : ℕ) → n ≤ 256 → Exactly (a_closing (arity_in arities) n) (ClosingFits arities n) closing_fields
  unfolding a_closing closing_fields
  closing_exactly n h =
      both
      (from_to_exactly kind.named_line 0 n (omega arith))
      (λ l k. closed_exactly)
      (λ l q. record { line = l; pace = q.0; fills = q.1 })
      (λ l q k m. (record { line = k.1; pace = m.0; fills = m.1 }, refl))
      (λ c k. (c.line, (c.pace, c.fills), (omega arith, k.line), (k.pace, k.fills), refl))

  module _ (ms : List ℕ) (few : length ms < 256) (short : Every (λ m. m ≤ 8) ms) where
    pub lines_exactly : (n line : ℕ) → line + n ≤ 256
        → Exactly (lines_of (arity_in arities) ms n line) (λ ls. (length ls ≡ n) × LinesFit arities ms line ls) (flat_map line_fields)
    unfolding lines_of LinesFit
    lines_exactly zero line h = no_more line_fields tt
    lines_exactly (suc n) line h =
        more
        (line_exactly arities sig ms few short line (omega arith))
        (λ l k. lines_exactly n (line + 1) (omega arith))
        (λ l ls k m. (k.0, k.1, m))
        (λ l ls k. ((k.0, k.1), k.2))

    pub certificate_of_exactly : (n : ℕ) → n < 256
        → Exactly (a_certificate_of (arity_in arities) ms n)
        (λ K. (length K.lines ≡ n) × (LinesFit arities ms 0 K.lines × ClosingFits arities (length K.lines) K.closing))
        (λ K. flat_map line_fields K.lines ++ closing_fields K.closing)
    unfolding a_certificate_of
    certificate_of_exactly n h =
        both
        (lines_exactly n 0 (omega arith))
        (λ ls k. closing_exactly n (omega arith))
        (λ ls c. record { lines = ls; closing = c })
        (λ ls c k m. ((k.0, (k.1, subst (λ j. ClosingFits arities j c) (sym k.0) m)), refl))
        (λ K k.
        (K.lines, K.closing, (k.0, k.1.0), subst (λ j. ClosingFits arities j K.closing) k.0 k.1.1, refl))

    pub whole_exactly : Exactly (a_certificate (arity_in arities) ms) (λ K. (length K.lines < 256) × LinesFit arities ms 0 K.lines × ClosingFits arities (length K.lines) K.closing) certificate_fields
    unfolding a_certificate certificate_fields
    whole_exactly =
        refit
        (keyed (λ K. length K.lines) (bits-exactly kind.line_count) certificate_of_exactly)
        (λ K h. (h.0, h.1.0, h.1.1))
        (λ K h. (h.0, (h.1, h.2)))

pub a_certificate_exactly : (b : RuleBook) → BookFits b
    → Exactly (a_certificate (arity_in b.arities) (call_counts b.rules)) (CertificateFits b) certificate_fields
a_certificate_exactly b h =
    refit
    (whole_exactly b.arities (book_signature b h) (call_counts b.rules) (call_counts_few b h) (call_counts_small b h))
    (λ K k. record { count = k.0; lines = k.1; closing = k.2 })
    (λ K k. (k.count, k.lines, k.closing))

pub certificate_exactly : (b : RuleBook) → BookFits b → (K : Certificate Exp Pair Pace) (fs : Fields)
    → Spells (a_certificate (arity_in b.arities) (call_counts b.rules)) K fs ↔ (CertificateFits b K × (fs ≡ certificate_fields K))
certificate_exactly b h K fs = exact (a_certificate_exactly b h) K fs
