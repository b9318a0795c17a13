-- The grammar of the rule book spells just the books within the limits, each by its own fields.
use Prim.Native.Nat.{ℕ, zero, suc, ◌≤◌, ◌<◌}
use mathlib.Core.Logic.{◌↔◌}
use mathlib.Core.Path.{◌≡◌, refl}
use mathlib.Core.List.{List, ◌∷◌, ◌++◌, flat_map}
use native.Mathlib.Omega.{arith}
use lib.ListN.{length, length-map}
use Rattle.patterns.specs.Every.{Every}
use Rattle.patterns.proofs.Every.{every_map, every_weaken}
use Rattle.fields.specs.Kinds.{FieldKind as kind}
use Rattle.fields.specs.Grammar.{done, bind}
use Rattle.fields.specs.Spells.{Spells}
use Rattle.grammar.specs.Terms.{root_term}
use Rattle.grammar.specs.Books.{RuleBook, arity_in, arities_of, a_signature, roots_of, a_rule_of, a_rule, rules_of, a_rule_list, a_book}
use Rattle.grammar.specs.Limits.{RootFits, RuleFits, BookFits, call_counts}
use Rattle.grammar.specs.Listing.{Fields, term_fields, arity_fields, signature_fields, rule_fields, book_fields}
use Rattle.grammar.proofs.Spelling.{bind_made}
use Rattle.grammar.proofs.Exactness.{Exactly, exact, refit, same, any_exactly, from_to_exactly, both, keyed, no_more, more}
use Rattle.grammar.proofs.SymbolFields.{Signature}
use Rattle.grammar.proofs.TermFields.{root_exactly}

-- ---- the arities

pub arities_exactly : (n : ℕ) → Exactly (arities_of n) (λ l. (length l ≡ n) × Every (λ a. a ≤ 8) l) (flat_map arity_fields)
unfolding arities_of Every arity_fields
arities_exactly zero = no_more arity_fields tt
arities_exactly (suc n) =
    more
    (from_to_exactly kind.arity 0 9 (omega arith))
    (λ a h. arities_exactly n)
    (λ a l h k. (omega arith, k))
    (λ a l h. (omega arith, h.1))

pub signature_exactly : Exactly a_signature Signature signature_fields
unfolding a_signature signature_fields
signature_exactly =
    refit
    (keyed length (any_exactly kind.symbol_count) (λ n h. arities_exactly n))
    (λ l h. record { small = h.1; count = h.0 })
    (λ l h. (h.count, h.small))

-- ---- the rules

module _ (arities : List ℕ) (sig : Signature arities) where
  pub roots_exactly : (n : ℕ)
      → Exactly (roots_of (arity_in arities) n) (λ ts. (length ts ≡ n) × Every (RootFits arities) ts) (flat_map term_fields)
  unfolding roots_of Every
  roots_exactly zero = no_more term_fields tt
  roots_exactly (suc n) =
      same
      (bind_made (root_term (arity_in arities)) (λ g. g.term) (λ t. bind (roots_of (arity_in arities) n) λ ts. done (t ∷ ts)))
      (more (root_exactly arities sig) (λ t h. roots_exactly n) (λ t ts h k. (h, k)) (λ t ts h. h))

  pub rule_of_exactly : (n : ℕ)
      → Exactly (a_rule_of (arity_in arities) n)
      (λ r. (length r.calls ≡ n) × (RootFits arities r.head × Every (RootFits arities) r.calls))
      (λ r. term_fields r.head ++ flat_map term_fields r.calls)
  unfolding a_rule_of
  rule_of_exactly n =
      same
      (bind_made (root_term (arity_in arities)) (λ g. g.term) (λ t. bind (roots_of (arity_in arities) n) λ ts. done (record { head = t; calls = ts })))
      (both
      (root_exactly arities sig)
      (λ t h. roots_exactly n)
      (λ t ts. record { head = t; calls = ts })
      (λ t ts h k. ((k.0, (h, k.1)), refl))
      (λ r h. (r.head, r.calls, h.1.0, (h.0, h.1.1), refl)))

  pub rule_exactly : Exactly (a_rule (arity_in arities)) (RuleFits arities) rule_fields
  unfolding a_rule rule_fields
  rule_exactly =
      refit
      (keyed (λ r. length r.calls) (from_to_exactly kind.call_count 0 9 (omega arith)) (λ n h. rule_of_exactly n))
      (λ r h. let l = h.0.1 in record { head = h.1.0; calls = h.1.1; count = omega arith })
      (λ r h. let l = h.count in ((omega arith, omega arith), (h.head, h.calls)))

  pub rules_exactly : (n : ℕ)
      → Exactly (rules_of (arity_in arities) n) (λ rs. (length rs ≡ n) × Every (RuleFits arities) rs) (flat_map rule_fields)
  unfolding rules_of Every
  rules_exactly zero = no_more rule_fields tt
  rules_exactly (suc n) = more rule_exactly (λ r h. rules_exactly n) (λ r rs h k. (h, k)) (λ r rs h. h)

  pub rule_list_exactly : Exactly (a_rule_list (arity_in arities)) (λ rs. (length rs < 256) × Every (RuleFits arities) rs) (λ rs. (8, length rs) ∷ flat_map rule_fields rs)
  unfolding a_rule_list
  rule_list_exactly =
      refit
      (keyed length (any_exactly kind.rule_count) (λ n h. rules_exactly n))
      (λ rs h. h)
      (λ rs h. h)

pub a_book_exactly : Exactly a_book BookFits book_fields
unfolding a_book book_fields
a_book_exactly =
    both
    signature_exactly
    rule_list_exactly
    (λ arities rules. record { arities = arities; rules = rules })
    (λ arities rules h k. (record { symbols = h.count; arities = h.small; rules = k.1; count = k.0 }, refl))
    (λ b h. (b.arities, b.rules, record { small = h.arities; count = h.symbols }, (h.count, h.rules), refl))

pub book_exactly : (b : RuleBook) (fs : Fields) → Spells a_book b fs ↔ (BookFits b × (fs ≡ book_fields b))
book_exactly b fs = exact a_book_exactly b fs

-- ---- what a certificate needs of its book

pub book_signature : (b : RuleBook) → BookFits b → Signature b.arities
book_signature b h = record { small = h.arities; count = h.symbols }

pub call_counts_few : (b : RuleBook) → BookFits b → length (call_counts b.rules) < 256
unfolding call_counts
call_counts_few b h = rw (length-map b.rules) h.count

pub call_counts_small : (b : RuleBook) → BookFits b → Every (λ m. m ≤ 8) (call_counts b.rules)
unfolding call_counts
call_counts_small b h =
    every_map (λ m. m ≤ 8) (λ r. length r.calls) b.rules (every_weaken (λ r k. k.count) b.rules h.rules)
