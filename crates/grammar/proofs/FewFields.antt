-- The grammars of the two files and of a call ask for fewer bits than are counted, 2^32: so for fewer fields, too.
use Prim.Native.Nat.{ℕ, zero, suc, ◌+◌, ◌-◌, ◌*◌, ◌≤◌}
use mathlib.Core.Path.{refl}
use mathlib.Core.List.{List}
use native.Mathlib.Omega.{arith}
use lib.ListN.{get_or}
use lib.Dec.{eqb}
use Rattle.bits.specs.Packed.{width}
use Rattle.patterns.specs.Term.{nil}
use Rattle.patterns.specs.First.{Pattern}
use Rattle.fields.specs.Kinds.{InRange, Spent}
use Rattle.fields.specs.Grammar.{Grammar}
use Rattle.fields.specs.Spells.{Spells}
use Rattle.fields.proofs.Leads.{spells_led}
use Rattle.fields.proofs.Faults.{Counted}
use Rattle.fields.proofs.ListFaults.{Countable}
use Rattle.fields.proofs.Spends.{Spends, over, spends_more, led_spends, spends_bind, spends_field, spends_either, AtMost, at_most, at_done, at_then, at_made}
use Rattle.grammar.specs.Terms.{a_symbol, a_unary, an_exponent, Grown, GrownAll, args_of, a_variable, an_applied, a_raise, a_raised, a_node, a_term, any_term, root_term, call_term, a_pair, pairs_of, a_filling}
use Rattle.grammar.specs.Books.{arity_in, arities_of, a_signature, roots_of, a_rule_of, a_rule, rules_of, a_rule_list, a_book}
use Rattle.grammar.specs.Calls.{a_call}
use Rattle.grammar.specs.Certificates.{a_right_if, a_right, a_claim, an_index, an_instance, a_use, uses_of, a_last_if, a_last, a_stop, a_stopped, a_stop_at, an_unfold, a_fall, a_descent, a_kind, a_line_of, a_line, lines_of, a_pace, a_closed, a_closing, a_certificate_of, a_certificate}

-- ---- terms: 34 bits for each node that is allowed

abbrev grown : Grown → ℕ
grown g = 34 * g.left

abbrev all_grown : GrownAll → ℕ
all_grown g = 34 * g.left

args_spend : (term : ℕ → Grammar Grown) → ((left : ℕ) → Spends grown (34 * left) (term left)) → (n left : ℕ)
    → Spends all_grown (34 * left) (args_of term n left)
unfolding args_of
args_spend term h zero left = over (34 * left) (record { terms = nil; left = left }) (omega arith)
args_spend term h (suc n) left =
    spends_bind _ _ (h left) (λ g. spends_bind _ _ (args_spend term h n g.left) (λ x. over _ _ (omega arith)))

module _ (term : ℕ → ℕ → Grammar Grown) (h : (above left : ℕ) → Spends grown (34 * left) (term above left)) (ar : ℕ → ℕ) (left : ℕ) where
  variable_spends : Spends grown (34 * left + 32) (a_variable left)
  unfolding a_variable
  variable_spends = spends_field _ _ _ _ (34 * left) (λ v q. omega arith) (λ v q. over _ _ (omega arith))

  applied_spends : Spends grown (34 * left + 32) (an_applied term ar left)
  unfolding an_applied a_symbol
  applied_spends =
      spends_field _ _ _ _ (34 * left) (λ v q. omega arith) λ f q.
      spends_bind _ _ (args_spend (term 256) (h 256) (ar f) left) (λ x. over _ _ (omega arith))

  raised_spends : (end above : ℕ) → Spends grown (34 * left + 32) (a_raised term ar end above left)
  unfolding a_raised a_raise a_unary an_exponent
  raised_spends end above =
      spends_bind {rest = λ p. 34 * left} _ _
      (spends_field _ _ _ _ (34 * left + 24) (λ v q. omega arith) λ s q.
      spends_bind {rest = λ e. 34 * left} _ _
      (spends_field _ _ _ _ (34 * left + 12) (λ v q. omega arith) λ a q.
      spends_field _ _ _ _ (34 * left) (λ v q. omega arith) λ b q. over _ _ (omega arith))
      (λ e. over _ _ (omega arith)))
      (λ p. spends_bind _ _ (h p.0 left) (λ g. over _ _ (omega arith)))

  node_spends : (end above tag : ℕ) → Spends grown (34 * left + 32) (a_node term ar end above left tag)
  unfolding a_node
  node_spends end above tag =
      spends_either _ _ (eqb tag 0) variable_spends
      (spends_either _ _ (eqb tag 1) applied_spends (raised_spends end above))

-- a tag for which no node is left keeps no rule
term_spends : (deep : ℕ) (ar : ℕ → ℕ) (end least above left : ℕ) → Spends grown (34 * left) (a_term deep ar end least above left)
unfolding a_term Spent
term_spends zero ar end least above left =
    spends_field _ _ _ _ 0 (λ v q. absurd (q.allowed refl)) (λ v q. absurd (q.allowed refl))
term_spends (suc deep) ar end least above left =
    spends_field _ _ _ _ (34 * (left - 1) + 32) (λ v q. let l = q.allowed in omega arith) λ v q.
    node_spends _ (λ s k. term_spends deep ar end 0 s k) ar (left - 1) end above v

-- ---- how many bits at most, part by part

abbrev term_bits : ℕ
term_bits = 34 * 256

abbrev pair_bits : ℕ
pair_bits = 6 + term_bits

abbrev filling_bits : ℕ
filling_bits = 7 + 64 * pair_bits

-- a head and 8 calls
abbrev rule_bits : ℕ
rule_bits = 4 + 9 * term_bits

abbrev use_bits : ℕ
use_bits = 8 + (24 + filling_bits)

abbrev claim_bits : ℕ
claim_bits = term_bits + (1 + term_bits)

-- the stop number has 4 bits, so there are at most 15 uses; the last comes after a bit
abbrev stop_bits : ℕ
stop_bits = 4 + (filling_bits + (15 * use_bits + 1))

abbrev line_bits : ℕ
line_bits = 1 + (claim_bits + (8 + stop_bits))

abbrev closing_bits : ℕ
closing_bits = 8 + (24 + filling_bits)

-- ---- terms and fillings

any_few : (ar : ℕ → ℕ) → AtMost term_bits (any_term ar)
unfolding any_term
any_few ar = at_most (term_spends 256 ar 4096 0 256 256)

root_few : (ar : ℕ → ℕ) → AtMost term_bits (root_term ar)
unfolding root_term
root_few ar = at_most (term_spends 256 ar 1 1 256 256)

call_few : (ar : ℕ → ℕ) → AtMost term_bits (a_call ar)
unfolding a_call call_term
call_few ar = at_made _ _ (at_most (term_spends 256 ar 1 0 256 256))

pair_few : (ar : ℕ → ℕ) (least : ℕ) → AtMost pair_bits (a_pair ar least)
unfolding a_pair
pair_few ar least = spends_field _ _ _ _ term_bits (λ v q. omega arith) λ x q. at_made _ _ (any_few ar)

pairs_few : (ar : ℕ → ℕ) (n least : ℕ) → AtMost (pair_bits * n) (pairs_of ar n least)
unfolding pairs_of
pairs_few ar zero least = at_done
pairs_few ar (suc n) least =
    at_then _ _ _ (pair_few ar least) (λ p. at_made _ _ (pairs_few ar n (p.0 + 1))) (omega arith)

filling_few : (ar : ℕ → ℕ) → AtMost filling_bits (a_filling ar)
unfolding a_filling InRange
filling_few ar =
    spends_field _ _ _ _ (64 * pair_bits) (λ v q. omega arith) λ n q.
    let l = q.ranged in spends_more (64 * pair_bits) (pairs_few ar n 0) (omega arith)

-- ---- the rule book

arities_few : (n : ℕ) → AtMost (4 * n) (arities_of n)
unfolding arities_of
arities_few zero = at_done
arities_few (suc n) = spends_field _ _ _ _ (4 * n) (λ v q. omega arith) λ a q. at_made _ _ (arities_few n)

signature_few : AtMost (8 + 4 * 255) a_signature
unfolding a_signature
signature_few =
    spends_field _ _ _ _ (4 * 255) (λ v q. omega arith) λ n q.
    let l = q.narrow in spends_more (4 * 255) (arities_few n) (omega arith)

roots_few : (ar : ℕ → ℕ) (n : ℕ) → AtMost (term_bits * n) (roots_of ar n)
unfolding roots_of
roots_few ar zero = at_done
roots_few ar (suc n) = at_then _ _ _ (root_few ar) (λ g. at_made _ _ (roots_few ar n)) (omega arith)

rule_few : (ar : ℕ → ℕ) → AtMost rule_bits (a_rule ar)
unfolding a_rule a_rule_of InRange
rule_few ar =
    spends_field _ _ _ _ (9 * term_bits) (λ v q. omega arith) λ m q.
    let l = q.ranged in at_then _ _ _ (root_few ar) (λ g. at_made _ _ (roots_few ar m)) (omega arith)

rules_few : (ar : ℕ → ℕ) (n : ℕ) → AtMost (rule_bits * n) (rules_of ar n)
unfolding rules_of
rules_few ar zero = at_done
rules_few ar (suc n) = at_then _ _ _ (rule_few ar) (λ r. at_made _ _ (rules_few ar n)) (omega arith)

rule_list_few : (ar : ℕ → ℕ) → AtMost (8 + rule_bits * 255) (a_rule_list ar)
unfolding a_rule_list
rule_list_few ar =
    spends_field _ _ _ _ (rule_bits * 255) (λ v q. omega arith) λ n q.
    let l = q.narrow in spends_more (rule_bits * 255) (rules_few ar n) (omega arith)

book_few : AtMost (8 + 4 * 255 + (8 + rule_bits * 255)) a_book
unfolding a_book
book_few = at_then _ _ _ signature_few (λ arities. at_made _ _ (rule_list_few (arity_in arities))) (omega arith)

-- ---- the certificate

module _ (ar : ℕ → ℕ) where
  right_few : AtMost (1 + term_bits) (a_right ar)
  unfolding a_right a_right_if
  right_few =
      spends_field _ _ _ _ term_bits (λ v q. omega arith) λ b q.
      spends_either _ _ (eqb b 0) at_done (at_made _ _ (any_few ar))

  claim_few : AtMost claim_bits (a_claim ar)
  unfolding a_claim
  claim_few = at_then _ _ _ (any_few ar) (λ g. at_made _ _ right_few) (omega arith)

  index_few : AtMost 24 an_index
  unfolding an_index
  index_few =
      spends_field _ _ _ _ 12 (λ v q. omega arith) λ i q. spends_field _ _ _ _ 0 (λ v q. omega arith) λ j r. at_done

  instance_few : AtMost (24 + filling_bits) (an_instance ar)
  unfolding an_instance
  instance_few = at_then _ _ _ index_few (λ r. at_made _ _ (filling_few ar)) (omega arith)

  use_few : (line : ℕ) → AtMost use_bits (a_use ar line)
  unfolding a_use
  use_few line = spends_field _ _ _ _ (24 + filling_bits) (λ v q. omega arith) λ l q. at_made _ _ instance_few

  uses_few : (line n : ℕ) → AtMost (use_bits * n) (uses_of ar line n)
  unfolding uses_of
  uses_few line zero = at_done
  uses_few line (suc n) = at_then _ _ _ (use_few line) (λ u. at_made _ _ (uses_few line n)) (omega arith)

  last_few : (line : ℕ) → AtMost (1 + use_bits) (a_last ar line)
  unfolding a_last a_last_if
  last_few line =
      spends_field _ _ _ _ use_bits (λ v q. omega arith) λ b q.
      spends_either _ _ (eqb b 0) at_done (at_made _ _ (use_few line))

  stop_few : (line i : ℕ) → AtMost (use_bits * i + 1) (a_stop ar line i)
  unfolding a_stop
  stop_few line zero = at_done
  stop_few line (suc i) = at_then _ _ _ (uses_few line i) (λ us. at_made _ _ (last_few line)) (omega arith)

  stop_at_few : (line m : ℕ) → AtMost stop_bits (a_stop_at ar line m)
  unfolding a_stop_at a_stopped
  stop_at_few line m =
      spends_field _ _ _ _ (filling_bits + (15 * use_bits + 1)) (λ v q. omega arith) λ i q.
      let l = q.narrow in at_then _ _ _ (filling_few ar) (λ θ. at_made _ _ (stop_few line i)) (omega arith)

  module _ (ms : List ℕ) where
    unfold_few : (line : ℕ) → AtMost (8 + stop_bits) (an_unfold ar ms line)
    unfolding an_unfold
    unfold_few line =
        spends_field _ _ _ _ stop_bits (λ v q. omega arith) λ k q. at_made _ _ (stop_at_few line (get_or ms k 0))

    fall_few : AtMost (8 + filling_bits) (a_fall ar ms)
    unfolding a_fall
    fall_few = spends_field _ _ _ _ filling_bits (λ v q. omega arith) λ k q. at_made _ _ (filling_few ar)

    -- a descent has fewer bits than an unfold may have
    descent_few : (line : ℕ) → AtMost (8 + stop_bits) (a_descent ar ms line)
    unfolding a_descent
    descent_few line = at_then _ _ _ (use_few line) (λ u. at_made _ _ fall_few) (omega arith)

    line_few : (line : ℕ) → AtMost line_bits (a_line ar ms line)
    unfolding a_line a_line_of a_kind
    line_few line =
        spends_field _ _ _ _ (claim_bits + (8 + stop_bits)) (λ v q. omega arith) λ n q.
        at_then _ _ _ claim_few
        (λ c. at_made _ _ (spends_either _ _ (eqb n 0) (unfold_few line) (descent_few line))) (omega arith)

    lines_few : (n line : ℕ) → AtMost (line_bits * n) (lines_of ar ms n line)
    unfolding lines_of
    lines_few zero line = at_done
    lines_few (suc n) line = at_then _ _ _ (line_few line) (λ l. at_made _ _ (lines_few n (line + 1))) (omega arith)

  pace_few : AtMost 24 a_pace
  unfolding a_pace
  pace_few =
      spends_field _ _ _ _ 12 (λ v q. omega arith) λ k q. spends_field _ _ _ _ 0 (λ v q. omega arith) λ α r. at_done

  closed_few : AtMost (24 + filling_bits) (a_closed ar)
  unfolding a_closed
  closed_few = at_then _ _ _ pace_few (λ s. at_made _ _ (filling_few ar)) (omega arith)

  closing_few : (n : ℕ) → AtMost closing_bits (a_closing ar n)
  unfolding a_closing
  closing_few n = spends_field _ _ _ _ (24 + filling_bits) (λ v q. omega arith) λ l q. at_made _ _ closed_few

  certificate_few : (ms : List ℕ) → AtMost (8 + (line_bits * 255 + closing_bits)) (a_certificate ar ms)
  unfolding a_certificate a_certificate_of
  certificate_few ms =
      spends_field _ _ _ _ (line_bits * 255 + closing_bits) (λ v q. omega arith) λ n q.
      let l = q.narrow in at_then _ _ _ (lines_few ms n 0) (λ ls. at_made _ _ (closing_few n)) (omega arith)

-- ---- so all their bits can be counted: for a book less than 2^25, for a certificate less than 2^32

pub book_countable : Countable a_book
book_countable fs q l = let w = led_spends l book_few in omega arith

pub certificate_countable : (ar : ℕ → ℕ) (ms : List ℕ) → Countable (a_certificate ar ms)
certificate_countable ar ms fs q l = let w = led_spends l (certificate_few ar ms) in omega arith

-- ---- a call has at most 8,704 bits

pub call_counted : (ar : ℕ → ℕ) (s : List ℕ) → Counted s (a_call ar)
call_counted ar s fs q l h = let w = led_spends l (call_few ar) in omega arith

pub call_narrow : (ar : ℕ → ℕ) (t : Pattern) (fs : List (ℕ × ℕ)) → Spells (a_call ar) t fs → width fs ≤ 8704
call_narrow ar t fs h = led_spends (spells_led (a_call ar) t fs h) (call_few ar)
