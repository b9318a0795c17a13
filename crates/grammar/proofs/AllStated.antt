-- Every field that the grammars of the two files and of a call can ask for is of a kind and a range that 01 or 02 states.
use Prim.Native.Nat.{ℕ, zero, suc, ◌-◌}
use mathlib.Core.List.{List}
use lib.Dec.{eqb}
use Rattle.fields.specs.Kinds.{FieldKind, Range, any, from_to, node}
use Rattle.fields.specs.Kinds.{FieldKind as kind}
use Rattle.fields.specs.Grammar.{Grammar, done, bind, field}
use Rattle.fields.specs.Asks.{Asks}
use Rattle.fields.proofs.Asking.{asks_bind, asks_cond, asks_field, asks_one, asks_two}
use Rattle.grammar.specs.Stated.{Stated}
use Rattle.grammar.specs.Terms.{Grown, a_symbol, a_unary, an_exponent, args_of, a_variable, an_applied, a_raise, a_raised, a_node, a_term, any_term, root_term, call_term, a_pair, pairs_of, a_filling}
use Rattle.grammar.specs.Books.{arity_in, arities_of, a_signature, roots_of, a_rule_of, a_rule, rules_of, a_rule_list, a_book}
use Rattle.grammar.specs.Calls.{a_call}
use Rattle.grammar.specs.Certificates.{a_right_if, a_right, a_claim, an_index, an_instance, a_use, uses_of, a_last_if, a_last, a_stop, a_stopped, a_stop_at, an_unfold, a_fall, a_descent, a_kind, a_line_of, a_line, lines_of, a_pace, a_closed, a_closing, a_certificate_of, a_certificate}

abbrev AsStated : {A : Type 0} → Grammar A → Type 0
AsStated p = Asks Stated p

then : {A B : Type 0} (p : Grammar A) (f : A → Grammar B) → AsStated p → ((a : A) → AsStated (f a)) → AsStated (bind p f)
then = asks_bind Stated

two : {A B C : Type 0} (p : Grammar A) (q : A → Grammar B) (mk : A → B → C) → AsStated p → ((a : A) → AsStated (q a))
    → AsStated (bind p λ a. bind (q a) λ b. done (mk a b))
two = asks_two Stated

one : {A B : Type 0} (p : Grammar A) (mk : A → B) → AsStated p → AsStated (bind p λ a. done (mk a))
one = asks_one Stated

its : {k : FieldKind} {r : Range} → Stated k r → AsStated (field k r)
its {k} {r} s = asks_field Stated k r s

-- ---- terms and fillings

args_stated : (term : ℕ → Grammar Grown) → ((k : ℕ) → AsStated (term k)) → (n left : ℕ) → AsStated (args_of term n left)
unfolding args_of Asks
args_stated term h zero left = tt
args_stated term h (suc n) left = two (term left) _ _ (h left) (λ g. args_stated term h n g.left)

module _ (ar : ℕ → ℕ) (end : ℕ) (bounded : Stated kind.power_a (from_to 0 end)) where
  raise_stated : (above : ℕ) → AsStated (a_raise ar end above)
  unfolding a_raise a_unary an_exponent
  raise_stated above =
      two (a_unary ar above) _ _ (its Stated.power_symbol)
      (λ s. two (field kind.power_a (from_to 0 end)) _ _ (its bounded) (λ a. its Stated.power_b))

  node_stated : (term : ℕ → ℕ → Grammar Grown) → ((s k : ℕ) → AsStated (term s k)) → (above left n : ℕ)
      → AsStated (a_node term ar end above left n)
  unfolding a_node a_variable an_applied a_raised a_symbol
  node_stated term h above left n =
      asks_cond Stated (eqb n 0) _ _ (one (field kind.variable any) _ (its Stated.variable))
      (asks_cond Stated (eqb n 1) _ _
      (two (a_symbol ar) _ _ (its Stated.symbol) (λ f. args_stated (term 256) (h 256) (ar f) left))
      (two (a_raise ar end above) _ _ (raise_stated above) (λ p. h p.0 left)))

  term_stated : (deep least above left : ℕ) → ((n : ℕ) → Stated kind.tag (node least n)) → AsStated (a_term deep ar end least above left)
  unfolding a_term a_variable
  term_stated zero least above left h =
      then (field kind.tag (node least 0)) _ (its (h 0)) (λ n. one (field kind.variable any) _ (its Stated.variable))
  term_stated (suc deep) least above left h =
      then (field kind.tag (node least left)) _ (its (h left))
      (node_stated (λ s j. a_term deep ar end 0 s j) (λ s j. term_stated deep 0 s j (λ n. Stated.tag)) above (left - 1))

any_stated : (ar : ℕ → ℕ) → AsStated (any_term ar)
unfolding any_term
any_stated ar = term_stated ar 4096 Stated.power_a 256 0 256 256 (λ n. Stated.tag)

root_stated : (ar : ℕ → ℕ) → AsStated (root_term ar)
unfolding root_term
root_stated ar = term_stated ar 1 Stated.rule_power_a 256 1 256 256 (λ n. Stated.root_tag)

pub call_stated : (ar : ℕ → ℕ) → Asks Stated (a_call ar)
unfolding a_call call_term
call_stated ar = one (call_term ar) _ (term_stated ar 1 Stated.rule_power_a 256 0 256 256 (λ n. Stated.tag))

pairs_stated : (ar : ℕ → ℕ) (n least : ℕ) → AsStated (pairs_of ar n least)
unfolding pairs_of a_pair Asks
pairs_stated ar zero least = tt
pairs_stated ar (suc n) least =
    two (a_pair ar least) _ _
    (two (field kind.filled_variable (from_to least 64)) _ _ (its Stated.filled_variable) (λ x. any_stated ar))
    (λ p. pairs_stated ar n _)

filling_stated : (ar : ℕ → ℕ) → AsStated (a_filling ar)
unfolding a_filling
filling_stated ar = then (field kind.filling_count (from_to 0 65)) _ (its Stated.filling_count) (λ n. pairs_stated ar n 0)

-- ---- books

arities_stated : (n : ℕ) → AsStated (arities_of n)
unfolding arities_of Asks
arities_stated zero = tt
arities_stated (suc n) = two (field kind.arity (from_to 0 9)) _ _ (its Stated.arity) (λ a. arities_stated n)

roots_stated : (ar : ℕ → ℕ) (n : ℕ) → AsStated (roots_of ar n)
unfolding roots_of Asks
roots_stated ar zero = tt
roots_stated ar (suc n) = two (root_term ar) _ _ (root_stated ar) (λ g. roots_stated ar n)

rules_stated : (ar : ℕ → ℕ) (n : ℕ) → AsStated (rules_of ar n)
unfolding rules_of a_rule a_rule_of Asks
rules_stated ar zero = tt
rules_stated ar (suc n) =
    two (a_rule ar) _ _
    (then (field kind.call_count (from_to 0 9)) _ (its Stated.call_count)
    (λ m. two (root_term ar) _ _ (root_stated ar) (λ g. roots_stated ar m)))
    (λ r. rules_stated ar n)

pub book_stated : Asks Stated a_book
unfolding a_book a_signature a_rule_list
book_stated =
    two a_signature _ _ (then (field kind.symbol_count any) _ (its Stated.symbol_count) arities_stated)
    (λ ars. then (field kind.rule_count any) _ (its Stated.rule_count) (rules_stated (arity_in ars)))

-- ---- certificates

claim_stated : (ar : ℕ → ℕ) → AsStated (a_claim ar)
unfolding a_claim a_right a_right_if Asks
claim_stated ar =
    two (any_term ar) _ _ (any_stated ar)
    (λ g. then (field kind.right_bit any) _ (its Stated.right_bit)
    (λ b. asks_cond Stated (eqb b 0) _ _ tt (one (any_term ar) _ (any_stated ar))))

use_stated : (ar : ℕ → ℕ) (line : ℕ) → AsStated (a_use ar line)
unfolding a_use an_instance an_index
use_stated ar line =
    two (field kind.used_line (from_to 0 line)) _ _ (its Stated.used_line)
    (λ l. two an_index _ _ (two (field kind.index_i any) _ _ (its Stated.index_i) (λ i. its Stated.index_j)) (λ r. filling_stated ar))

uses_stated : (ar : ℕ → ℕ) (line n : ℕ) → AsStated (uses_of ar line n)
unfolding uses_of Asks
uses_stated ar line zero = tt
uses_stated ar line (suc n) = two (a_use ar line) _ _ (use_stated ar line) (λ u. uses_stated ar line n)

stop_stated : (ar : ℕ → ℕ) (line i : ℕ) → AsStated (a_stop ar line i)
unfolding a_stop a_last a_last_if Asks
stop_stated ar line zero = tt
stop_stated ar line (suc i) =
    two (uses_of ar line i) _ _ (uses_stated ar line i)
    (λ us. then (field kind.use_bit any) _ (its Stated.use_bit)
    (λ b. asks_cond Stated (eqb b 0) _ _ tt (one (a_use ar line) _ (use_stated ar line))))

kind_stated : (ar : ℕ → ℕ) (ms : List ℕ) (line n : ℕ) → AsStated (a_kind ar ms line n)
unfolding a_kind an_unfold a_stop_at a_stopped a_descent a_fall
kind_stated ar ms line n =
    asks_cond Stated (eqb n 0) _ _
    (two (field kind.rule _) _ _ (its Stated.rule)
    (λ k. then (field kind.stop_number _) _ (its (Stated.stop_number _))
    (λ i. two (a_filling ar) _ _ (filling_stated ar) (λ θ. stop_stated ar line i))))
    (two (a_use ar line) _ _ (use_stated ar line)
    (λ u. two (field kind.rule _) _ _ (its Stated.descent_rule) (λ k. filling_stated ar)))

lines_stated : (ar : ℕ → ℕ) (ms : List ℕ) (n line : ℕ) → AsStated (lines_of ar ms n line)
unfolding lines_of a_line a_line_of Asks
lines_stated ar ms zero line = tt
lines_stated ar ms (suc n) line =
    two (a_line ar ms line) _ _
    (then (field kind.line_kind any) _ (its Stated.line_kind)
    (λ k. two (a_claim ar) _ _ (claim_stated ar) (λ c. kind_stated ar ms line k)))
    (λ l. lines_stated ar ms n _)

pub certificate_stated : (ar : ℕ → ℕ) (ms : List ℕ) → Asks Stated (a_certificate ar ms)
unfolding a_certificate a_certificate_of a_closing a_closed a_pace
certificate_stated ar ms =
    then (field kind.line_count any) _ (its Stated.line_count)
    (λ n. two (lines_of ar ms n 0) _ _ (lines_stated ar ms n 0)
    (λ ls. two (field kind.named_line (from_to 0 n)) _ _ (its Stated.named_line)
    (λ l. two a_pace _ _
    (two (field kind.step_k any) _ _ (its Stated.step_k) (λ k. its (Stated.start_α k)))
    (λ s. filling_stated ar))))
