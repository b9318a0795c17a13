-- The grammar of the rule book. 01, "Packed layout": "Rule book".
use Rattle.std.specs.Prelude.{ℕ, zero, suc, List, [], ◌∷◌, get_or}
use Rattle.patterns.specs.First.{Exp, Pattern}
use Rattle.patterns.specs.Derive.{Rule, Book}
use Rattle.fields.specs.Kinds.{any, from_to}
use Rattle.fields.specs.Kinds.{FieldKind as kind}
use Rattle.fields.specs.Grammar.{Grammar, done, bind, field}
use Rattle.grammar.specs.Terms.{root_term}

-- a rule book: the arities of its symbols, and its rules
pub record RuleBook : Type 0 where
  pub arities : List ℕ
  pub rules : Book Exp

-- the arity of a symbol, 16 where there is no such symbol
unfoldable pub arity_in : List ℕ → ℕ → ℕ
arity_in arities f = get_or arities f 16

-- 01: "symbol count 8 bits; each arity 4"
unfoldable pub arities_of : ℕ → Grammar (List ℕ)
arities_of zero = done []
arities_of (suc n) = bind (field kind.arity (from_to 0 9)) λ a. bind (arities_of n) λ rest. done (a ∷ rest)

unfoldable pub a_signature : Grammar (List ℕ)
a_signature = bind (field kind.symbol_count any) arities_of

unfoldable pub roots_of : (ℕ → ℕ) → ℕ → Grammar (List Pattern)
roots_of ar zero = done []
roots_of ar (suc n) = bind (root_term ar) λ g. bind (roots_of ar n) λ ts. done (g.term ∷ ts)

-- 01: "each rule: call count 4 (0 to 8), head, calls"
unfoldable pub a_rule_of : (ℕ → ℕ) → ℕ → Grammar (Rule Exp)
a_rule_of ar m = bind (root_term ar) λ g. bind (roots_of ar m) λ ts. done (record { head = g.term; calls = ts })

unfoldable pub a_rule : (ℕ → ℕ) → Grammar (Rule Exp)
a_rule ar = bind (field kind.call_count (from_to 0 9)) (a_rule_of ar)

unfoldable pub rules_of : (ℕ → ℕ) → ℕ → Grammar (Book Exp)
rules_of ar zero = done []
rules_of ar (suc n) = bind (a_rule ar) λ r. bind (rules_of ar n) λ rs. done (r ∷ rs)

-- 01: "rule count 8"
unfoldable pub a_rule_list : (ℕ → ℕ) → Grammar (Book Exp)
a_rule_list ar = bind (field kind.rule_count any) (rules_of ar)

unfoldable pub a_book : Grammar RuleBook
a_book =
    bind a_signature λ arities.
    bind (a_rule_list (arity_in arities)) λ rules. done (record { arities = arities; rules = rules })
