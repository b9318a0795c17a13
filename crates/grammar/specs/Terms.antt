-- The grammar of terms and fillings. 01, "Packed layout": "Term", "Filling".
use Rattle.std.specs.Prelude.{ℕ, zero, suc, ◌+◌, ◌-◌, [], ◌∷◌, cond, eqb}
use Rattle.patterns.specs.Term.{Terms, var, fun, pow, nil, cons}
use Rattle.patterns.specs.First.{Exp, Pattern}
use Rattle.patterns.specs.Certificate.{Fills}
use Rattle.fields.specs.Kinds.{any, from_to, applied, unary, beside, node}
use Rattle.fields.specs.Kinds.{FieldKind as kind}
use Rattle.fields.specs.Grammar.{Grammar, done, bind, field}

-- `ar f` is the arity of the symbol f, 16 where there is no such symbol.
-- `end` bounds a: it is 1 in rules and in a call, where a = 0, and 4,096 elsewhere. `above` is the symbol of the power directly above, 256 if none.

-- 01: "Tag 1: symbol, 8 bits, arity not 1."
unfoldable pub a_symbol : (ℕ → ℕ) → Grammar ℕ
a_symbol ar = field kind.symbol (applied ar)

-- 01: "Tag 2: power, symbol 8 bits of arity 1"; 5 "at the symbol below its like"
unfoldable pub a_unary : (ℕ → ℕ) → ℕ → Grammar ℕ
a_unary ar above = field kind.power_symbol (unary ar above)

-- 01: "a 12 bits, b 12 bits"; 5 "at b if a = b = 0"
unfoldable pub an_exponent : ℕ → Grammar Exp
an_exponent end = bind (field kind.power_a (from_to 0 end)) λ a. bind (field kind.power_b (beside a)) λ b. done (a, b)

-- a term, or the arguments of a symbol, with the nodes still allowed
pub record Grown : Type 0 where
  pub term : Pattern
  pub left : ℕ

pub record GrownAll : Type 0 where
  pub terms : Terms Exp
  pub left : ℕ

-- n terms, one after the other, the allowance handed on
unfoldable pub args_of : (ℕ → Grammar Grown) → ℕ → ℕ → Grammar GrownAll
args_of term zero left = done (record { terms = nil; left = left })
args_of term (suc n) left =
    bind (term left) λ g.
    bind (args_of term n g.left) λ h. done (record { terms = cons g.term h.terms; left = h.left })

-- a node with `left` nodes allowed behind it; `term above left` is the grammar of a term below it
unfoldable pub a_variable : ℕ → Grammar Grown
a_variable left = bind (field kind.variable any) λ x. done (record { term = var x; left = left })

unfoldable pub an_applied : (ℕ → ℕ → Grammar Grown) → (ℕ → ℕ) → ℕ → Grammar Grown
an_applied term ar left =
    bind (a_symbol ar) λ f.
    bind (args_of (term 256) (ar f) left) λ g. done (record { term = fun f g.terms; left = g.left })

-- a power's symbol and exponent
unfoldable pub a_raise : (ℕ → ℕ) → ℕ → ℕ → Grammar (ℕ × Exp)
a_raise ar end above = bind (a_unary ar above) λ s. bind (an_exponent end) λ e. done (s, e)

unfoldable pub a_raised : (ℕ → ℕ → Grammar Grown) → (ℕ → ℕ) → ℕ → ℕ → ℕ → Grammar Grown
a_raised term ar end above left =
    bind (a_raise ar end above) λ p.
    bind (term p.0 left) λ g. done (record { term = pow p.0 p.1 g.term; left = g.left })

-- 01: "a 2-bit tag for each node": 0 a variable, 1 a symbol, 2 a power
unfoldable pub a_node : (ℕ → ℕ → Grammar Grown) → (ℕ → ℕ) → ℕ → ℕ → ℕ → ℕ → Grammar Grown
a_node term ar end above left tag =
    cond (eqb tag 0) (a_variable left) (cond (eqb tag 1) (an_applied term ar left) (a_raised term ar end above left))

-- A term of at most `left` nodes, its tag from `least` on. 6: "a 257th node would begin, found before its tag is read".
-- The first number bounds how deep the term goes; any that is at least `left` gives the same, and at 0 no node is left.
unfoldable pub a_term : ℕ → (ℕ → ℕ) → ℕ → ℕ → ℕ → ℕ → Grammar Grown
a_term zero ar end least above left = bind (field kind.tag (node least 0)) a_variable
a_term (suc deep) ar end least above left =
    bind (field kind.tag (node least left)) (a_node (λ s k. a_term deep ar end 0 s k) ar end above (left - 1))

-- 01: "Terms in files are normal and have at most 256 nodes."
unfoldable pub any_term : (ℕ → ℕ) → Grammar Grown
any_term ar = a_term 256 ar 4096 0 256 256

-- 01, of heads and calls: "Roots may not be variables (4 at the tag). Powers have a = 0."
unfoldable pub root_term : (ℕ → ℕ) → Grammar Grown
root_term ar = a_term 256 ar 1 1 256 256

-- 02, Ticket 1: "one packed call without index", "where a above 0 is 4"
unfoldable pub call_term : (ℕ → ℕ) → Grammar Grown
call_term ar = a_term 256 ar 1 0 256 256

-- 01: "Filling: count 7 (0 to 64), then variable 6, strictly rising, and a term."
unfoldable pub a_pair : (ℕ → ℕ) → ℕ → Grammar (ℕ × Pattern)
a_pair ar least = bind (field kind.filled_variable (from_to least 64)) λ x. bind (any_term ar) λ g. done (x, g.term)

unfoldable pub pairs_of : (ℕ → ℕ) → ℕ → ℕ → Grammar (Fills Exp)
pairs_of ar zero least = done []
pairs_of ar (suc n) least = bind (a_pair ar least) λ p. bind (pairs_of ar n (p.0 + 1)) λ ps. done (p ∷ ps)

unfoldable pub a_filling : (ℕ → ℕ) → Grammar (Fills Exp)
a_filling ar = bind (field kind.filling_count (from_to 0 65)) λ n. pairs_of ar n 0
