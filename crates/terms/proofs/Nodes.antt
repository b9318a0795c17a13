-- The cases of the grammar of terms, as the code meets them, and that the allowance falls.
use Prim.Native.Nat.{ℕ, zero, suc, ◌-◌, ◌≤◌}
use mathlib.Core.Path.{◌≡◌, refl}
use mathlib.Core.Bool.{Bool, true, false, cond}
use mathlib.Core.Option.{some-ne-none}
use mathlib.Core.Logic.{◌≢◌}
use native.Mathlib.Omega.{arith}
use borrow.Author.Tests.{eq-eqb, ne_eqb}
use lib.Dec.{eqb}
use Rattle.patterns.specs.Term.{nil, cons}
use Rattle.fields.specs.Kinds.{any, node}
use Rattle.fields.specs.Kinds.{FieldKind as kind}
use Rattle.fields.specs.Grammar.{Grammar, bind, field}
use Rattle.fields.proofs.Many.{Rounds}
use Rattle.fields.proofs.Always.{Always, always_bind, always_then, always_weaken}
use Rattle.grammar.specs.Terms.{Grown, GrownAll, a_symbol, a_raise, a_variable, an_applied, a_raised, a_node, a_term, args_of}

-- ---- the tags

module _ (term : ℕ → ℕ → Grammar Grown) (ar : ℕ → ℕ) (end above left tag : ℕ) where
  pub node_variable : tag ≡ 0 → a_node term ar end above left tag ≡ a_variable left
  unfolding a_node
  node_variable h = rw (eq-eqb tag 0 h)

  pub node_applied : tag ≡ 1 → a_node term ar end above left tag ≡ an_applied term ar left
  unfolding a_node
  node_applied h = rw (ne_eqb tag 0 (λ z. omega arith), eq-eqb tag 1 h)

  pub node_raised : tag ≢ 0 → tag ≢ 1 → a_node term ar end above left tag ≡ a_raised term ar end above left
  unfolding a_node
  node_raised h k = rw (ne_eqb tag 0 h, ne_eqb tag 1 k)

-- ---- arguments

pub args_rounds : (term : ℕ → Grammar Grown)
    → Rounds (args_of term) term (λ left g. g.left)
    (λ g h. record { terms = cons g.term h.terms; left = h.left })
    (λ left. record { terms = nil; left = left })
unfolding args_of
args_rounds term = record { none = λ left. refl; more = λ n left. refl }

-- ---- the allowance falls

abbrev Below : ℕ → Grown → Type 0
Below left g = g.left ≤ left

abbrev BelowAll : ℕ → GrownAll → Type 0
BelowAll left g = g.left ≤ left

args_fall : (term : ℕ → Grammar Grown) → ((k : ℕ) → Always (Below k) (term k)) → (n left : ℕ)
    → Always (BelowAll left) (args_of term n left)
unfolding args_of Always
args_fall term f zero left = omega arith
args_fall term f (suc n) left =
    always_bind (Below left) (BelowAll left) _ (term left) (f left)
    (λ g h. always_bind (BelowAll g.left) (BelowAll left) _ (args_of term n g.left) (args_fall term f n g.left)
    (λ x k. omega arith))

node_falls : (term : ℕ → ℕ → Grammar Grown) → ((s k : ℕ) → Always (Below k) (term s k)) → (ar : ℕ → ℕ)
    (end above left tag : ℕ) → Always (Below left) (a_node term ar end above left tag)
unfolding a_node a_variable an_applied a_raised Always
node_falls term f ar end above left tag = go (eqb tag 0) (eqb tag 1)
  where
    go : (a b : Bool)
        → Always (Below left)
        (cond a (a_variable left) (cond b (an_applied term ar left) (a_raised term ar end above left)))
    go true b = always_then (Below left) _ (field kind.variable any) (λ x. omega arith)
    go false true =
        always_then (Below left) _ (a_symbol ar)
        (λ s. always_bind (BelowAll left) (Below left) _ (args_of (term 256) (ar s) left) (args_fall (term 256) (f 256) (ar s) left)
        (λ g h. h))
    go false false =
        always_then (Below left) _ (a_raise ar end above)
        (λ p. always_bind (Below left) (Below left) _ (term p.0 left) (f p.0 left) (λ g h. h))

pub term_falls : (deep : ℕ) (ar : ℕ → ℕ) (end least above left : ℕ) → Always (Below left) (a_term deep ar end least above left)
unfolding a_term a_variable Always bind field
term_falls zero ar end least above left = λ v t. absurd (some-ne-none 6 t)
term_falls (suc deep) ar end least above left =
    always_then (Below left) (a_node (λ s k. a_term deep ar end 0 s k) ar end above (left - 1)) (field kind.tag (node least left))
    (λ n. always_weaken (Below (left - 1)) (Below left) (λ g h. omega arith)
    (a_node (λ s k. a_term deep ar end 0 s k) ar end above (left - 1) n)
    (node_falls (λ s k. a_term deep ar end 0 s k) (λ s k. term_falls deep ar end 0 s k) ar end above (left - 1) n))
