-- What the head of a node comes to: where the node is refused or ends, or what is asked for behind it.
use Rattle.std.specs.Prelude.{ℕ, ◌-◌, ◌≤◌, ◌≢◌, Result, Ok, Err}
use Rattle.fields.specs.Kinds.{node}
use Rattle.fields.specs.Kinds.{FieldKind as kind}
use Rattle.fields.specs.Grammar.{Grammar, bind, field}
use Rattle.fields.specs.Along.{Steps, Comes}
use Rattle.grammar.specs.Terms.{Grown, args_of, a_node}
use Rattle.terms.specs.Values.{left_of, left_of_all}
use Rattle.terms.specs.declared.heads.Head.{Head}
use Rattle.terms.specs.declared.heads.Head.TheVariants.{Leaf, Applied, Raised}

-- p asks at x for a node; `term above left` asks for a term below the node, `rest` nodes are allowed there, and y is the place past the head
pub data Heading {S : Type 0} (st : Steps S) (p : Grammar Grown) (x : S) (term : ℕ → ℕ → Grammar Grown) (rest : ℕ) (y : S) : Result Head ℕ → Type 0 where
  refused : {m : ℕ} → Comes st p x left_of (Err m) y → Heading st p x term rest y (Err m)
  variable : Comes st p x left_of (Ok rest) y → Heading st p x term rest y (Ok Leaf)
  -- what the arguments come to, the whole comes to
  applied : {n : ℕ} → n ≤ 8 → ((r : Result ℕ ℕ) (z : S) → Comes st (args_of (term 256) n rest) y left_of_all r z → Comes st p x left_of r z)
      → Heading st p x term rest y (Ok (Applied n))
  -- what the term below the power comes to, the whole comes to
  raised : {f : ℕ} → ((r : Result ℕ ℕ) (z : S) → Comes st (term f rest) y left_of r z → Comes st p x left_of r z)
      → Heading st p x term rest y (Ok (Raised f))

-- what a node comes to, where one is allowed
pub record HeadAt {S : Type 0} (st : Steps S) (ar : ℕ → ℕ) (end least above : ℕ) (x : S) (r : Result Head ℕ) (y : S) : Type 0 where
  pub told : (left : ℕ) → left ≢ 0 → (term : ℕ → ℕ → Grammar Grown)
      → Heading st (bind (field kind.tag (node least left)) (a_node term ar end above (left - 1))) x term (left - 1) y r
