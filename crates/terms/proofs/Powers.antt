-- A term from power to power, as the loop meets it: whatever is found from a power on is found of the whole.
use Rattle.std.specs.Prelude.{Result, Ok, Err}
use Prim.Native.Nat.{ℕ, zero, suc, ◌-◌, ◌≤◌}
use mathlib.Core.Path.{◌≡◌, refl, subst}
use mathlib.Core.Logic.{◌≢◌}
use native.Mathlib.Omega.{arith}
use borrow.Author.Tests.{eq-eqb}
use Rattle.fields.specs.Kinds.{node}
use Rattle.fields.specs.Kinds.{FieldKind as kind}
use Rattle.fields.specs.Grammar.{Grammar, bind, field}
use Rattle.fields.specs.Along.{Steps, Comes}
use Rattle.fields.proofs.AlongAlways.{always_handed}
use Rattle.fields.proofs.Alongs.{seq_first, comes_spent}
use Rattle.grammar.specs.Terms.{Grown, a_node, a_term, args_of}
use Rattle.terms.specs.Values.{left_of, left_of_all}
use Rattle.terms.specs.declared.heads.Head.{Head}
use Rattle.terms.specs.declared.heads.Head.TheVariants.{Leaf, Applied, Raised}
use Rattle.terms.specs.Headings.{Heading, HeadAt}
use Rattle.terms.specs.Headings.{Heading as heading}
use Rattle.terms.proofs.Nodes.{term_falls}

-- ---- a term, by the nodes that are allowed

pub term_none : {S : Type 0} {st : Steps S} (deep : ℕ) (ar : ℕ → ℕ) (end least above left : ℕ) {x : S} → left ≡ 0
    → Comes st (a_term deep ar end least above left) x left_of (Err 6) x
unfolding a_term bind field
term_none zero ar end least above left {x} h = comes_spent kind.tag (node least 0) _ x refl
term_none (suc deep) ar end least above left {x} h = comes_spent kind.tag (node least left) _ x (eq-eqb left 0 h)

pub term_some : {S : Type 0} {st : Steps S} (deep : ℕ) (ar : ℕ → ℕ) (end least above left : ℕ) {x y : S} {r : Result ℕ ℕ} → left ≢ 0 → left ≤ deep
    → ((d : ℕ) → left - 1 ≤ d
    → Comes st (bind (field kind.tag (node least left)) (a_node (λ f k. a_term d ar end 0 f k) ar end above (left - 1))) x left_of r y)
    → Comes st (a_term deep ar end least above left) x left_of r y
unfolding a_term
term_some zero ar end least above left n h f = absurd (n (omega arith))
term_some (suc deep) ar end least above left n h f = f deep (omega arith)

-- ---- what a head says of its node

module _ {S : Type 0} {st : Steps S} {p : Grammar Grown} {x y : S} {term : ℕ → ℕ → Grammar Grown} {rest : ℕ} where
  head_bad : {m : ℕ} → Heading st p x term rest y (Err m) → Comes st p x left_of (Err m) y
  head_bad (heading.refused h) = h

  head_leaf : Heading st p x term rest y (Ok Leaf) → Comes st p x left_of (Ok rest) y
  head_leaf (heading.variable h) = h

  head_few : {n : ℕ} → Heading st p x term rest y (Ok (Applied n)) → n ≤ 8
  head_few (heading.applied n h) = n

  head_args : {n : ℕ} → Heading st p x term rest y (Ok (Applied n)) → (r : Result ℕ ℕ) (z : S)
      → Comes st (args_of (term 256) n rest) y left_of_all r z → Comes st p x left_of r z
  head_args (heading.applied n h) = h

  head_power : {f : ℕ} → Heading st p x term rest y (Ok (Raised f)) → (r : Result ℕ ℕ) (z : S) → Comes st (term f rest) y left_of r z → Comes st p x left_of r z
  head_power (heading.raised h) = h

  -- of the head that was found
  at_head : {r q : Result Head ℕ} → r ≡ q → Heading st p x term rest y r → Heading st p x term rest y q
  at_head e h = subst (Heading st p x term rest y) e h

-- ---- from power to power

-- the term at x, with `left` nodes allowed, has led to a term at y, with `rest` nodes allowed, below a power of `above`
pub record Through {S : Type 0} (st : Steps S) (ar : ℕ → ℕ) (end least left : ℕ) (x : S) (from above rest : ℕ) (y : S) : Type 0 where
  pub whole : (r : Result ℕ ℕ) (z : S) → ((deep : ℕ) → rest ≤ deep → Comes st (a_term deep ar end from above rest) y left_of r z)
      → (deep : ℕ) → left ≤ deep → Comes st (a_term deep ar end least 256 left) x left_of r z

pub through_here : {S : Type 0} {st : Steps S} {ar : ℕ → ℕ} {end least left : ℕ} {x : S} → Through st ar end least left x least 256 left x
through_here = record { whole = λ r z h. h }

module _ {S : Type 0} {st : Steps S} {ar : ℕ → ℕ} {end least left : ℕ} {x : S} {from above rest : ℕ} {y : S} (T : Through st ar end least left x from above rest y) where
  pub through_none : rest ≡ 0 → (deep : ℕ) → left ≤ deep → Comes st (a_term deep ar end least 256 left) x left_of (Err 6) y
  through_none h = T.whole (Err 6) y (λ deep k. term_none deep ar end from above rest h)

  module _ (some : rest ≢ 0) {r : Result Head ℕ} {z : S} (N : HeadAt st ar end from above y r z) where
    pub through_bad : {m : ℕ} {q : Result ℕ ℕ} → r ≡ Err m → q ≡ Err m → (deep : ℕ) → left ≤ deep → Comes st (a_term deep ar end least 256 left) x left_of q z
    through_bad {m} e t = rw t (T.whole (Err m) z (λ deep k. term_some deep ar end from above rest some k (λ f l. head_bad (at_head e (N.told rest some _)))))

    pub through_leaf : r ≡ Ok Leaf → (deep : ℕ) → left ≤ deep → Comes st (a_term deep ar end least 256 left) x left_of (Ok (rest - 1)) z
    through_leaf e = T.whole _ z (λ deep k. term_some deep ar end from above rest some k (λ f l. head_leaf (at_head e (N.told rest some _))))

    pub through_few : {n : ℕ} → r ≡ Ok (Applied n) → n ≤ 8
    through_few e = head_few (at_head e (N.told rest some (λ f k. a_term 0 ar end 0 f k)))

    pub through_args : {n : ℕ} {q : Result ℕ ℕ} {w : S} → r ≡ Ok (Applied n)
        → ((deep : ℕ) → rest - 1 ≤ deep → Comes st (args_of (λ k. a_term deep ar end 0 256 k) n (rest - 1)) z left_of_all q w)
        → (deep : ℕ) → left ≤ deep → Comes st (a_term deep ar end least 256 left) x left_of q w
    through_args {q = q} {w = w} e h =
        T.whole q w
        (λ deep k. term_some deep ar end from above rest some k (λ f l. head_args (at_head e (N.told rest some (λ g j. a_term f ar end 0 g j))) q w (h f l)))

    pub through_power : {f : ℕ} → r ≡ Ok (Raised f) → Through st ar end least left x 0 f (rest - 1) z
    through_power e = record {
      whole = λ q w h.
          T.whole q w
          (λ deep k. term_some deep ar end from above rest some k (λ j l. head_power (at_head e (N.told rest some (λ g i. a_term j ar end 0 g i))) q w (h j l)));
    }

-- ---- an argument list of one, and the allowance

pub one_term : {S : Type 0} {st : Steps S} (term : ℕ → Grammar Grown) (left : ℕ) {x y : S} {r : Result ℕ ℕ}
    → Comes st (args_of term 1 left) x left_of_all r y → Comes st (term left) x left_of r y
unfolding args_of bind
one_term term left h = seq_first _ (λ g. refl) h

pub term_left : {S : Type 0} {st : Steps S} (deep : ℕ) (ar : ℕ → ℕ) (end least above left : ℕ) {x y : S} {r : Result ℕ ℕ} {k : ℕ}
    → Comes st (a_term deep ar end least above left) x left_of r y → r ≡ Ok k → k ≤ left
term_left deep ar end least above left h e = always_handed h e (λ n. n ≤ left) (term_falls deep ar end least above left)
