-- 02, "Is this call in the family?", said without a search.
use Rattle.std.specs.Prelude.{ℕ, ◌≤◌, ◌≡◌, ◌≢◌}
use Rattle.std.proofs.Math.Option.{Option, none, some}
use Rattle.patterns.specs.Term.{var, Filling, fill, All}
use Rattle.patterns.specs.Normal.{Normal}
use Rattle.patterns.specs.Every.{Every}
use Rattle.patterns.specs.Derive.{Rule, Book}
use Rattle.patterns.specs.Edition.{at}
use Rattle.patterns.specs.First.{Exp, Pattern, exponents, Level, one}

-- 02: "one packed call without index": normal as all terms in files, "a above 0 is 4", b has 12 bits
pub record Call (c : Pattern) : Type 0 where
  pub normal : Normal exponents c
  pub level : All Level c
  pub small : All (λ e. e.1 ≤ 4095) c

-- 02: "some index from α on and some filling turn the accepted pattern into exactly that call". The call has no index, so any
-- serves; its variables are not filled.
pub record Covers (t : Pattern) (α : ℕ) (c : Pattern) (i : ℕ) : Type 0 where
  pub from : α ≤ i
  pub filling : Filling (Unit {0})
  pub call : fill filling (at one i t) ≡ at one 0 c

-- 02: "If yes, give the smallest such index."
pub record Smallest (t : Pattern) (α : ℕ) (c : Pattern) (i : ℕ) : Type 0 where
  pub covers : Covers t α c i
  pub least : (j : ℕ) → Covers t α c j → i ≤ j

-- the right answer; `none` is 17, "not covered"
unfoldable pub Answers : Pattern → ℕ → Pattern → Option ℕ → Type 0
Answers t α c none = (i : ℕ) → ¬ Covers t α c i
Answers t α c (some i) = Smallest t α c i

-- 01, of rules: "Roots may not be variables"; and of all terms in files that they are normal
pub record RootedRule (r : Rule Exp) : Type 0 where
  pub normal : Normal exponents r.head
  pub rooted : (x : ℕ) → r.head ≢ var x

unfoldable pub RootedBook : Book Exp → Type 0
RootedBook B = Every RootedRule B
