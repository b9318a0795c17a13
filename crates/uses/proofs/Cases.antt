-- The cases of the grammar of uses and stops, as the code meets them.
use Rattle.std.specs.Prelude.{Result, Ok}
use Prim.Native.Nat.{ℕ, ◌-◌}
use mathlib.Core.Path.{◌≡◌, refl}
use mathlib.Core.Option.{none, some}
use mathlib.Core.Logic.{◌≢◌}
use borrow.Author.Tests.{eq-eqb, ne_eqb}
use Rattle.patterns.specs.Certificate.{fact, call}
use Rattle.fields.specs.Grammar.{Grammar, done, bind}
use Rattle.fields.specs.Along.{Steps, Comes, silent}
use Rattle.fields.proofs.Alongs.{seq_on, seq_last, comes_done}
use Rattle.fields.proofs.Many.{Many, at_none, at_some}
use Rattle.grammar.specs.Certificates.{a_use, uses_of, a_last_if, a_last, a_stop}

-- ---- a tree of which nothing is told is put together

pub silent_last : {A B S : Type 0} {st : Steps S} {p : Grammar A} (h : A → B) {x y : S} {r : Result (Unit {0}) ℕ}
    → Comes st p x silent r y → Comes st (bind p λ a. done (h a)) x silent r y
silent_last h = seq_last h (λ a. refl)

-- one grammar and another, which does not ask what the first found
pub silent_both : {A B C V S : Type 0} {st : Steps S} {p : Grammar A} {q : Grammar B} (h : A → B → C) {x y z : S} {val : A → V} {r : Result V ℕ} {v : V} {s : Result (Unit {0}) ℕ}
    → Comes st p x val r y → r ≡ Ok v → Comes st q y silent s z → Comes st (bind p λ a. bind q λ b. done (h a b)) x silent s z
silent_both h first e second = seq_on first _ e (λ a k. silent_last (h a) second)

-- ---- a bit that says whether a use follows

module _ (ar : ℕ → ℕ) (line b : ℕ) where
  pub last_none : b ≡ 0 → a_last_if ar line b ≡ done none
  unfolding a_last_if
  last_none h = rw (eq-eqb b 0 h)

  pub last_some : b ≢ 0 → a_last_if ar line b ≡ bind (a_use ar line) (λ u. done (some u))
  unfolding a_last_if
  last_some h = rw (ne_eqb b 0 h)

module _ {S : Type 0} {st : Steps S} (ar : ℕ → ℕ) (line : ℕ) {b : ℕ} {x : S} where
  pub last_none_comes : b ≡ 0 → Comes st (a_last_if ar line b) x silent (Ok tt) x
  last_none_comes h = rw (last_none ar line b h) (comes_done _ x)

  pub last_some_comes : {r : Result (Unit {0}) ℕ} {y : S} → b ≢ 0 → Comes st (a_use ar line) x silent r y → Comes st (a_last_if ar line b) x silent r y
  last_some_comes h k = rw (last_some ar line b h) (silent_last _ k)

-- ---- uses, and where an unfold stops

pub uses_many : (ar : ℕ → ℕ) (line : ℕ) → Many (uses_of ar line) (a_use ar line) (λ u. u)
unfolding uses_of
uses_many ar line = record { none = λ x. refl; more = λ n x. refl }

module _ {S : Type 0} {st : Steps S} (ar : ℕ → ℕ) (line n : ℕ) {x : S} where
  pub stop_none : n ≡ 0 → Comes st (a_stop ar line n) x silent (Ok tt) x
  unfolding a_stop
  stop_none h = rw (at_none (a_stop ar line) fact refl n h) (comes_done _ x)

  pub stop_some : {r : Result (Unit {0}) ℕ} {y : S} → n ≢ 0
      → Comes st (bind (uses_of ar line (n - 1)) λ us. bind (a_last ar line) λ u. done (call us u)) x silent r y
      → Comes st (a_stop ar line n) x silent r y
  unfolding a_stop
  stop_some h k =
      rw (at_some (a_stop ar line) (λ i. bind (uses_of ar line i) λ us. bind (a_last ar line) λ u. done (call us u)) (λ i. refl) n h)
      k
