-- The cases of the grammar of certificates, as the code meets them.
use Rattle.std.specs.Prelude.{Result, Ok, Err}
use Prim.Native.Nat.{ℕ, ◌+◌, ◌<◌, min}
use mathlib.Core.Path.{◌≡◌, refl, sym, ◌∙◌}
use mathlib.Core.List.{List, [], ◌∷◌}
use mathlib.Core.Option.{none, some}
use mathlib.Core.Logic.{◌≢◌}
use mathlib.Core.Bool.{Bool, true, false}
use native.Mathlib.Omega.{arith}
use borrow.Author.Tests.{eq-eqb, ne_eqb, ltb-true, ltb-false}
use lib.ListN.{get_or, length}
use lib.Dec.{ltb}
use Rattle.fields.specs.Source.{Field}
use Rattle.fields.specs.Kinds.{from_to, one_call, between, Bounded}
use Rattle.fields.specs.Kinds.{FieldKind as kind}
use Rattle.fields.specs.Grammar.{done, bind, field}
use Rattle.fields.specs.Along.{Steps, Comes, silent}
use Rattle.fields.proofs.Alongs.{seq_no, seq_on, comes_done, field_no, field_refused, field_in}
use Rattle.fields.proofs.Ranges.{between_ok, between_high}
use Rattle.fields.proofs.Many.{Rounds}
use Rattle.grammar.specs.Terms.{any_term}
use Rattle.grammar.specs.Certificates.{a_right_if, an_unfold, a_descent, a_kind, a_line, lines_of}
use Rattle.terms.specs.Values.{left_of}

-- ---- a bit that says whether a right follows

module _ (ar : ℕ → ℕ) (b : ℕ) where
  pub right_empty : b ≡ 0 → a_right_if ar b ≡ done none
  unfolding a_right_if
  right_empty h = rw (eq-eqb b 0 h)

  pub right_term : b ≢ 0 → a_right_if ar b ≡ bind (any_term ar) (λ g. done (some g.term))
  unfolding a_right_if
  right_term h = rw (ne_eqb b 0 h)

module _ {S : Type 0} {st : Steps S} (ar : ℕ → ℕ) {b : ℕ} {x : S} where
  pub right_empty_comes : b ≡ 0 → Comes st (a_right_if ar b) x silent (Ok tt) x
  right_empty_comes h = rw (right_empty ar b h) (comes_done _ x)

  module _ (one : b ≢ 0) {y : S} {q : Result ℕ ℕ} (term : Comes st (any_term ar) x left_of q y) where
    pub right_no : {m : ℕ} {r : Result (Unit {0}) ℕ} → q ≡ Err m → r ≡ Err m → Comes st (a_right_if ar b) x silent r y
    right_no e t = rw (right_term ar b one) (seq_no term _ e t)

    pub right_term_comes : {v : ℕ} → q ≡ Ok v → Comes st (a_right_if ar b) x silent (Ok tt) y
    right_term_comes e = rw (right_term ar b one) (seq_on term _ e (λ g k. comes_done _ _))

-- ---- the rule of an unfold: no number of 8 bits reaches 256, so of more rules than that the first 256 are named

pub rule_bounded : (ms : List ℕ) {end : ℕ} → end ≡ min (length ms) 256 → Bounded kind.rule (from_to 0 (length ms)) 8 0 end 4
rule_bounded ms {end} is = record { allowed = refl; wide = refl; told = λ v l. told v l (ltb v (length ms)) refl }
  where
    told : (v : ℕ) → v < 256 → (b : Bool) → ltb v (length ms) ≡ b → between 0 (length ms) 4 v ≡ between 0 end 4 v
    told v l true e = let h = ltb-true v (length ms) e in between_ok 0 (length ms) 4 v (omega arith) h ∙ sym (between_ok 0 end 4 v (omega arith) (omega arith))
    told v l false e = let h = ltb-false v (length ms) e in between_high 0 (length ms) 4 v (omega arith) h ∙ sym (between_high 0 end 4 v (omega arith) (omega arith))

-- ---- the rule of a descent; `n` is how many calls the code found

module _ {S : Type 0} (st : Steps S) (ms : List ℕ) {x : S} {f : Field} (g : f ≡ st.at 8 x) where
  pub fall_bad : {m : ℕ} {r : Field} → f ≡ Err m → r ≡ Err m → Comes st (field kind.rule (one_call ms)) x (λ v. v) r x
  fall_bad e q = field_no kind.rule (one_call ms) refl (sym g ∙ e) q

  module _ {k n : ℕ} (e : f ≡ Ok k) (found : n ≡ get_or ms k 0) where
    pub fall_not : n ≢ 1 → Comes st (field kind.rule (one_call ms)) x (λ v. v) (Err 4) x
    fall_not h = field_refused kind.rule (one_call ms) refl (sym g ∙ e) (rw (← found, ne_eqb n 1 h))

    pub fall_one : {y : S} → n ≡ 1 → y ≡ st.past 8 k x → Comes st (field kind.rule (one_call ms)) x (λ v. v) (Ok k) y
    fall_one h p = field_in kind.rule (one_call ms) refl (sym g ∙ e) (rw (← found, eq-eqb n 1 h)) refl p

-- ---- the two kinds of line

module _ (ar : ℕ → ℕ) (ms : List ℕ) (line tag : ℕ) where
  pub kind_unfold : tag ≡ 0 → a_kind ar ms line tag ≡ an_unfold ar ms line
  unfolding a_kind
  kind_unfold h = rw (eq-eqb tag 0 h)

  pub kind_descent : tag ≢ 0 → a_kind ar ms line tag ≡ a_descent ar ms line
  unfolding a_kind
  kind_descent h = rw (ne_eqb tag 0 h)

module _ {S : Type 0} {st : Steps S} (ar : ℕ → ℕ) (ms : List ℕ) (line : ℕ) {tag : ℕ} {x y : S} {r : Result (Unit {0}) ℕ} where
  pub kind_unfold_comes : tag ≡ 0 → Comes st (an_unfold ar ms line) x silent r y → Comes st (a_kind ar ms line tag) x silent r y
  kind_unfold_comes h k = rw (kind_unfold ar ms line tag h) k

  pub kind_descent_comes : tag ≢ 0 → Comes st (a_descent ar ms line) x silent r y → Comes st (a_kind ar ms line tag) x silent r y
  kind_descent_comes h k = rw (kind_descent ar ms line tag h) k

-- ---- lines

pub lines_rounds : (ar : ℕ → ℕ) (ms : List ℕ)
    → Rounds (lines_of ar ms) (a_line ar ms) (λ line l. line + 1) ◌∷◌ (λ line. [])
unfolding lines_of
lines_rounds ar ms = record { none = λ line. refl; more = λ n line. refl }
