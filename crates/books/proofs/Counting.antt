-- The grammars of a book that ask for n things, how many calls a rule has, and what is noted of it.
use Rattle.std.specs.Prelude.{Result, Ok, Err}
use Prim.Native.Nat.{ℕ, suc, ◌+◌, ◌<◌, ◌≤◌}
use mathlib.Core.Path.{◌≡◌, refl, sym, ◌∙◌, ap, subst}
use mathlib.Core.List.{List, [], ◌∷◌}
use native.Mathlib.Omega.{arith}
use lib.ListN.{length, set}
use Rattle.patterns.specs.First.{Exp}
use Rattle.patterns.specs.Derive.{Rule, Book}
use Rattle.fields.specs.Kinds.{from_to}
use Rattle.fields.specs.Kinds.{FieldKind as kind}
use Rattle.fields.specs.Grammar.{Grammar, done, bind, field}
use Rattle.fields.specs.Along.{Steps, End, along, Comes}
use Rattle.fields.specs.Along.End.{ok, no}
use Rattle.fields.proofs.Alongs.{go_on, along_bind, found, refused}
use Rattle.fields.proofs.Always.{Always, always_bind, always_then, always_weaken, field_below}
use Rattle.fields.proofs.AlongAlways.{always_handed, always_told}
use Rattle.fields.proofs.Many.{Many, many_length}
use Rattle.grammar.specs.Terms.{root_term}
use Rattle.grammar.specs.Books.{arities_of, roots_of, a_rule_of, a_rule, rules_of}
use Rattle.grammar.specs.Limits.{call_counts}
use Rattle.books.specs.Counts.{noted, calls_of, how_many_rules, CountedAlong}

pub arities_many : Many arities_of (field kind.arity (from_to 0 9)) (λ a. a)
unfolding arities_of
arities_many = record { none = λ x. refl; more = λ n x. refl }

pub rules_many : (ar : ℕ → ℕ) → Many (rules_of ar) (a_rule ar) (λ r. r)
unfolding rules_of
rules_many ar = record { none = λ x. refl; more = λ n x. refl }

pub roots_many : (ar : ℕ → ℕ) → Many (roots_of ar) (root_term ar) (λ g. g.term)
unfolding roots_of
roots_many ar = record { none = λ x. refl; more = λ n x. refl }

-- a rule's calls are as many as were asked for
rule_calls : (ar : ℕ → ℕ) (n : ℕ) → Always (λ r. calls_of r ≡ n) (a_rule_of ar n)
unfolding a_rule_of Always
rule_calls ar n =
    always_then (λ r. calls_of r ≡ n) _ (root_term ar)
    (λ g. always_bind (λ ts. length ts ≡ n) (λ r. calls_of r ≡ n) _ (roots_of ar n) (many_length (roots_of ar) (root_term ar) (λ g. g.term) (roots_many ar) n) (λ ts h. h))

-- so the walk may hand back that number
pub rule_counted : {V S : Type 0} {st : Steps S} (ar : ℕ → ℕ) (n : ℕ) {val : Rule Exp → V} {x y : S} {r : Result V ℕ} {v : V}
    → Comes st (a_rule_of ar n) x val r y → r ≡ Ok v → Comes st (a_rule_of ar n) x calls_of (Ok n) y
rule_counted ar n h e = always_told h e calls_of n (rule_calls ar n)

-- a rule has at most 8 calls
pub rule_few : {S : Type 0} {st : Steps S} (ar : ℕ → ℕ) {x y : S} {r : Result ℕ ℕ} {n : ℕ} → Comes st (a_rule ar) x calls_of r y → r ≡ Ok n → n ≤ 8
unfolding a_rule
rule_few ar h e =
    always_handed h e (λ k. k ≤ 8)
    (always_bind (λ v. v < 9) (λ r. calls_of r ≤ 8) _ (field kind.call_count (from_to 0 9)) (field_below kind.call_count 0 9)
    (λ v k. always_weaken (λ r. calls_of r ≡ v) (λ r. calls_of r ≤ 8) (λ r q. omega arith) (a_rule_of ar v) (rule_calls ar v)))

-- ---- what is noted

-- what the first rule and the rest come to
rules_step : {S : Type 0} (st : Steps S) (ar : ℕ → ℕ) (n m : ℕ) (x : S) → n ≡ m + 1
    → along st (rules_of ar n) x ≡ go_on st (λ r. bind (rules_of ar m) λ rs. done (r ∷ rs)) (along st (a_rule ar) x)
rules_step st ar n m x h =
    ap (λ i. along st (rules_of ar i) x) (let e : n ≡ suc m = omega arith in e)
    ∙ ap (λ p. along st p x) ((rules_many ar).more m 0) ∙ along_bind st _ (a_rule ar) x

module _ {S : Type 0} {st : Steps S} (ar : ℕ → ℕ) (n k : ℕ) {x : S} {cs : List ℕ} where
  pub counted_none : n ≡ 0 → CountedAlong st (rules_of ar n) x k cs cs
  unfolding rules_of along noted call_counts
  counted_none h = rw h (record { all = λ rs y e. rw (empty rs y e) refl })
    where
      empty : (rs : Book Exp) (y : S) → ◌≡◌ {A = End (Book Exp) S} (ok [] x) (ok rs y) → rs ≡ []
      empty rs y e = cc

  module _ (m : ℕ) (some : n ≡ m + 1) {r : Result ℕ ℕ} {y : S} (first : Comes st (a_rule ar) x calls_of r y) where
    pub counted_no : {i : ℕ} → r ≡ Err i → CountedAlong st (rules_of ar n) x k cs cs
    unfolding go_on
    counted_no {i} e = record { all = λ rs z q. absurd (never rs z (sym (rules_step st ar n m x some ∙ ap (go_on st _) (refused first e)) ∙ q)) }
      where
        never : (rs : Book Exp) (z : S) → ◌≡◌ {A = End (Book Exp) S} (no i y) (ok rs z) → ⊥
        never rs z q = let o : ◌≡◌ {A = ℕ} 0 1 = cc in omega arith

    pub counted_more : {v : ℕ} {mid after : List ℕ} → r ≡ Ok v → mid ≡ set cs k v
        → CountedAlong st (rules_of ar m) y (k + 1) mid after
        → CountedAlong st (rules_of ar n) x k cs after
    unfolding go_on noted call_counts
    counted_more {v} {mid} {after} e p rest =
        let f = found first e in
        record {
          all = λ rs z q.
              last f.0 f.1 rs z (along st (rules_of ar m) y) refl
              (sym (along_bind st (λ rs. done (f.0 ∷ rs)) (rules_of ar m) y)
              ∙ sym (rules_step st ar n m x some ∙ ap (go_on st _) f.2) ∙ q);
        }
      where
        last : (one : Rule Exp) → calls_of one ≡ v → (rs : Book Exp) (z : S) (w : End (Book Exp) S)
            → along st (rules_of ar m) y ≡ w
            → go_on st (λ rs. done (one ∷ rs)) w ≡ ok rs z → after ≡ noted cs k (call_counts rs)
        last one u rs z (ok us t) g q =
            rest.all us t g
            ∙ ap (λ l. noted l (k + 1) (call_counts us)) (p ∙ ap (set cs k) (sym u))
            ∙ ap (λ l. noted cs k (call_counts l)) (same q)
          where
            same : along st (done (one ∷ us)) t ≡ ok rs z → one ∷ us ≡ rs
            same e = unfold along in cc e
        last one u rs z (no j t) g q = let o : ◌≡◌ {A = ℕ} 0 1 = cc in absurd (omega arith)

-- ---- the whole list

-- there are as many rules as were asked for
pub rules_all : {V S : Type 0} {st : Steps S} (ar : ℕ → ℕ) (n : ℕ) {val : Book Exp → V} {x y : S} {r : Result V ℕ} {v : V}
    → Comes st (rules_of ar n) x val r y → r ≡ Ok v → Comes st (rules_of ar n) x how_many_rules (Ok n) y
rules_all ar n h e = always_told h e how_many_rules n (many_length (rules_of ar) (a_rule ar) (λ r. r) (rules_many ar) n)

-- what is noted of a part is noted of the whole
module _ {S : Type 0} {st : Steps S} (p : Grammar ℕ) (f : ℕ → Grammar (Book Exp)) (k : ℕ) {x y : S} {r : Result ℕ ℕ} (h : Comes st p x (λ v. v) r y) where
  pub list_no : {i : ℕ} {cs : List ℕ} → r ≡ Err i → CountedAlong st (bind p f) x k cs cs
  unfolding go_on
  list_no {i} e = record {
    all = λ rs z q.
        let o : ◌≡◌ {A = End (Book Exp) S} (no i y) (ok rs z) =
        sym (along_bind st f p x ∙ ap (go_on st f) (refused h e)) ∙ q in
        let u : ◌≡◌ {A = ℕ} 0 1 = cc in absurd (omega arith);
  }

  pub list_on : {v : ℕ} {cs after : List ℕ} → r ≡ Ok v → CountedAlong st (f v) y k cs after → CountedAlong st (bind p f) x k cs after
  unfolding go_on
  list_on e rest = record {
    all = λ rs z q.
        let t = found h e in
        rest.all rs z
        (subst (λ v. along st (f v) y ≡ ok rs z) t.1
        (sym (along_bind st f p x ∙ ap (go_on st f) t.2) ∙ q));
  }
