-- The head of a node, read field by field, is what is asked for there.
use Rattle.std.specs.Prelude.{Result, Ok, Err}
use Prim.Native.Nat.{ℕ, ◌-◌}
use mathlib.Core.Path.{◌≡◌, refl, sym, subst}
use mathlib.Core.Logic.{◌≢◌}
use Rattle.fields.specs.Source.{Field}
use Rattle.fields.specs.Kinds.{any, node}
use Rattle.fields.specs.Kinds.{FieldKind as kind}
use Rattle.fields.specs.Grammar.{Grammar, bind, field}
use Rattle.fields.specs.Along.{Steps, Comes, Takes}
use Rattle.fields.proofs.Ranges.{node_bounded}
use Rattle.fields.proofs.Alongs.{seq_no, seq_on, seq_at, seq_last, comes_done}
use Rattle.grammar.specs.Terms.{Grown, a_symbol, a_raise, a_variable, an_applied, a_raised, a_node}
use Rattle.terms.specs.Values.{left_of, first_of}
use Rattle.terms.specs.declared.heads.Head.{Head}
use Rattle.terms.specs.declared.heads.Head.TheVariants.{Leaf, Applied, Raised}
use Rattle.terms.specs.Headings.{HeadAt}
use Rattle.terms.specs.Headings.{Heading as heading}
use Rattle.terms.proofs.Nodes.{node_variable, node_applied, node_raised}
use Rattle.terms.proofs.AlongSymbols.{symbol_few}

-- what is asked for behind the tag comes to what the node comes to
behind : {S : Type 0} {st : Steps S} (ar : ℕ → ℕ) (end above : ℕ) {least : ℕ} {x y : S} {f : Field} {tag : ℕ} → Takes st 2 least 3 4 x f y → f ≡ Ok tag
    → (left : ℕ) → left ≢ 0 → (term : ℕ → ℕ → Grammar Grown) {r : Result ℕ ℕ} {z : S} → Comes st (a_node term ar end above (left - 1) tag) y left_of r z
    → Comes st (bind (field kind.tag (node least left)) (a_node term ar end above (left - 1))) x left_of r z
behind ar end above {least} tagged e left some term h = seq_at _ (tagged.comes _ _ (node_bounded kind.tag least some)) e h

-- the tag was read
module _ {S : Type 0} {st : Steps S} (ar : ℕ → ℕ) {end least above : ℕ} {x y : S} {f : Field} (tagged : Takes st 2 least 3 4 x f y) where
  pub tag_no : {m : ℕ} {r : Result Head ℕ} → f ≡ Err m → r ≡ Err m → HeadAt st ar end least above x r y
  tag_no {m} e q = rw q (record { told = λ left some term. heading.refused {m = m} (seq_no (tagged.comes _ _ (node_bounded kind.tag least some)) _ e refl) })

  module _ {tag : ℕ} (e : f ≡ Ok tag) where
    -- a variable
    module _ (is : tag ≡ 0) {v : Field} {z : S} (h : Comes st (field kind.variable any) y (λ n. n) v z) where
      pub variable_no : {m : ℕ} {r : Result Head ℕ} → v ≡ Err m → r ≡ Err m → HeadAt st ar end least above x r z
      unfolding a_variable
      variable_no {m} q t = rw t (record {
        told = λ left some term. heading.refused {m = m} (behind ar end above tagged e left some term (rw (node_variable term ar end above (left - 1) tag is) (seq_no h _ q refl)));
      })

      pub variable_in : {n : ℕ} → v ≡ Ok n → HeadAt st ar end least above x (Ok Leaf) z
      unfolding a_variable
      variable_in q = record {
        told = λ left some term.
            heading.variable (behind ar end above tagged e left some term (rw (node_variable term ar end above (left - 1) tag is) (seq_on h _ q (λ a g. comes_done _ _))));
      }

    -- a symbol
    module _ (is : tag ≡ 1) {v : Field} {z : S} (h : Comes st (a_symbol ar) y ar v z) where
      pub applied_no : {m : ℕ} {r : Result Head ℕ} → v ≡ Err m → r ≡ Err m → HeadAt st ar end least above x r z
      unfolding an_applied
      applied_no {m} q t = rw t (record {
        told = λ left some term. heading.refused {m = m} (behind ar end above tagged e left some term (rw (node_applied term ar end above (left - 1) tag is) (seq_no h _ q refl)));
      })

      pub applied_in : {n : ℕ} → v ≡ Ok n → HeadAt st ar end least above x (Ok (Applied n)) z
      unfolding an_applied
      applied_in {n} q = record {
        told = λ left some term.
            heading.applied (symbol_few ar h q)
            (λ r w k. behind ar end above tagged e left some term
            (rw (node_applied term ar end above (left - 1) tag is) (seq_on h _ q (λ a g. seq_last _ (λ b. refl) (rw g k)))));
      }

    -- a power
    module _ (not0 : tag ≢ 0) (not1 : tag ≢ 1) {v : Field} {z : S} (h : Comes st (a_raise ar end above) y first_of v z) where
      pub raised_no : {m : ℕ} {r : Result Head ℕ} → v ≡ Err m → r ≡ Err m → HeadAt st ar end least above x r z
      unfolding a_raised
      raised_no {m} q t = rw t (record {
        told = λ left some term. heading.refused {m = m} (behind ar end above tagged e left some term (rw (node_raised term ar end above (left - 1) tag not0 not1) (seq_no h _ q refl)));
      })

      pub raised_in : {n : ℕ} → v ≡ Ok n → HeadAt st ar end least above x (Ok (Raised n)) z
      unfolding a_raised
      raised_in {n} q = record {
        told = λ left some term.
            heading.raised
            (λ r w k. behind ar end above tagged e left some term
            (rw (node_raised term ar end above (left - 1) tag not0 not1)
            (seq_on h _ q (λ a g. seq_last _ (λ b. refl) (subst (λ s. Comes st (term s (left - 1)) z left_of r w) (sym g) k)))));
      }
