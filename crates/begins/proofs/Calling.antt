-- Where the head and the calls of a rule lie.
use Prim.Native.Nat.{ℕ}
use mathlib.Core.Path.{◌≡◌, sym, subst}
use mathlib.Core.List.{List, ◌++◌, flat_map}
use native.Mathlib.Omega.{arith}
use lib.ListN.{length}
use Rattle.patterns.specs.First.{Exp}
use Rattle.patterns.specs.Derive.{Rule}
use Rattle.grammar.specs.Listing.{term_fields, rule_fields}
use Rattle.instances.specs.declared.Read.{Read}
use Rattle.instances.specs.Lying.{Lies, behind}
use Rattle.begins.specs.Placed.{RuleAt, CallsAt}
use Rattle.instances.specs.Taking.{Takes}
use Rattle.instances.proofs.Lying.{lies_front, lies_back}
use Rattle.instances.proofs.Taking.{rest_at}

module _ {book ars : List ℕ} {at : ℕ} {c : Read} {u : Rule Exp} (t : Takes book 4 at c) (R : RuleAt book ars at u) where
  terms_lie : Lies book c.at (term_fields u.head ++ flat_map term_fields u.calls)
  unfolding rule_fields
  terms_lie = rest_at t R.lies

  pub head_lies : Lies book c.at (term_fields u.head)
  head_lies = lies_front book c.at (term_fields u.head) (flat_map term_fields u.calls) terms_lie

  pub calls_at : {next : ℕ} → next ≡ behind c.at u.head → CallsAt book ars next u.calls 1 c.value
  unfolding rule_fields
  calls_at q =
      let n : c.value ≡ length u.calls = (t.told (length u.calls) _ R.lies).0 in
      record {
        lies = subst (λ j. Lies book j (flat_map term_fields u.calls)) (sym q)
            (lies_back book c.at (term_fields u.head) (flat_map term_fields u.calls) terms_lie);
        fits = R.fits.calls;
        counted = omega arith;
        first = omega arith;
        few = omega (arith, R.fits.count);
      }
