-- The rules of a book within the limits have no index: each of their powers has a = 0.
use Prim.Native.Nat.{ℕ}
use mathlib.Core.List.{List}
use native.Mathlib.Omega.{arith}
use Rattle.patterns.specs.Term.{Terms, var, fun, pow, nil, cons, All, All*}
use Rattle.patterns.specs.Claims.{FixedRule, FixedBook}
use Rattle.patterns.specs.Derive.{Rule}
use Rattle.patterns.specs.First.{Exp, Pattern, Level, one}
use Rattle.patterns.proofs.Every.{every_weaken}
use Rattle.grammar.specs.Books.{RuleBook}
use Rattle.grammar.specs.Limits.{Ranged, Ranged*, RootFits, RuleFits, BookFits}

mutual
  unfolding Ranged All Level

  pub ranged_still : (count : ℕ) (t : Pattern) → Ranged count 1 t → All Level t
  ranged_still count (var x) r = tt
  ranged_still count (fun f ts) r = ranged_still* count ts r.1
  ranged_still count (pow s e t) r = (omega (arith, r.1), ranged_still count t r.3)

  pub ranged_still* : (count : ℕ) (ts : Terms Exp) → Ranged* count 1 ts → All* Level ts
  ranged_still* count nil r = tt
  ranged_still* count (cons t ts) r = (ranged_still count t r.0, ranged_still* count ts r.1)

root_still : (arities : List ℕ) (t : Pattern) → RootFits arities t → All Level t
root_still arities t h = ranged_still _ t h.fits.ranged

rule_fixed : (arities : List ℕ) (r : Rule Exp) → RuleFits arities r → FixedRule one r
unfolding FixedRule
rule_fixed arities r h =
    (root_still arities r.head h.head, every_weaken (root_still arities) r.calls h.calls)

pub book_fixed : (b : RuleBook) → BookFits b → FixedBook one b.rules
unfolding FixedBook
book_fixed b h = every_weaken (rule_fixed b.arities) b.rules h.rules
