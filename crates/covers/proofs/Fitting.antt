-- What keeps 01's limits is what the search asks for: a call without index, a line's left that is formed, a book whose heads have a root.
use Prim.Native.Nat.{ℕ, zero, suc, ◌+◌, ◌≤◌}
use mathlib.Core.Path.{◌≡◌, subst}
use mathlib.Core.List.{List, [], ◌∷◌, map}
use mathlib.Core.Option.{some, some-injective, none-ne-some}
use native.Mathlib.Omega.{arith}
use lib.ListN.{get_elem?}
use Rattle.bits.specs.Bits.{Bytes}
use Rattle.patterns.specs.Term.{Terms, var, fun, pow, nil, cons, All, All*}
use Rattle.patterns.specs.Formed.{Formed}
use Rattle.patterns.specs.Derive.{Rule}
use Rattle.patterns.specs.First.{Exp, Pattern, Pair, Pace}
use Rattle.patterns.specs.Certificate.{Claim, Line, Certificate, claim_of}
use Rattle.patterns.proofs.Every.{every_weaken}
use Rattle.covering.specs.Covers.{Call, RootedRule, RootedBook}
use Rattle.grammar.specs.Books.{RuleBook, arity_in}
use Rattle.grammar.specs.Limits.{Ranged, Ranged*, TermFits, Rooted, RuleFits, BookFits, ClaimFits, LinesFit, CertificateFits, call_counts}
use Rattle.grammar.specs.Listing.{term_fields}
use Rattle.grammar.proofs.FixedBooks.{ranged_still}
use Rattle.layout.specs.Files.{good, open_call}
use Rattle.layout.proofs.OneFile.{call_exactly, call_has_a_file}
use Rattle.covers.specs.Covered.{CallFile}

-- ---- a call

-- 12 bits have at most 4,095
mutual
  unfolding Ranged All

  ranged_small : (count end : ℕ) (t : Pattern) → Ranged count end t → All (λ e. e.1 ≤ 4095) t
  ranged_small count end (var x) r = tt
  ranged_small count end (fun f ts) r = ranged_small* count end ts r.1
  ranged_small count end (pow s e t) r = (omega (arith, r.2), ranged_small count end t r.3)

  ranged_small* : (count end : ℕ) (ts : Terms Exp) → Ranged* count end ts → All* (λ e. e.1 ≤ 4095) ts
  ranged_small* count end nil r = tt
  ranged_small* count end (cons t ts) r = (ranged_small count end t r.0, ranged_small* count end ts r.1)

pub is_call : {ars : List ℕ} {c : Pattern} → TermFits ars 1 c → Call c
is_call {ars} {c} f = record { normal = f.normal; level = ranged_still _ c f.ranged; small = ranged_small _ 1 c f.ranged }

module _ (b : RuleBook) (fits : BookFits b) (call : List ℕ) where
  -- a call that opens is one that keeps layout and limits
  pub call_file : Bytes call → (c : Pattern) (fs : List (ℕ × ℕ)) → open_call b call ≡ good c fs → CallFile b call c
  call_file bytes c fs e = let f = (call_exactly b fits call bytes c fs).0 e in record { limits = f.0; layout = f.1 }

  pub call_opens : (c : Pattern) → CallFile b call c → open_call b call ≡ good c (term_fields c)
  call_opens c f = rw f.layout (call_has_a_file b fits c f.limits)

-- ---- a line of the certificate

line_fits : (ars ms : List ℕ) (n : ℕ) (ls : List (Line Exp Pair)) → LinesFit ars ms n ls → (k : ℕ) (p : Claim Exp)
    → get_elem? (map claim_of ls) k ≡ some p → ClaimFits ars p
unfolding LinesFit
line_fits ars ms n [] f k p e = absurd (none-ne-some p e)
line_fits ars ms n (l ∷ ls) f zero p e = subst (ClaimFits ars) (some-injective l.claim p e) f.0
line_fits ars ms n (l ∷ ls) f (suc k) p e = line_fits ars ms (n + 1) ls f.2 k p e

pub left_formed : (b : RuleBook) (K : Certificate Exp Pair Pace) → CertificateFits b K → (line : ℕ) (p : Claim Exp)
    → get_elem? (map claim_of K.lines) line ≡ some p → Formed (arity_in b.arities) p.left
left_formed b K f line p e = (line_fits b.arities (call_counts b.rules) 0 K.lines f.lines line p e).left.formed

-- ---- a book

rule_rooted : (ars : List ℕ) (r : Rule Exp) → RuleFits ars r → RootedRule r
unfolding Rooted
rule_rooted ars r f = record {
  normal = f.head.fits.normal;
  rooted = λ x e. subst Rooted e f.head.rooted;
}

pub book_rooted : (b : RuleBook) → BookFits b → RootedBook b.rules
unfolding RootedBook
book_rooted b f = every_weaken (rule_rooted b.arities) b.rules f.rules
