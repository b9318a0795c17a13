-- The answer, one layer after the other: the judge's verdict, the call's layout, the search.
use Prim.Native.Nat.{ℕ}
use mathlib.Core.Path.{◌≡◌}
use mathlib.Core.List.{List, map}
use mathlib.Core.Option.{some}
use lib.ListN.{get_elem?}
use Rattle.answers.specs.Numbers.{denied}
use Rattle.patterns.specs.Reason.{Reason}
use Rattle.patterns.specs.First.{Exp, Pattern, Pair, Pace}
use Rattle.patterns.specs.Certificate.{Claim, Certificate, claim_of}
use Rattle.patterns.specs.Judge.{accept, refuse}
use Rattle.covering.specs.Search.{covering}
use Rattle.grammar.specs.Books.{RuleBook, arity_in}
use Rattle.layout.specs.Files.{good, bad, where_good, open_book, open_certificate, open_call}
use Rattle.verdicts.specs.Judging.{judging}
use Rattle.covers.specs.Asking.{told_index, asking_line, asking_accepted, asking_judged, asking}

module _ (book certificate call : List ℕ) (size : ℕ) where
  pub verdict_refused : (r : Reason) → judging book certificate size ≡ refuse r → asking book certificate call size ≡ denied r
  unfolding asking asking_judged
  verdict_refused r e = rw e

  pub verdict_accepted : (line : ℕ) (pace : Pace) → judging book certificate size ≡ accept line pace
      → asking book certificate call size ≡ asking_accepted book certificate call line pace
  unfolding asking asking_judged
  verdict_accepted line pace e = rw e

module _ (book certificate call : List ℕ) (line : ℕ) (pace : Pace) (b : RuleBook) (fs : List (ℕ × ℕ)) (opened : open_book book ≡ good b fs)
    (K : Certificate Exp Pair Pace) (gs : List (ℕ × ℕ)) (beside : open_certificate b certificate ≡ good K gs) where
  pub call_refused : (r : Reason) → open_call b call ≡ bad r → asking_accepted book certificate call line pace ≡ denied r
  unfolding asking_accepted
  call_refused r e = rw (opened, beside, e)

  pub call_asked : (c : Pattern) (hs : List (ℕ × ℕ)) → open_call b call ≡ good c hs → (p : Claim Exp)
      → get_elem? (map claim_of K.lines) line ≡ some p
      → asking_accepted book certificate call line pace ≡ told_index (covering (arity_in b.arities) p.left pace.α c)
  unfolding asking_accepted asking_line
  call_asked c hs e p named = rw (opened, beside, e, named)

  -- where the named line is known, the call alone is asked for
  pub call_placed : (p : Claim Exp) → get_elem? (map claim_of K.lines) line ≡ some p
      → (where_good denied (open_call b call) λ c. told_index (covering (arity_in b.arities) p.left pace.α c))
      ≡ asking_accepted book certificate call line pace
  unfolding asking_accepted asking_line
  call_placed p named = rw (opened, beside, named)
