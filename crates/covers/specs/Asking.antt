-- What `covers` answers for a book, a certificate and a call in bytes. 02, Ticket 1: "Refusals: the judge's own first; then 3 to 7 for
-- the call, with W = 5, where a above 0 is 4; then 17, W = 4, not covered."
use Rattle.std.specs.Prelude.{ℕ, List, map}
use Rattle.std.proofs.Math.Option.{Option, none, some}
use Rattle.std.proofs.Math.ListN.{get_elem?}
use Rattle.answers.specs.Carried.{refusal_at}
use Rattle.answers.specs.Numbers.{Reply, covered_at, denied}
use Rattle.patterns.specs.Reason.{Reason, neither_place}
use Rattle.patterns.specs.First.{Exp, Pattern, Pace}
use Rattle.patterns.specs.Certificate.{Claim, claim_of}
use Rattle.patterns.specs.Judge.{Ruling, accept, refuse}
use Rattle.covering.specs.Search.{covering}
use Rattle.grammar.specs.Books.{RuleBook, arity_in}
use Rattle.layout.specs.Files.{where_good, open_book, open_certificate, open_call}
use Rattle.verdicts.specs.Judging.{judging}

-- "17, W = 4, not covered"
abbrev pub not_covered : Reason
not_covered = refusal_at 17 neither_place 0

-- "If yes, give the smallest such index."
unfoldable pub told_index : Option ℕ → Reply
told_index none = denied not_covered
told_index (some i) = covered_at i

-- "whether some index from α on and some filling turn the accepted pattern into exactly that call": the pattern is the named line's
-- left. An accepted certificate names a line that is there.
unfoldable pub asking_line : RuleBook → Option (Claim Exp) → ℕ → Pattern → Reply
asking_line b none α c = denied not_covered
asking_line b (some p) α c = told_index (covering (arity_in b.arities) p.left α c)

-- the call beside its book, once the certificate is accepted with this line and this pace
unfoldable pub asking_accepted : (book certificate call : List ℕ) → ℕ → Pace → Reply
asking_accepted book certificate call line pace =
    where_good denied (open_book book) λ b.
    where_good denied (open_certificate b certificate) λ K.
    where_good denied (open_call b call) λ c. asking_line b (get_elem? (map claim_of K.lines) line) pace.α c

-- "the judge's own first"
unfoldable pub asking_judged : (book certificate call : List ℕ) → Ruling Pace → Reply
asking_judged book certificate call (refuse r) = denied r
asking_judged book certificate call (accept line pace) = asking_accepted book certificate call line pace

-- `size` is how many numbers the work table has
unfoldable pub asking : (book certificate call : List ℕ) → ℕ → Reply
asking book certificate call size = asking_judged book certificate call (judging book certificate size)
