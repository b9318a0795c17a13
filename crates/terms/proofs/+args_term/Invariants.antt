-- `terms::term` and `args`, which call each other, meet their contracts.
-- What falls: 16 for each node still allowed, and less than 16 more for the steps of one node.
-- The loops' invariants: the arguments left lead to what all arguments come to, and so does the term below the powers so far.
use Prim.Native.Nat.{ℕ, ◌+◌, ◌-◌, ◌*◌, ◌≤◌}
use Rattle.grammar.specs.Terms.{a_term, args_of}
use Rattle.fields.proofs.AlongRounds.{LeadsTo}
use Rattle.terms.specs.Values.{left_of_all}
use Rattle.terms.proofs.Powers.{Through}
use Rattle.terms.proofs.+args_term.Given as goal

abbrev pub decreases-args : goal.decreases-args
decreases-args g l = 16 * l.left + l.n + 1

abbrev pub decreases-term : goal.decreases-term
decreases-term g l = 16 * l.left

abbrev pub invariant-args-loop : goal.invariant-args-loop
invariant-args-loop g l =
    (l.rest ≤ l.left)
    × ((deep : ℕ) → l.left ≤ deep
    → LeadsTo g.R.Fields.steps (args_of (λ k. a_term deep (g.G.Signature.arities l.book) l.end l.least 256 k) l.n l.left) l.initial.r left_of_all
    (args_of (λ k. a_term deep (g.G.Signature.arities l.book) l.end l.least 256 k) (l.n - l.counter) l.rest) l.r left_of_all)

abbrev pub invariant-term-loop-rest : goal.invariant-term-loop-rest
invariant-term-loop-rest g l =
    (l.rest ≤ l.left) × Through g.R.Fields.steps (g.G.Signature.arities l.book) l.end l.least l.left l.initial.r l.from l.above l.rest l.r
