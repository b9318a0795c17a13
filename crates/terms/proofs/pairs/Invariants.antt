-- `terms::pairs` meets its contract. The loop's invariant: the pairs left lead to what all pairs come to.
use Prim.Native.Nat.{◌-◌}
use Rattle.fields.specs.Along.{silent}
use Rattle.fields.proofs.AlongRounds.{LeadsTo}
use Rattle.grammar.specs.Terms.{pairs_of}
use Rattle.terms.proofs.pairs.Given as goal

abbrev pub invariant-loop : goal.invariant-loop
invariant-loop g l =
    LeadsTo g.R.Fields.steps (pairs_of (g.G.Signature.arities l.book) l.n l.least) l.initial.r silent
    (pairs_of (g.G.Signature.arities l.book) (l.n - l.counter) l.next) l.r silent
