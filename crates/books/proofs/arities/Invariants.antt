-- `books::arities` meets its contract. The loop's invariant: the arities left lead to what all arities come to.
use Prim.Native.Nat.{◌-◌}
use Rattle.fields.specs.Along.{silent}
use Rattle.fields.proofs.AlongRounds.{LeadsTo}
use Rattle.grammar.specs.Books.{arities_of}
use Rattle.books.proofs.arities.Given as goal

abbrev pub invariant-loop : goal.invariant-loop
invariant-loop g l = LeadsTo g.R.Fields.steps (arities_of l.n) l.initial.r silent (arities_of (l.n - l.counter)) l.r silent
