-- `books::calls` meets its contract. The loop's invariant: the calls left lead to what all calls come to.
use Prim.Native.Nat.{◌-◌}
use Rattle.fields.specs.Along.{silent}
use Rattle.fields.proofs.AlongRounds.{LeadsTo}
use Rattle.grammar.specs.Books.{roots_of}
use Rattle.books.proofs.calls.Given as goal

abbrev pub invariant-loop : goal.invariant-loop
invariant-loop g l = LeadsTo g.R.Fields.steps (roots_of (g.G.Signature.arities l.book) l.n) l.initial.r silent (roots_of (g.G.Signature.arities l.book) (l.n - l.counter)) l.r silent
