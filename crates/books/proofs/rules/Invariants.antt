-- `books::rules` meets its contract. The loop's invariant: the rules left lead to what the whole list comes to.
use Prim.Native.Nat.{◌-◌}
use Rattle.fields.specs.Along.{silent}
use Rattle.fields.proofs.AlongRounds.{LeadsTo}
use Rattle.grammar.specs.Books.{rules_of}
use Rattle.books.proofs.Noting.{NotesCalls}
use Rattle.books.proofs.rules.Given as goal

abbrev pub invariant-loop-k : goal.invariant-loop-k
invariant-loop-k g l = record {
  left : LeadsTo g.R.Fields.steps (rules_of (g.G.Signature.arities l.book) l.n) l.initial.r silent (rules_of (g.G.Signature.arities l.book) (l.n - l.k)) l.r silent;
  noted : NotesCalls g.R.Fields.steps (rules_of (g.G.Signature.arities l.book) l.n) l.initial.r 0 l.initial.counts (rules_of (g.G.Signature.arities l.book) (l.n - l.k)) l.r l.k l.counts;
}
