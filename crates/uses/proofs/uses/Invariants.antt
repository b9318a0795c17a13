-- `uses::uses` meets its contract. The loop's invariant: the uses left lead to what all uses come to.
use Prim.Native.Nat.{◌-◌}
use Rattle.fields.specs.Along.{silent}
use Rattle.fields.proofs.AlongRounds.{LeadsTo}
use Rattle.grammar.specs.Certificates.{uses_of}
use Rattle.uses.proofs.uses.Given as goal

abbrev pub invariant-loop : goal.invariant-loop
invariant-loop g l =
    LeadsTo g.R.Fields.steps (uses_of (g.G.Signature.arities l.book) l.line l.n) l.initial.r silent
    (uses_of (g.G.Signature.arities l.book) l.line (l.n - l.counter)) l.r silent
