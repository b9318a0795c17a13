-- `certificates::lines` meets its contract. The loop's invariant: the lines left lead to what all lines come to.
use Prim.Native.Nat.{◌-◌}
use Rattle.fields.specs.Along.{silent}
use Rattle.fields.proofs.AlongRounds.{LeadsTo}
use Rattle.grammar.specs.Certificates.{lines_of}
use Rattle.certificates.proofs.lines.Given as goal

abbrev pub invariant-loop-number : goal.invariant-loop-number
invariant-loop-number g l =
    LeadsTo g.R.Fields.steps (lines_of (g.G.Signature.arities l.book) l.counts l.n 0) l.initial.r silent
    (lines_of (g.G.Signature.arities l.book) l.counts (l.n - l.number) l.number) l.r silent
