-- `table::second::again` meets its contract. The loop's invariant: k nodes are the same.
use mathlib.Core.Path.{◌≡◌}
use Rattle.table.specs.Repeats.{part}
use Rattle.table.proofs.second.again.Given as goal

abbrev pub invariant-loop-k : goal.invariant-loop-k
invariant-loop-k l = part l.w l.base l.n l.k ≡ part l.w l.base l.from l.k
