-- `table::copy` meets its contract. The loop's invariant: k nodes are copied.
use mathlib.Core.List.{◌++◌}
use Prim.Native.Nat.{◌+◌}
use Rattle.std.specs.Prelude.{Some}
use Rattle.table.specs.Nodes.{stack}
use Rattle.table.specs.Sides.{Became}
use Rattle.table.specs.Repeats.{part}
use Rattle.table.proofs.copy.Given as goal

abbrev pub invariant-loop-k : goal.invariant-loop-k
invariant-loop-k l = Became l.base (part l.initial.w l.base l.from l.k ++ stack l.initial.w l.base l.n) l.initial.w l.w (Some (l.n + l.k))
