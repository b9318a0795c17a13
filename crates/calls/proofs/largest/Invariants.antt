-- `calls::largest` meets its contract.
use Rattle.std.specs.Prelude.{◌≡◌}
use Rattle.covering.specs.Search.{largest}
use Rattle.table.specs.Places.{FIRST}
use Rattle.table.specs.Nodes.{side}
use Rattle.calls.proofs.largest.Given as goal

abbrev pub invariant-loop-j : goal.invariant-loop-j
invariant-loop-j l = l.most ≡ largest (side l.w FIRST l.j)
