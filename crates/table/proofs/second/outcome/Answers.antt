-- `table::second::outcome` meets its contract: too many nodes; as many as are stored and none that differs; or not.
use Rattle.table.proofs.Holding.{concludes_full, concludes_count, concludes_parted, concludes_same}
use mathlib.Core.Logic.{⊎_elim}
use Prim.Native.Nat.{◌≤◌}
use native.Mathlib.Omega.{arith}
use Rattle.table.proofs.second.outcome.Goals as goal

pub returns-then-all-gt-NODES : goal.returns-then-all-gt-NODES
returns-then-all-gt-NODES c = concludes_full c.settle-all.ensures (omega arith)

pub returns-then-all-n-2 : goal.returns-then-all-n-2
returns-then-all-n-2 c = concludes_same c.settle-all.ensures (omega arith) (omega arith) (omega arith)

pub returns : goal.returns
returns c =
    let few : c.settle-all.result.nodes ≤ 1024 = omega arith in
    ⊎_elim (λ d. concludes_parted c.settle-all.ensures few d.0 d.1) (concludes_count c.settle-all.ensures few) c.else-all-n.either
