-- `table::write_node` meets its contract: three words stored, one after the other.
use Rattle.table.specs.Nodes.{with_node}
use mathlib.Core.Path.{refl}
use Rattle.table.proofs.write_node.Goals as goal

pub returns : goal.returns
unfolding with_node
returns c = refl
