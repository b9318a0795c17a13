-- `matching::search` meets its contract.
use native.Mathlib.Omega.{arith}
use Rattle.matching.proofs.Searching.{search_full, search_done}
use Rattle.instances.proofs.Instances.{few_done}
use Rattle.matching.proofs.search.Goals as goal

pub returns-in_err-side : goal.returns-in_err-side
returns-in_err-side c = search_full c.forget.ensures c.build.ensures c.in_err-side.was c.from_residual.ensures

pub search_nodes-requires : goal.search_nodes-requires
search_nodes-requires c = (omega (arith, c.requires.0, c.forget.ensures.kept.size, c.build.ensures.kept.size), few_done c.build.ensures.few c.in_ok-side.was, c.requires.1)

pub returns : goal.returns
returns c = search_done c.forget.ensures c.build.ensures c.in_ok-side.was c.search_nodes.ensures
