-- `matching::search_nodes` meets its contract.
use Rattle.matching.proofs.Searching.{searched_nodes}
use Rattle.matching.proofs.search_nodes.Goals as goal

pub returns : goal.returns
returns c = searched_nodes c.requires.1 c.note_ends.ensures c.tries-n.ensures c.first_fit.ensures
