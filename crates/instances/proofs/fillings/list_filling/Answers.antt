-- `instances::fillings::list_filling` meets its contract: the words are cleared, then the pairs are noted in them.
use Rattle.instances.proofs.Listings.{lists}
use Rattle.instances.proofs.fillings.list_filling.Goals as goal

pub returns : goal.returns
returns c = lists c.forget.ensures c.field-count.ensures c.list_pairs.ensures
