-- `instances::field` meets its contract.
use Rattle.instances.proofs.Taking.{takes_past, takes_got}
use Rattle.instances.proofs.field.Goals as goal

pub returns-in-None : goal.returns-in-None
returns-in-None c = takes_past _ _ _ c.requires c.take.ensures c.in-None.is

pub returns-in-Some : goal.returns-in-Some
returns-in-Some c = takes_got _ _ _ c.requires _ _ c.take.ensures c.in-Some.is
