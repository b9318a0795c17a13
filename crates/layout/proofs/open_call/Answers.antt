-- `layout::open_call` meets its contract.
use Rattle.layout.proofs.Giving.{call_opened}
use Rattle.layout.proofs.FileEnds.{inside_bytes}
use Rattle.layout.proofs.open_call.Goals as goal

pub opened-requires : goal.opened-requires
opened-requires c = inside_bytes _ _ _ c.call-w.ensures

pub returns : goal.returns
returns c = call_opened _ _ c.call-w.ensures c.opened.ensures
