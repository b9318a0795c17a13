-- `table::top_code` meets its contract: the definition's two cases.
use Rattle.table.proofs.Pushing.{top_none, top_one}
use Rattle.table.proofs.top_code.Goals as goal

pub returns-then-n-eq0 : goal.returns-then-n-eq0
returns-then-n-eq0 c = top_none c.args.w.now c.args.base c.args.n c.if-n-eq0.true

pub returns : goal.returns
returns c = top_one c.args.w.now c.args.base c.args.n c.if-n-eq0.false
