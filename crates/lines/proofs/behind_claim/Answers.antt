-- `lines::behind_claim` meets its contract.
use Rattle.lines.proofs.Claims.{kind_unfold, kind_descent}
use Rattle.std.proofs.Common.{rules}
use Rattle.lines.proofs.behind_claim.Goals as goal

pub returns-in-0 : goal.returns-in-0
returns-in-0 c = kind_unfold c.in-0.is c.«unfold».ensures

pub returns-in_default : goal.returns-in_default
returns-in_default c = kind_descent (search rules) c.descent.ensures
