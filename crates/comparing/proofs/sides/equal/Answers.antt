-- `comparing::sides::equal` meets its contract.
use Rattle.comparing.proofs.Finding.{equals_too_big, equals_unequal, equals_equal}
use Rattle.comparing.proofs.sides.equal.Goals as goal

pub returns-in-TooBig : goal.returns-in-TooBig
returns-in-TooBig c = equals_too_big _ _ c.compare.ensures c.in-TooBig.is

pub returns-in-Unequal : goal.returns-in-Unequal
returns-in-Unequal c = equals_unequal _ _ c.compare.ensures c.in-Unequal.is

pub returns-in-Equal : goal.returns-in-Equal
returns-in-Equal c = equals_equal _ _ c.compare.ensures c.in-Equal.is
