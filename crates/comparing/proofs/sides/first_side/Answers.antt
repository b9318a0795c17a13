-- `comparing::sides::first_side` meets its contract.
use Rattle.comparing.proofs.Subjects.{sided_as, sided_empty, sided_call, sided_claimed}
use Rattle.comparing.proofs.sides.first_side.Goals as goal

pub returns-in-Empty : goal.returns-in-Empty
returns-in-Empty c = sided_as c.in-Empty.is (sided_empty _ _ _)

pub returns-in-Call : goal.returns-in-Call
returns-in-Call c = sided_as c.in-Call.is (sided_call c.build.ensures)

pub returns-in-Claimed : goal.returns-in-Claimed
returns-in-Claimed c = sided_as c.in-Claimed.is (sided_claimed _ _ _ c.fills_of.ensures.0 c.build-in-Claimed.ensures)
