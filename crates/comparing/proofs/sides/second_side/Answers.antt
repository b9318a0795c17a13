-- `comparing::sides::second_side` meets its contract, by the kinds of subject.
use Rattle.comparing.proofs.Subjects.{seconded_as, seconded_empty, seconded_call, seconded_claimed}
use Rattle.comparing.proofs.sides.second_side.Goals as goal

pub returns-in-Empty : goal.returns-in-Empty
returns-in-Empty c = seconded_as c.in-Empty.is (seconded_empty c.no_side.ensures)

pub returns-in-Call : goal.returns-in-Call
returns-in-Call c = seconded_as c.in-Call.is (seconded_call c.hold_instance.ensures)

pub returns-in-Claimed : goal.returns-in-Claimed
returns-in-Claimed c = seconded_as c.in-Claimed.is (seconded_claimed _ _ _ c.fills_of.ensures.0 c.hold_instance-in-Claimed.ensures)
