-- `comparing::sides::compare` meets its contract.
use Rattle.comparing.proofs.Subjects.{first_full, second_room, second_same, second_other, second_full}
use Rattle.comparing.proofs.sides.compare.Goals as goal

pub returns-in_default : goal.returns-in_default
returns-in_default c = first_full c.first_side.ensures c.in_default.is

pub second_side-requires : goal.second_side-requires
second_side-requires c = second_room c.first_side.ensures c.in-Some.is c.requires

pub returns-in-Same : goal.returns-in-Same
returns-in-Same c = second_same c.first_side.ensures c.in-Some.is c.second_side.ensures c.in-Same.is

pub returns-in-Other : goal.returns-in-Other
returns-in-Other c = second_other c.first_side.ensures c.in-Some.is c.second_side.ensures c.in-Other.is

pub returns-in-Full : goal.returns-in-Full
returns-in-Full c = second_full c.first_side.ensures c.in-Some.is c.second_side.ensures c.in-Full.is
