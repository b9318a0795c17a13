-- `matching::meet` meets its contract.
use native.Mathlib.Omega.{arith}
use Rattle.matching.proofs.Meeting.{own_word, meet_first, meet_own}
use Rattle.matching.proofs.meet.Goals as goal

pub returns-then-word-eq0 : goal.returns-then-word-eq0
returns-then-word-eq0 c = rw (← c.from-x.ensures, c.bind.ensures) (meet_first _ _ _ _ (own_word _ _ _ (omega arith)) (own_word _ _ _ (omega arith)) c.behind-next.ensures c.requires.0.long c.requires.0.few (omega arith) c.if-word-eq0.true)

pub returns : goal.returns
returns c = rw (← c.from-x.ensures, c.then_some.ensures) (meet_own _ _ _ _ (own_word _ _ _ (omega arith)) (own_word _ _ _ (omega arith)) c.behind-next.ensures c.if-word-eq0.false c.same_term.ensures)
