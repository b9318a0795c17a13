-- `calls::behind` meets its contract.
use Rattle.calls.specs.Standing.{end_of}
use Rattle.calls.proofs.Moving.{behind_gone, behind_term}
use Rattle.calls.proofs.behind.Goals as goal

pub returns-then-p-k : goal.returns-then-p-k
returns-then-p-k c = behind_gone _ _ _ c.if-p-k.true

pub returns : goal.returns
unfolding end_of
returns c = rw c.at.ensures (behind_term _ _ _ c.requires.0 c.requires.1 c.if-p-k.false)
