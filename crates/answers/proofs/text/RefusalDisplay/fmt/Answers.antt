-- A refusal is written with what its number carries.
use Rattle.answers.specs.Numbers.{paper_refusal}
use Rattle.answers.proofs.text.RefusalDisplay.fmt.Goals as goal

pub returns-clause-writes : goal.returns-clause-writes
unfolding paper_refusal
returns-clause-writes g c = rw (← c.carried-told.ensures, ← c.w_number-w.ensures) c.write.ensures.writes
