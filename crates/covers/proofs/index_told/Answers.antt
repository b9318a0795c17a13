-- `covers::index_told` meets its contract.
use Rattle.answers.specs.Numbers.{w_of}
use Rattle.covers.proofs.Stages.{found_told}
use Rattle.covers.proofs.index_told.Goals as goal

pub returns : goal.returns
unfolding w_of
returns c = rw c.ok_or.ensures.value (found_told _ c.whole.ensures _)
