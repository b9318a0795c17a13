-- `judging::is_short` meets its contract.
use Rattle.judging.proofs.Inputs.{says_less}
use Rattle.judging.proofs.is_short.Goals as goal

pub returns : goal.returns
returns c = says_less _ _
