-- `verdicts::verdict_line` meets its contract: a word and the numbers of each kind of verdict.
use Rattle.verdicts.specs.Printing.{accept_word}
use Rattle.verdicts.proofs.Printed.{accepted_printed, refused_printed}
use Rattle.verdicts.proofs.verdict_line.Goals as goal

pub returns-in-Ok : goal.returns-in-Ok
unfolding accept_word
returns-in-Ok c = accepted_printed _ _ c.in-Ok.is c.put_sentence.ensures

pub returns-in-Err : goal.returns-in-Err
returns-in-Err c = refused_printed _ _ c.in-Err.is c.refusal_line.ensures
