-- `verdicts::put_sentence` meets its contract: the length first, then the word, the spaced numbers and the newline.
use Rattle.verdicts.proofs.Printing.{sentence_none, sentence_all}
use native.Mathlib.Omega.{arith}
use Rattle.verdicts.proofs.put_sentence.Goals as goal

pub returns-then-n-out : goal.returns-then-n-out
returns-then-n-out c = sentence_none _ _ _ c.spaced_length.ensures c.requires.0 (omega arith)

pub returns : goal.returns
returns c = sentence_all _ _ _ c.spaced_length.ensures c.requires.0 (omega arith) c.put_word.ensures c.put_spaced-end.ensures.answered c.put_spaced-end.ensures.filled
