-- `verdicts::put_word` meets its contract: the word stands at the front, and the rest is kept.
use mathlib.Core.Path.{sym, ap, ◌∙◌}
use mathlib.Core.List.{◌++◌}
use lib.ListN.{length, drop}
use Rattle.verdicts.proofs.Puts.{put_front}
use Rattle.verdicts.proofs.put_word.Goals as goal

pub returns : goal.returns
returns c = ap (λ t. t ++ drop (length c.args.word.now) c.args.out.now) c.copy_from_slice.ensures.after ∙ sym (put_front _ _)
