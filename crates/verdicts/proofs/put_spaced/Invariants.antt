-- `verdicts::put_spaced` meets its contract: a space and a number, one after the other.
use Rattle.verdicts.proofs.Turns.{ListedNumbers}
use Rattle.verdicts.proofs.put_spaced.Given as goal

abbrev pub invariant-loop-n : goal.invariant-loop-n
invariant-loop-n l = ListedNumbers l.initial.out l.at l.numbers l.out l.k l.n-index
