-- `verdicts::put_number` meets its contract: the last digit first, and a tenth is left.
use Rattle.verdicts.proofs.Turns.{DigitsPut}
use Rattle.verdicts.proofs.put_number.Given as goal

abbrev pub invariant-loop-k : goal.invariant-loop-k
invariant-loop-k l = DigitsPut l.initial.out l.at l.n l.out l.k l.m
