-- `matching::first_fit` meets its contract.
use Rattle.matching.proofs.Searching.{Trying}
use Rattle.matching.proofs.first_fit.Given as goal

abbrev pub invariant-loop-index : goal.invariant-loop-index
invariant-loop-index l = Trying l.book l.s l.k l.at l.i l.n l.initial.w l.w l.index
