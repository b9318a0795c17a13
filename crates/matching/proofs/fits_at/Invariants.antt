-- `matching::fits_at` meets its contract. The loop's invariant: the nodes met so far match.
use Rattle.matching.proofs.Walking.{Walking}
use Rattle.matching.proofs.fits_at.Given as goal

abbrev pub invariant-loop-header : goal.invariant-loop-header
invariant-loop-header l = Walking l.book l.s l.k l.at l.i l.fn.w l.w l.place l.header-iterator
