-- `judging::book_length` meets its contract: two bytes, the high one first.
use native.Mathlib.Omega.{arith}
use Rattle.verdicts.specs.Program.{book_length}
use Rattle.judging.proofs.book_length.Goals as goal

pub returns : goal.returns
unfolding book_length
returns c = omega (arith, c.from_be_bytes.ensures, c.type_inv.input 0, c.type_inv.input 1)
