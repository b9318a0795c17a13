-- `layout::ends` meets its contract.
use mathlib.Core.Path.{sym}
use Rattle.layout.proofs.FileEnds.{ends_long, ends_read, ends_past}
use Rattle.layout.proofs.ends.Goals as goal

pub returns-then-s-bit : goal.returns-then-s-bit
returns-then-s-bit c = sym (ends_long _ _ c.if-s-bit.true)

pub returns-in-None : goal.returns-in-None
returns-in-None c = sym (ends_past _ _ c.if-s-bit.false c.requires.0 c.requires.1 c.take.ensures c.in-None.is)

pub returns-in-Some : goal.returns-in-Some
returns-in-Some c = sym (ends_read _ _ c.if-s-bit.false c.requires.0 c.requires.1 c.take.ensures c.in-Some.is)
