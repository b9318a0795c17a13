-- `instances::word_of` meets its contract, by the kinds of header.
use Rattle.instances.specs.Fillings.{entry}
use Rattle.instances.specs.Filled.{word_of}
use Rattle.std.proofs.Common.{lt-ltb, le-ltb}
use Rattle.instances.proofs.word_of.Goals as goal

pub returns-then-x-lt64 : goal.returns-then-x-lt64
unfolding word_of entry
returns-then-x-lt64 c = simp (c.in-Variable.is, lt-ltb _ _ c.if-x-lt64.true)

pub returns-else-x-lt64 : goal.returns-else-x-lt64
unfolding word_of entry
returns-else-x-lt64 c = simp (c.in-Variable.is, le-ltb _ _ c.if-x-lt64.false)

pub returns-in-Symbol : goal.returns-in-Symbol
unfolding word_of
returns-in-Symbol c = simp c.in-Symbol.is

pub returns-in-Power : goal.returns-in-Power
unfolding word_of
returns-in-Power c = simp c.in-Power.is

pub returns-in-Missing : goal.returns-in-Missing
unfolding word_of
returns-in-Missing c = simp c.in-Missing.is
