-- `comparing::sides::fills_of` meets its contract.
use native.Mathlib.Omega.{arith}
use Rattle.comparing.specs.Subjects.{fills_of}
use Rattle.comparing.proofs.sides.fills_of.Goals as goal

pub returns-in-Bare : goal.returns-in-Bare
unfolding fills_of
returns-in-Bare c = (simp c.in-Bare.is, omega arith)

pub returns-in-Used : goal.returns-in-Used
unfolding fills_of
returns-in-Used c = (simp c.in-Used.is, omega arith)
