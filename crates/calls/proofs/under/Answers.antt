-- `calls::under` meets its contract.
use native.Mathlib.Omega.{arith}
use Rattle.calls.proofs.Moving.{under_gone, under_other, under_like}
use Rattle.calls.proofs.under.Goals as goal

pub returns-then-p-k : goal.returns-then-p-k
returns-then-p-k c = under_gone _ _ _ _ c.if-p-k.true

pub returns-then-w-p : goal.returns-then-w-p
returns-then-w-p c = under_other _ _ _ c.requires.0 c.requires.1 c.if-p-k.false _ (omega arith)

pub returns : goal.returns
returns c = rw c.at.ensures (under_like _ _ _ c.requires.0 c.requires.1 c.if-p-k.false _ (omega arith))
