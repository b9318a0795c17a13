-- `calls::followers` meets its contract.
use Rattle.calls.proofs.Passing.{follows_variable, follows_symbol, follows_power}
use Rattle.std.proofs.Common.{arith}
use Rattle.calls.proofs.followers.Goals as goal

pub returns-in-0 : goal.returns-in-0
returns-in-0 c = follows_variable _ _ c.in-0.is

pub returns-in-1 : goal.returns-in-1
returns-in-1 c = follows_symbol _ _ c.in-1.is c.arity_of.ensures

pub returns-in_default : goal.returns-in_default
returns-in_default c = follows_power _ _ (λ h. omega arith) (λ h. omega arith)
