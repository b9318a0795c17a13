-- `instances::nodes::header_of` meets its contract: each field is taken out of the view, if all of the node's fields are there.
use Rattle.std.proofs.Common.{rules}
use native.Mathlib.Omega.{arith}
use Rattle.instances.proofs.Headers.{off, variable_short, variable_whole, symbol_short, symbol_whole, power_short, power_whole, no_kind}
use Rattle.instances.proofs.nodes.header_of.Goals as goal

pub returns-then-at-room : goal.returns-then-at-room
returns-then-at-room c = record { is = λ s v e. off _ s _ _ _ v e c.if-at-room.true }

pub returns-then-rest-lt8 : goal.returns-then-rest-lt8
returns-then-rest-lt8 c = record { is = λ s v e. variable_short _ s _ _ _ v e c.in-0.is (omega (arith, c.if-rest-lt8.true, c.if-at-room.false)) }

pub returns-then-rest-lt10 : goal.returns-then-rest-lt10
returns-then-rest-lt10 c = record { is = λ s v e. symbol_short _ s _ _ _ v e c.in-1.is (omega (arith, c.if-rest-lt10.true, c.if-at-room.false)) }

pub returns-then-rest-lt34 : goal.returns-then-rest-lt34
returns-then-rest-lt34 c = record { is = λ s v e. power_short _ s _ _ _ v e c.in-2.is (omega (arith, c.if-rest-lt34.true, c.if-at-room.false)) }

pub returns-else-rest-lt8 : goal.returns-else-rest-lt8
returns-else-rest-lt8 c = record { is = λ s v e. variable_whole _ s _ _ _ v e c.in-0.is (omega (arith, c.if-rest-lt8.false, c.if-at-room.false)) }

pub returns-else-rest-lt10 : goal.returns-else-rest-lt10
returns-else-rest-lt10 c = record { is = λ s v e. symbol_whole _ s _ _ _ v e _ c.in-1.is (omega (arith, c.if-rest-lt10.false, c.if-at-room.false)) c.arity_of.ensures }

pub returns-else-rest-lt34 : goal.returns-else-rest-lt34
returns-else-rest-lt34 c = record { is = λ s v e. power_whole _ s _ _ _ v e c.in-2.is (omega (arith, c.if-rest-lt34.false, c.if-at-room.false)) }

pub returns-in_default : goal.returns-in_default
returns-in_default c = record { is = λ s v e. no_kind _ s _ _ _ v e (search rules) (search rules) (search rules) }
