-- `books::arities` meets its contract.
use Prim.Native.Nat.{◌+◌, ◌-◌}
use native.Mathlib.Omega.{arith}
use mathlib.Core.Path.{refl}
use Rattle.std.proofs.Common.{rules}
use Rattle.fields.specs.Kinds.{FieldKind as kind}
use Rattle.fields.proofs.Ranges.{from_to_bounded}
use Rattle.fields.proofs.AlongRounds.{rounds_end, rounds_no, rounds_on}
use Rattle.books.proofs.Counting.{arities_many}
use Rattle.books.proofs.arities.Goals as goal

pub returns-in_err-take : goal.returns-in_err-take
returns-in_err-take g c = rounds_no arities_many _ 0 c.loop.invariant (c.args.n - (c.loop.counter + 1)) (omega arith) (c.take.ensures.comes _ _ (from_to_bounded kind.arity _ _)) c.in_err-take.was (search rules)

pub loop-preserved : goal.loop-preserved
loop-preserved g c = rounds_on arities_many _ 0 c.loop.invariant (c.args.n - (c.loop.counter + 1)) (omega arith) (c.take.ensures.comes _ _ (from_to_bounded kind.arity _ _)) 0 c.in_ok-take.was (λ a e. refl) (λ a b. refl)

pub returns : goal.returns
returns g c = rounds_end arities_many _ 0 c.loop.invariant (omega arith)
