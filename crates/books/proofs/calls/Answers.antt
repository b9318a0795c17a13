-- `books::calls` meets its contract.
use Prim.Native.Nat.{◌+◌, ◌-◌}
use native.Mathlib.Omega.{arith}
use mathlib.Core.Path.{refl}
use Rattle.std.proofs.Common.{rules}
use Rattle.fields.proofs.AlongRounds.{rounds_end, rounds_no, rounds_on}
use Rattle.books.proofs.Counting.{roots_many}
use Rattle.books.proofs.calls.Goals as goal

pub returns-in_err-root_term : goal.returns-in_err-root_term
returns-in_err-root_term g c = rounds_no (roots_many _) _ 0 c.loop.invariant (c.args.n - (c.loop.counter + 1)) (omega arith) c.root_term.ensures c.in_err-root_term.was (search rules)

pub loop-preserved : goal.loop-preserved
loop-preserved g c = rounds_on (roots_many _) _ 0 c.loop.invariant (c.args.n - (c.loop.counter + 1)) (omega arith) c.root_term.ensures 0 c.in_ok-root_term.was (λ a e. refl) (λ a b. refl)

pub returns : goal.returns
returns g c = rounds_end (roots_many _) _ 0 c.loop.invariant (omega arith)
