-- `terms::term` and `args`, which call each other, meet their contracts.
use Prim.Native.Nat.{◌+◌, ◌-◌}
use native.Mathlib.Omega.{arith}
use mathlib.Core.Path.{refl, ◌∙◌}
use Rattle.std.proofs.Common.{rules, Ok}
use Rattle.fields.proofs.AlongRounds.{rounds_end, rounds_no, rounds_on}
use Rattle.terms.proofs.Nodes.{args_rounds}
use Rattle.terms.proofs.Powers.{term_left, through_none, through_bad, through_leaf, through_few, through_args, through_power}
use Rattle.terms.proofs.+args_term.Goals as goal

pub args-returns-in_err-rest : goal.args-returns-in_err-rest
args-returns-in_err-rest g t c = λ deep h. rounds_no (args_rounds _) _ _ (c.loop.invariant.1 deep h) (c.args.n - (c.loop.counter + 1)) (omega arith) (c.term.ensures deep (omega arith)) c.in_err-rest.was (search rules)

pub args-loop-preserved : goal.args-loop-preserved
args-loop-preserved g t c =
    (let e = term_left _ _ _ _ _ _ (c.term.ensures c.loop.rest (omega arith)) c.in_ok-rest.was in omega arith, λ deep h. rounds_on (args_rounds _) _ _ (c.loop.invariant.1 deep h) (c.args.n - (c.loop.counter + 1)) (omega arith) (c.term.ensures deep (omega arith)) _ c.in_ok-rest.was (λ a e. e) (λ a b. refl))

pub args-returns : goal.args-returns
args-returns g t c = λ deep h. rounds_end (args_rounds _) _ _ (c.loop.invariant.1 deep h) (omega arith)

pub term-returns : goal.term-returns
term-returns g t c = through_none c.loop-rest.invariant.1 (omega arith)

pub term-returns-in_err-head : goal.term-returns-in_err-head
term-returns-in_err-head g t c = through_bad c.loop-rest.invariant.1 (λ z. omega arith) c.head.ensures c.in_err-head.was (search rules)

pub term-returns-in-Leaf : goal.term-returns-in-Leaf
term-returns-in-Leaf g t c = through_leaf c.loop-rest.invariant.1 (λ z. omega arith) c.head.ensures (c.in_ok-head.was ∙ (λ i. Ok (c.in-Leaf.is i)))

pub term-args-requires : goal.term-args-requires
term-args-requires g t c κs within = let h = through_few c.loop-rest.invariant.1 (λ z. omega arith) c.head.ensures (c.in_ok-head.was ∙ (λ i. Ok (c.in-Applied.is i))) in search rules

pub term-returns-in-Applied : goal.term-returns-in-Applied
term-returns-in-Applied g t c = through_args c.loop-rest.invariant.1 (λ z. omega arith) c.head.ensures (c.in_ok-head.was ∙ (λ i. Ok (c.in-Applied.is i))) c.args-in-Applied.ensures

pub term-loop-rest-preserved : goal.term-loop-rest-preserved
term-loop-rest-preserved g t c = (omega arith, through_power c.loop-rest.invariant.1 (λ z. omega arith) c.head.ensures (c.in_ok-head.was ∙ (λ i. Ok (c.in-Raised.is i))))
