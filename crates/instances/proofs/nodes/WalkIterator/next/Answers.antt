-- The walk's `next` meets its contract: the walk is over, or the node that stands there is met, and one node less is allowed.
use Rattle.std.proofs.Common.{rules, refl}
use Prim.Native.Nat.{◌≤◌}
use native.Mathlib.Omega.{arith}
use Rattle.instances.proofs.Goings.{is_ended, under_way, turn_over, turn_met}
use Rattle.instances.proofs.nodes.WalkIterator.next.Goals as goal

pub returns-then-is_over-clause-steps : goal.returns-then-is_over-clause-steps
returns-then-is_over-clause-steps c = record {
  book_is = refl;
  s_is = refl;
  turned = turn_over _ _ _ _ (is_ended _ c.is_over.ensures c.if-is_over.true);
}

pub next-self-requires : goal.next-self-requires
next-self-requires c = let on = under_way _ c.is_over.ensures c.if-is_over.false in (on.1, omega (arith, c.args.self.now.within))

pub overflow_sub-self : goal.overflow_sub-self
overflow_sub-self c = (under_way _ c.is_over.ensures c.if-is_over.false).0

pub invariant_of-self : goal.invariant_of-self
invariant_of-self c =
    let on = under_way _ c.is_over.ensures c.if-is_over.false in
    record { within = omega (arith, on.0, c.next-self.ensures.few, c.args.self.now.within) }

pub returns-clause-steps : goal.returns-clause-steps
returns-clause-steps c =
    let on = under_way _ c.is_over.ensures c.if-is_over.false in
    record {
      book_is = refl;
      s_is = refl;
      turned = turn_met _ _ _ _ on.0 on.1 c.view.ensures c.room.ensures c.header_of-header.ensures c.next-self.ensures;
    }

pub returns-clause-goes : goal.returns-clause-goes
returns-clause-goes c =
    let on : 1 ≤ c.args.self.now.left = (under_way _ c.is_over.ensures c.if-is_over.false).0 in search rules
