-- `bits::Cursor::put` meets its contract: where the field fits, what the code stores is the field put; else nothing is changed.
use Rattle.std.proofs.Common.{◌∙◌, sym, arith}
use Rattle.bits.specs.Put.{place_after, put_field}
use Rattle.bits.proofs.Stores.{stored_is}
use Rattle.bits.proofs.Cursor.put.Goals as goal

pub returns-then-has_room : goal.returns-then-has_room
unfolding place_after
returns-then-has_room c =
    let a = c.args in
    let fitting = sym c.has_room.ensures ∙ c.if-has_room.true in (
      simp fitting,
      simp (
        c.store_window.ensures,
        c.weave-y.ensures,
        c.window-x.ensures.0,
      )
          (stored_is a.out.now a.w a.v a.self.at (λ i. omega (arith, c.slice_known-1.given i)) fitting),
    )

pub returns-else-has_room : goal.returns-else-has_room
unfolding place_after put_field
returns-else-has_room c =
    let e = sym c.has_room.ensures ∙ c.if-has_room.false in
    (simp e, simp e)
