-- `bits::Cursor::take` meets its contract: where the field fits, a shift and a remainder of three bytes take it out.
use Rattle.std.proofs.Common.{◌∙◌, sym, arith}
use Rattle.bits.specs.Bits.{read_field}
use Rattle.bits.proofs.Shifts.{one_shifted}
use Rattle.bits.proofs.Fitting.{fits_both}
use Rattle.bits.proofs.Windows.{taken}
use Rattle.bits.proofs.Cursor.take.Goals as goal

pub returns-then-has_room : goal.returns-then-has_room
unfolding read_field
returns-then-has_room c =
    let a = c.args in
    let fitting = sym c.has_room.ensures ∙ c.if-has_room.true in
    let both = fits_both a.s.now a.w a.self.at fitting in
    let divisor = one_shifted a.w (omega arith) in
    let value = taken a.s.now (λ i. omega (arith, c.type_inv.s i)) a.self.at a.w both.0 in
    simp (fitting, c.window-x.ensures.0, divisor, value)

pub returns-else-has_room : goal.returns-else-has_room
unfolding read_field
returns-else-has_room c = let e = sym c.has_room.ensures ∙ c.if-has_room.false in simp e
