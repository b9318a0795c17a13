-- A book's list tells the arities of its symbols.
use Prim.Native.Nat.{◌+◌, ◌*◌}
use mathlib.Core.Path.{refl, sym, ◌∙◌}
use native.Mathlib.Omega.{arith}
use Rattle.terms.proofs.Symbols.{no_arity, some_arity}
use Rattle.terms.proofs.signature.ListedSignature.arity.Goals as goal

pub returns-then-f-number : goal.returns-then-f-number
returns-then-f-number c = sym (no_arity _ _ _ _ refl (c.number.ensures 0 (omega arith)) c.if-f-number.true)

pub returns : goal.returns
returns c = c.number-2.ensures (8 + 4 * c.args.f) (omega arith) ∙ sym (some_arity _ _ _ _ refl (c.number.ensures 0 (omega arith)) c.if-f-number.false)
