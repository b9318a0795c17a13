-- `terms::signature::arity_of` meets its contract: the first byte is the count, and each arity is half a byte.
use mathlib.Core.Path.{sym}
use native.Mathlib.Omega.{arith}
use Rattle.terms.proofs.Arities.{arity_beyond, arity_past, arity_there}
use Rattle.terms.proofs.signature.arity_of.Goals as goal

pub returns-then-k-book : goal.returns-then-k-book
returns-then-k-book c =
    let a = c.args in
    sym (arity_past a.book.now a.f (λ i. omega (arith, c.type_inv.book i)) (omega (arith, c.if-k-book.true)))

pub returns-then-f-book : goal.returns-then-f-book
returns-then-f-book c =
    let a = c.args in
    sym (arity_beyond a.book.now a.f (λ i. omega (arith, c.type_inv.book i)) (omega (arith, c.if-k-book.false)) (omega (arith, c.if-f-book.true)))

pub returns : goal.returns
returns c =
    let a = c.args in
    arity_there a.book.now a.f (λ i. omega (arith, c.type_inv.book i)) (omega (arith, c.if-k-book.false)) _ (omega (arith, c.if-f-book.false)) (omega (arith, c.if-k-book.false)) c.nibble.ensures
