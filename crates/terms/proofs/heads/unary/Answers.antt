-- `terms::heads::unary` meets its contract.
use mathlib.Core.Path.{sym, ◌∙◌}
use Rattle.std.proofs.Common.{rules}
use Rattle.terms.proofs.AlongSymbols.{unary_bad, unary_not, unary_like, unary_in}
use Rattle.terms.proofs.heads.unary.Goals as goal

pub returns-in_err-f : goal.returns-in_err-f
returns-in_err-f g c = unary_bad _ _ c.look.ensures.found _ c.in_err-f.was (search rules)

pub returns-then-arity-ne1 : goal.returns-then-arity-ne1
returns-then-arity-ne1 g c = unary_not _ _ c.look.ensures.found c.in_ok-f.was c.arity.ensures _ c.if-arity-ne1.true

pub returns-then-f-above : goal.returns-then-f-above
returns-then-f-above g c = unary_like _ _ c.look.ensures.found c.in_ok-f.was c.arity.ensures _ c.if-arity-ne1.false c.if-f-above.true

pub pass-requires : goal.pass-requires
pass-requires g c = sym c.look.ensures.found ∙ c.in_ok-f.was

pub returns : goal.returns
returns g c = unary_in _ _ c.look.ensures.found c.in_ok-f.was c.arity.ensures _ c.if-arity-ne1.false c.if-f-above.false c.pass.ensures
