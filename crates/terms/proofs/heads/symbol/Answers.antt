-- `terms::heads::symbol` meets its contract.
use mathlib.Core.Path.{sym, ◌∙◌}
use Rattle.std.proofs.Common.{rules}
use Rattle.terms.proofs.AlongSymbols.{symbol_bad, symbol_unary, symbol_missing, symbol_in}
use Rattle.terms.proofs.heads.symbol.Goals as goal

pub returns-in_err-f : goal.returns-in_err-f
returns-in_err-f g c = symbol_bad _ _ c.look.ensures.found c.in_err-f.was (search rules)

pub returns-then-n-eq1 : goal.returns-then-n-eq1
returns-then-n-eq1 g c = symbol_unary _ _ c.look.ensures.found c.in_ok-f.was c.arity-n.ensures c.if-n-eq1.true

pub returns-then-n-gt8 : goal.returns-then-n-gt8
returns-then-n-gt8 g c = symbol_missing _ _ c.look.ensures.found c.in_ok-f.was c.arity-n.ensures c.if-n-eq1.false c.if-n-gt8.true

pub pass-requires : goal.pass-requires
pass-requires g c = sym c.look.ensures.found ∙ c.in_ok-f.was

pub returns : goal.returns
returns g c = symbol_in _ _ c.look.ensures.found c.in_ok-f.was c.arity-n.ensures c.if-n-eq1.false c.if-n-gt8.false c.pass.ensures
