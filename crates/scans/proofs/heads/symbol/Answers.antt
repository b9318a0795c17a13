-- `scans::heads::symbol` meets its contract.
use Rattle.scans.proofs.Headings.{symbol_past, symbol_unary, symbol_missing, symbol_in}
use Rattle.scans.proofs.heads.symbol.Goals as goal

pub returns-then-left-lt10 : goal.returns-then-left-lt10
returns-then-left-lt10 g c = symbol_past _ c.if-left-lt10.true

pub returns-then-n-eq1 : goal.returns-then-n-eq1
returns-then-n-eq1 g c = symbol_unary _ c.arity-n.ensures c.if-left-lt10.false c.if-n-eq1.true

pub returns-then-n-gt8 : goal.returns-then-n-gt8
returns-then-n-gt8 g c = symbol_missing _ c.arity-n.ensures c.if-left-lt10.false c.if-n-eq1.false c.if-n-gt8.true

pub returns : goal.returns
returns g c = symbol_in _ c.arity-n.ensures c.if-left-lt10.false c.if-n-eq1.false c.if-n-gt8.false
