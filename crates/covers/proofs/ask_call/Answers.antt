-- `covers::ask_call` meets its contract.
use mathlib.Core.Path.{◌≡◌, refl}
use Rattle.std.proofs.Common.{rules, Err}
use Rattle.covers.proofs.Stages.{call_shut, call_searched}
use Rattle.covers.proofs.ask_call.Goals as goal

pub returns-in_err-open_call : goal.returns-in_err-open_call
returns-in_err-open_call c = let e : c.from_residual.result ≡ Err c.in_err-open_call.field-0.0 = search rules in record {
  answered = rw e (call_shut c.open_call.ensures c.in_err-open_call.was);
  lent = refl;
}

pub returns : goal.returns
returns c = record {
  answered = call_searched c.open_call.ensures c.in_ok-open_call.was c.search.ensures c.index_told.ensures;
  lent = c.search.ensures.size;
}
