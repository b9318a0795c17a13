-- `instances::first::push_listed` meets its contract: copied or spelled, the nodes of the term are pushed.
use mathlib.Core.Path.{refl}
use Rattle.instances.proofs.Repeats.{copied_again, noting_fits, grows_full, grows_kept, grows_noted}
use Rattle.instances.proofs.first.push_listed.Goals as goal

pub copy-requires-clause-count_bound : goal.copy-requires-clause-count_bound
copy-requires-clause-count_bound c = (c.requires.n_bound.2.told _ c.in-Some.is).within

pub returns-in_err-k : goal.returns-in_err-k
returns-in_err-k c = grows_full _ _ (copied_again _ (c.is_repeated.ensures.so c.if-is_repeated.true).1 (c.is_closed-closed.ensures.so (c.is_repeated.ensures.so c.if-is_repeated.true).0) (c.requires.n_bound.2.told _ c.in-Some.is) c.copy.ensures) c.in_err-k.was c.from_residual.ensures

pub returns : goal.returns
returns c = grows_kept _ _ (copied_again _ (c.is_repeated.ensures.so c.if-is_repeated.true).1 (c.is_closed-closed.ensures.so (c.is_repeated.ensures.so c.if-is_repeated.true).0) (c.requires.n_bound.2.told _ c.in-Some.is) c.copy.ensures) c.in_ok-k.was c.requires.n_bound.2

pub returns-in_err-k-2 : goal.returns-in_err-k-2
returns-in_err-k-2 c = grows_full _ _ c.spell.ensures c.in_err-k-2.was c.from_residual-in_err-k-2.ensures

pub remembered-requires : goal.remembered-requires
remembered-requires c = let h = noting_fits _ _ c.requires.room c.spell.ensures c.in_ok-k-2.was in record { room = h.0; n_le_k = h.1 }

pub returns-2 : goal.returns-2
returns-2 c = grows_noted _ _ c.spell.ensures refl c.in_ok-k-2.was c.is_closed-closed.ensures c.requires.n_bound.2 c.remembered.ensures
