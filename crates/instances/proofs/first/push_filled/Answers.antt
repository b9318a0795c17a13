-- `instances::first::push_filled` meets its contract: a listed variable gives way to its term, any other node is reindexed.
use Rattle.instances.proofs.Pushings.{took_item, took_as, item_fits}
use Rattle.instances.proofs.Repeats.{grows_as, grows_full, grows_kept}
use Rattle.instances.proofs.Instances.{gives_itself, gives_term}
use native.Mathlib.Omega.{arith}
use Rattle.instances.proofs.first.push_filled.Goals as goal

pub push-requires : goal.push-requires
push-requires c = let h = item_fits _ c.item_of.ensures c.requires.room (omega (arith, c.requires.n_bound.0)) in record { room = h.0; n_bound = h.1 }

pub returns-in_err-k : goal.returns-in_err-k
returns-in_err-k c = grows_full _ _ (took_as _ (gives_itself _ _ _ _ _ _ _ _ c.word_of-word.ensures c.if-word-eq0.true) (took_item _ c.item_of.ensures c.push.ensures)) c.in_err-k.was c.from_residual.ensures

pub returns-then-word-eq0 : goal.returns-then-word-eq0
returns-then-word-eq0 c = grows_kept _ _ (took_as _ (gives_itself _ _ _ _ _ _ _ _ c.word_of-word.ensures c.if-word-eq0.true) (took_item _ c.item_of.ensures c.push.ensures)) c.in_ok-k.was c.requires.n_bound.2

pub returns : goal.returns
returns c = grows_as _ _ (gives_term _ _ _ _ _ _ _ _ c.word_of-word.ensures c.if-word-eq0.false) c.push_listed.ensures
