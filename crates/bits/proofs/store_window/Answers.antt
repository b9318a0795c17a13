-- `bits::store_window` meets its contract: three stores, one after the other.
use Rattle.bits.specs.Window.{with_window}
use Rattle.bits.proofs.store_window.Goals as goal

pub returns : goal.returns
unfolding with_window
returns c =
    simp (
      c.store-3.ensures,
      c.store-2.ensures,
      c.store.ensures,
    )
