-- `instances::fillings::forget` meets its contract: no variable has a term.
use native.Mathlib.Omega.{arith}
use Rattle.instances.proofs.Forgetting.{forgot}
use Rattle.instances.proofs.fillings.forget.Goals as goal

pub returns : goal.returns
returns c = forgot _ _ (omega arith) c.requires (c.fill.ensures.after (λ y e. search e))
