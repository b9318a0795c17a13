-- `fields::copier::Copier` goes past a field that stands there.
use native.Mathlib.Omega.{arith}
use Rattle.fields.proofs.Sources.{got_near}
use Rattle.fields.proofs.copier.CopierFields.pass.Goals as goal

pub put-requires : goal.put-requires
put-requires c = let h = got_near _ _ _ _ _ c.requires in (omega (arith, h.narrow), omega (arith, h.few), omega (arith, h.close))
