-- `scans::Scanner` hands out the field that stands there.
use mathlib.Core.Path.{sym}
use Rattle.scans.proofs.Taking.{taken_past, taken_in, taken_small}
use Rattle.scans.proofs.ScannerFields.look.Goals as goal

pub returns-in-Some-clause-found : goal.returns-in-Some-clause-found
returns-in-Some-clause-found c = sym (taken_in _ _ _ c.take.ensures c.in-Some.is)

pub returns-in-Some-clause-narrow : goal.returns-in-Some-clause-narrow
returns-in-Some-clause-narrow c = taken_small _ _ _ c.take.ensures c.in-Some.is

pub returns-in-None-clause-found : goal.returns-in-None-clause-found
returns-in-None-clause-found c = sym (taken_past _ _ _ c.take.ensures c.in-None.is)
