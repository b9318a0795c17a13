-- 01's table: every case is true.
use mathlib.Core.Path.{refl}
use Rattle.patterns.specs.Every.{Every}
use Rattle.patterns.proofs.Worked.{case_1, case_2, case_3, case_4, case_5, case_6, case_7, case_8}
use Rattle.verdicts.specs.Cases.{True, cases}
use Rattle.verdicts.proofs.Compute.{compute}

-- The twelve cases and the whole case of the program are true.
pub all_cases : Every True cases
unfolding compute
all_cases = (
  case_1,
  (case_2, (case_3, (case_4, (case_5, (case_6, (case_7, (case_8, (refl, (refl, (refl, (refl, ((refl, refl), tt)))))))))))),
)
