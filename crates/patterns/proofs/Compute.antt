-- What a computed example unfolds, under one name: `unfolding compute`.
use mathlib.Core.Logic.Dec
use native.Mathlib.Decide.{ℕ_discrete, dec_le}
use mathlib.Core.Logic.Dec
use Rattle.patterns.specs.Term.{fill, exps, times, plain, All, size, nodes}
use Rattle.patterns.specs.Normal.{over, power, norm}
use Rattle.patterns.specs.Every.{Every}
use Rattle.patterns.specs.Counters.{pair_discrete, alone, more}
use Rattle.patterns.specs.Edition.{at, reindex, form, Same}
use Rattle.patterns.specs.Certificate.{by}
use Rattle.patterns.specs.Checks.{Pending, OnMark, SameMark, instance, Stopped, Stops, Checked, Lines}
use Rattle.patterns.specs.Parting.{nodes_of_mark, common}
use Rattle.patterns.specs.Demand.{weight, Met, parting, mark?, level?, met?}
use Rattle.patterns.specs.Judge.{compare, given, pending, sole, parts, stops, line_checks, loop_checks, closing_checks, checks_from, checks, first_unmet, ruling, judge}
use Rattle.patterns.specs.First.{exponents, exp?, value, act, shift, Level, level_exp?}

unfoldable pub compute : Unit {0}
unfolding Dec.and ℕ_discrete dec_le fill exps times plain All size nodes over power norm Every pair_discrete alone more at reindex form Same by Pending OnMark SameMark instance Stopped Stops Checked Lines nodes_of_mark common weight Met parting mark? level? met? compare given pending sole parts stops line_checks loop_checks closing_checks checks_from checks first_unmet ruling judge exponents exp? value act shift Level level_exp?
compute = tt
