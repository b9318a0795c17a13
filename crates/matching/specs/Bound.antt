-- The bindings that the work table tells: for each variable of the pattern the place in the call where its term begins.
use Rattle.std.specs.Prelude.{ℕ, ◌-◌, List, Option, Some, None, cond, eqb}
use Rattle.std.proofs.Math.Option.{none, some}
use Rattle.std.proofs.Math.Option.{Option as Maybe}
use Rattle.covering.specs.Left.{Left, taken}
use Rattle.covering.specs.Walk.{Bindings, State}
use Rattle.table.specs.Places.{BOUND, OFF}
use Rattle.instances.specs.Fillings.{entry}
use Rattle.calls.specs.Standing.{left_at}
use Rattle.calls.specs.declared.Place.{Place}

-- the term that two words tell: none, or that at the place of one node less, so much of it used up
unfoldable pub term_by : (ℕ → ℕ) → List ℕ → ℕ → ℕ → ℕ → Maybe Left
term_by ar w k word off = cond (eqb word 0) none (some (taken ar (left_at w k (record { node = word - 1; used = off })) 1))

unfoldable pub bindings : (ℕ → ℕ) → List ℕ → ℕ → Bindings
bindings ar w k x = term_by ar w k (entry w BOUND x) (entry w OFF x)

-- a walk that has come to a place
abbrev pub state_at : (ℕ → ℕ) → List ℕ → ℕ → Place → State
state_at ar w k p = record { rest = left_at w k p; bound = bindings ar w k }

-- the walk behind a move
unfoldable pub arrived : (ℕ → ℕ) → List ℕ → ℕ → Option Place → Maybe State
arrived ar w k (Some p) = some (state_at ar w k p)
arrived ar w k None = none
