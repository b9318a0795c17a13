-- The search for the smallest index: one after the other from α on, up to the largest number of the call's powers; without index α alone.
use Rattle.std.specs.Prelude.{ℕ, zero, suc, ◌-◌, Bool, true, false, cond, List, [], ◌∷◌}
use Rattle.std.proofs.Math.Logic.{ite}
use Rattle.std.proofs.Math.Option.{Option, none, some}
use Rattle.std.proofs.Math.Decide.{dec_le}
use Rattle.patterns.specs.Term.{Node, nvar, nfun, npow, nodes}
use Rattle.patterns.specs.Push.{retag}
use Rattle.patterns.specs.Demand.{level?}
use Rattle.patterns.specs.First.{Exp, Pattern, value, one}
use Rattle.covering.specs.Walk.{State, walk}

unfoldable pub found : Option State → Bool
found none = false
found (some z) = true

-- the first of `left` numbers from i on that passes
unfoldable pub first_from : (ℕ → Bool) → ℕ → ℕ → Option ℕ
first_from test zero i = none
first_from test (suc left) i = let on = first_from test left (suc i) in cond (test i) (some i) on

-- the number b of a power
abbrev pub number : Exp → ℕ
number e = e.1

-- whether the pattern's nodes ns at index i match the call's nodes ms
unfoldable pub fits : (ℕ → ℕ) → List (Node Exp) → List (Node Exp) → ℕ → Bool
fits ar ns ms i = found (walk ar (retag (value i) ns) (record { rest = retag number ms; bound = λ x. none }))

unfoldable pub larger : ℕ → ℕ → ℕ
larger n m = ite (dec_le n m) m n

-- the largest b of the powers among a call's nodes, 0 if there is none
unfoldable pub largest : List (Node Exp) → ℕ
largest [] = 0
largest (nvar x ∷ ms) = largest ms
largest (nfun f ∷ ms) = largest ms
largest (npow s e ∷ ms) = larger (number e) (largest ms)

-- How many indices are tried. 02: "A pattern without index answers α." Else none beyond the call's largest b covers it, and that is
-- 4,095 or less.
unfoldable pub tries : Pattern → ℕ → Pattern → ℕ
tries t α c = ite (level? one t) 1 (suc (largest (nodes c)) - α)

unfoldable pub covering : (ℕ → ℕ) → Pattern → ℕ → Pattern → Option ℕ
covering ar t α c = first_from (fits ar (nodes t) (nodes c)) (tries t α c) α
