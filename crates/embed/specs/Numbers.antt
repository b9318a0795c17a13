-- An answer as five numbers.
use Rattle.std.specs.Prelude.{ℕ, List, [], ◌∷◌}
use Rattle.answers.specs.Numbers.{Told, filled_with, refused_with, Reply, covered_at, denied}
use Rattle.patterns.specs.First.{Pace}
use Rattle.patterns.specs.Reason.{Reason}
use Rattle.patterns.specs.Judge.{Ruling, accept, refuse}

-- 01: "A refusal carries its number, W [..], A and B."
unfoldable pub refusal_numbers : Reason → List ℕ
refusal_numbers r = 1 ∷ r.number ∷ r.w ∷ r.a ∷ r.b ∷ []

-- 01: "they answer the number of places filled"
unfoldable pub answer_numbers : Told → List ℕ
answer_numbers (filled_with n) = 0 ∷ n ∷ 0 ∷ 0 ∷ 0 ∷ []
answer_numbers (refused_with r) = refusal_numbers r

-- 01: "An accepting answer gives the line, k and α."
unfoldable pub verdict_numbers : Ruling Pace → List ℕ
verdict_numbers (accept line pace) = 0 ∷ line ∷ pace.k ∷ pace.α ∷ 0 ∷ []
verdict_numbers (refuse r) = refusal_numbers r

-- 02, Ticket 1: "If yes, give the smallest such index."
unfoldable pub coverage_numbers : Reply → List ℕ
coverage_numbers (covered_at i) = 0 ∷ i ∷ 0 ∷ 0 ∷ 0 ∷ []
coverage_numbers (denied r) = refusal_numbers r
