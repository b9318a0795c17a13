-- The numbers that the walks in the code hand back of a tree: the nodes still allowed, a part of a pair, or nothing.
use Rattle.std.specs.Prelude.{ℕ}
use Rattle.grammar.specs.Terms.{Grown, GrownAll}

abbrev pub left_of : Grown → ℕ
left_of g = g.left

abbrev pub left_of_all : GrownAll → ℕ
left_of_all g = g.left

abbrev pub first_of : {A : Type 0} → ℕ × A → ℕ
first_of p = p.0

abbrev pub second_of : ℕ × ℕ → ℕ
second_of p = p.1

abbrev pub nothing : {A : Type 0} → A → ℕ
nothing a = 0
