-- The line that the program prints, what is answered for it, and bytes put at a place.
use Rattle.std.specs.Prelude.{ℕ, ◌+◌, ◌≤◌, ◌≡◌, List, [], ◌∷◌, ◌++◌, cond, length, take, drop, ltb}
use Rattle.answers.specs.Carried.{carried, Carries}
use Rattle.patterns.specs.First.{Pace}
use Rattle.patterns.specs.Reason.{Reason}
use Rattle.patterns.specs.Judge.{Ruling, accept, refuse}
use Rattle.layout.specs.Answers.{gives, output}
use Rattle.verdicts.specs.Decimal.{decimal}

-- "accept"
unfoldable pub accept_word : List ℕ
accept_word = 97 ∷ 99 ∷ 99 ∷ 101 ∷ 112 ∷ 116 ∷ []

-- "refuse"
unfoldable pub refuse_word : List ℕ
refuse_word = 114 ∷ 101 ∷ 102 ∷ 117 ∷ 115 ∷ 101 ∷ []

-- 01: "in decimal with single spaces": a space and then a number, for each
unfoldable pub spaced : List ℕ → List ℕ
spaced [] = []
spaced (n ∷ ns) = (32 ∷ decimal n) ++ spaced ns

-- a word, numbers, and the newline
unfoldable pub sentence : List ℕ → List ℕ → List ℕ
sentence word ns = word ++ (spaced ns ++ (10 ∷ []))

unfoldable pub refusal_line : Reason → List ℕ
refusal_line r = sentence refuse_word (r.number ∷ r.w ∷ r.a ∷ r.b ∷ [])

-- 01: "It prints one line: `accept` line k α, or `refuse` number W A B"; A and B are what the number carries
unfoldable pub line_of : Ruling Pace → List ℕ
line_of (accept l p) = sentence accept_word (l ∷ p.k ∷ p.α ∷ [])
line_of (refuse r) = refusal_line (carried r.number r.w r.a r.b)

-- a verdict of which the line leaves nothing out
unfoldable pub TellsAll : Ruling Pace → Type 0
TellsAll (accept l p) = Unit {0}
TellsAll (refuse r) = Carries r

-- the length of a line that is written; 0 if it does not fit, and then nothing is written
unfoldable pub written_length : List ℕ → ℕ → ℕ
written_length l room = cond (ltb room (length l)) 0 (length l)

-- what a function that prints a line promises: its length is answered, it stands in the first places of the output, and the rest is
-- kept; 91 places are always enough
pub record Prints (line before : List ℕ) (r : ℕ) (after : List ℕ) : Type 0 where
  pub answered : r ≡ written_length line (length before)
  pub filled : after ≡ output (gives line) before
  pub short : length line ≤ 91

-- bytes put at a place, the rest kept
unfoldable pub put_at : List ℕ → ℕ → List ℕ → List ℕ
put_at out at l = take at out ++ (l ++ drop (at + length l) out)
