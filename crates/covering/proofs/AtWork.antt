-- The search at work on 01's patterns and others, computed.
use Prim.Native.Nat.{ℕ}
use mathlib.Core.Path.{◌≡◌, refl}
use mathlib.Core.List.{[], ◌∷◌}
use mathlib.Core.Option.{Option, none, some, bind}
use lib.ListN.{get_or}
use Rattle.patterns.specs.Push.{retag}
use Rattle.patterns.specs.First.{Pattern}
use Rattle.patterns.specs.Examples.{x, y, s, r, o, gt, add, while}
use Rattle.patterns.proofs.Compute.{compute}
use Rattle.covering.specs.Left.{left?, places, taken, behind, under, upon, below}
use Rattle.covering.specs.Walk.{with_term, meet, step, walk}
use Rattle.covering.specs.Search.{found, first_from, fits, larger, largest, tries, covering}

-- the arities of s, 0, gt, add, while, r and f
unfoldable pub arities : ℕ → ℕ
arities f = get_or (1 ∷ 0 ∷ 2 ∷ 3 ∷ 2 ∷ 1 ∷ 2 ∷ []) f 0

-- the pattern t from α on, and a call: the answer
abbrev pub Finds : Pattern → ℕ → Pattern → Option ℕ → Type 0
Finds t α c a = covering arities t α c ≡ a

-- what computes a search, under one name
unfoldable pub searching : Unit {0}
unfolding compute arities retag bind places taken behind under upon below with_term left? meet step walk found first_from fits larger largest tries covering
searching = tt

pub examples :
    -- 01's family while(s^{n+1}(x), s^n(0)), n ≥ 1: a call in it, one whose first argument is too short, and one of index 0
    Finds (while (s 1 1 x) (s 1 0 o)) 1 (while (s 0 5 o) (s 0 2 o)) (some 2)
    × Finds (while (s 1 1 x) (s 1 0 o)) 1 (while (s 0 2 o) (s 0 2 o)) none
    × Finds (while (s 1 1 x) (s 1 0 o)) 1 (while (s 0 5 o) o) none
    × Finds (while (s 1 1 x) (s 1 0 o)) 0 (while (s 0 5 o) o) (some 0)
    -- from α on: not the smallest index of all, and none below α
    × Finds (s 1 0 x) 0 (s 0 5 o) (some 0)
    × Finds (s 1 0 x) 3 (s 0 5 o) (some 3)
    × Finds (s 1 0 o) 3 (s 0 2 o) none
    -- 01's case 3: at index 0 the power in the middle vanishes, and the others join; from 1 on it stands between them
    × Finds (s 0 1 (r 1 0 (s 0 1 x))) 0 (s 0 2 o) (some 0)
    × Finds (s 0 1 (r 1 0 (s 0 1 x))) 1 (s 0 2 o) none
    × Finds (s 0 1 (r 1 0 (s 0 1 x))) 0 (s 0 1 (r 0 2 (s 0 1 o))) (some 2)
    × Finds (s 0 1 (r 1 0 (s 0 1 x))) 0 (s 0 1 (r 0 2 o)) none
    -- a call without powers: only index 0 is left
    × Finds (gt (r 1 0 o) x) 0 (gt o y) (some 0)
    × Finds (gt (r 1 0 o) x) 1 (gt o y) none
    -- without index: α, whatever it is, or nothing
    × Finds (gt x x) 7 (gt y y) (some 7)
    × Finds (s 0 2 x) 9 (s 0 3 o) (some 9)
    × Finds (gt x o) 7 (gt y y) none
    × Finds (s 0 3 x) 0 (s 0 2 o) none
    × Finds (gt x y) 0 (while x y) none
    -- a variable that stands twice has one term
    × Finds (gt x x) 0 (gt o (s 0 1 o)) none
    × Finds (add x (s 1 0 o) (s 1 0 x)) 0 (add (s 0 1 o) (s 0 3 o) (s 0 4 o)) (some 3)
    × Finds (add x (s 1 0 o) (s 1 0 x)) 0 (add (s 0 1 o) (s 0 3 o) (s 0 5 o)) none
    -- the call's variables are its own: they stay, also where the pattern has the same number
    × Finds (gt x o) 0 (gt x o) (some 0)
    × Finds (gt x o) 0 (gt x x) none
    × Finds (gt (s 0 1 x) o) 0 (gt x o) none
    × Finds (gt x y) 0 (gt y x) (some 0)
    × Finds (gt x (s 1 0 x)) 0 (gt (s 0 1 x) (s 0 3 x)) (some 2)
    × Finds (gt x (s 1 0 x)) 0 (gt x (s 0 3 y)) none
    -- the rest of a power is kept for the variable below, and for nothing else
    × Finds (gt (s 1 0 x) x) 0 (gt (s 0 5 o) (s 0 2 o)) (some 3)
    × Finds (gt (s 1 0 x) x) 0 (gt (s 0 5 o) o) (some 5)
    × Finds (gt (s 2 0 o) x) 0 (gt (s 0 5 o) o) none
    -- the largest number of the call counts, wherever it stands
    × Finds (while (r 0 1 x) (s 1 0 o)) 0 (while (r 0 1 o) (s 0 4 o)) (some 4)
    × Finds (while (s 1 0 o) (r 0 1 x)) 0 (while (s 0 4 o) (r 0 1 o)) (some 4)
unfolding searching
examples = (refl, refl, refl, refl, refl, refl, refl, refl, refl, refl, refl, refl, refl, refl, refl, refl, refl, refl, refl, refl, refl, refl, refl, refl, refl, refl, refl, refl, refl, refl, refl, refl)

-- the last index that a call can name
pub last_found : Finds (s 1 0 o) 0 (s 0 4095 o) (some 4095)
unfolding searching
last_found = refl
