-- What 01's "The table to be proved" speaks of: terms, the book W, lines over it, and the certificate of cases 9 and 10.
use Rattle.std.specs.Prelude.{ℕ, [], ◌∷◌}
use Rattle.std.proofs.Math.Option.{none, some}
use Rattle.patterns.specs.Term.{var, fun, pow, nil, cons}
use Rattle.patterns.specs.Derive.{Book}
use Rattle.patterns.specs.Certificate.{Line, fact, call, unfolds, descends, Certificate}
use Rattle.patterns.specs.First.{Exp, ex, Pattern, Pair, Pace}

-- the variables x, y, z; the unary symbols s and r; and 0, gt, add, while and f
abbrev pub x : Pattern
x = var 0

abbrev pub y : Pattern
y = var 1

abbrev pub z : Pattern
z = var 2

abbrev pub s : ℕ → ℕ → Pattern → Pattern
s a b t = pow 0 (ex a b) t

abbrev pub r : ℕ → ℕ → Pattern → Pattern
r a b t = pow 5 (ex a b) t

abbrev pub o : Pattern
o = fun 1 nil

abbrev pub gt : Pattern → Pattern → Pattern
gt t u = fun 2 (cons t (cons u nil))

abbrev pub add : Pattern → Pattern → Pattern → Pattern
add t u v = fun 3 (cons t (cons u (cons v nil)))

abbrev pub while : Pattern → Pattern → Pattern
while t u = fun 4 (cons t (cons u nil))

abbrev pub f : Pattern → Pattern → Pattern
f t u = fun 6 (cons t (cons u nil))

abbrev pub w_book : Book Exp
w_book =
    record { head = gt (s 0 1 x) o; calls = [] }
    ∷ record { head = gt (s 0 1 x) (s 0 1 y); calls = gt x y ∷ [] }
    ∷ record { head = add x o x; calls = [] }
    ∷ record { head = add x (s 0 1 y) (s 0 1 z); calls = add x y z ∷ [] }
    ∷ record { head = while x y; calls = gt x y ∷ add x y z ∷ while z (s 0 1 y) ∷ [] }
    ∷ []

-- an unfold of the first rule, and the descent on it
abbrev pub gt_base : Line Exp Pair
gt_base = record { claim = record { left = gt (s 0 1 x) o; right = none }; kind = unfolds 0 [] fact }

abbrev pub gt_line : Line Exp Pair
gt_line = record {
  claim = record { left = gt (s 1 1 x) (s 1 0 o); right = none };
  kind = descends (record { line = 0; index = (0, 0); fills = [] }) 1 ((0, s 1 1 x) ∷ (1, s 1 0 o) ∷ []);
}

-- an unfold of the third rule, and the descent on it, where it is line k
abbrev pub add_base : Line Exp Pair
add_base = record { claim = record { left = add x o x; right = none }; kind = unfolds 2 [] fact }

abbrev pub add_line : ℕ → Line Exp Pair
add_line k = record {
  claim = record { left = add x (s 1 0 o) (s 1 0 x); right = none };
  kind = descends (record { line = k; index = (0, 0); fills = [] }) 3 ((1, s 1 0 o) ∷ (2, s 1 0 x) ∷ []);
}

-- the unfold of the last rule at stop 3, from both descents
abbrev pub while_line : Line Exp Pair
while_line = record {
  claim = record { left = while (s 1 1 x) (s 1 0 o); right = some (while (s 2 1 x) (s 1 1 o)) };
  kind =
      unfolds 4 ((0, s 1 1 x) ∷ (1, s 1 0 o) ∷ (2, s 2 1 x) ∷ [])
      (call
      (record { line = 1; index = (1, 0); fills = [] } ∷ record { line = 3; index = (1, 0); fills = (0, s 1 1 x) ∷ [] } ∷ [])
      none);
}

-- all of them, closed with k = 1 and the start α, x by s^{1,0}(x)
abbrev pub certificate : ℕ → Certificate Exp Pair Pace
certificate α = record {
  lines = gt_base ∷ gt_line ∷ add_base ∷ add_line 2 ∷ while_line ∷ [];
  closing = record { line = 4; pace = record { k = 1; α = α }; fills = (0, s 1 0 x) ∷ [] };
}
