-- What each number carries.
use Prim.Native.Nat.{ℕ, ◌≤◌, ◌<◌}
use mathlib.Core.Path.{◌≡◌, refl}
use mathlib.Core.Bool.{Bool, true, false, ◌&&◌, cond}
use native.Mathlib.Omega.{arith}
use borrow.Author.Tests.{le-leb, lt-leb}
use lib.Dec.{leb}
use Rattle.answers.specs.Carried.{refusal_at, of_a_field, of_a_part, carried}

and_false : (b : Bool) → (b && false) ≡ false
and_false true = refl
and_false false = refl

module _ {n : ℕ} (w a b : ℕ) where
  pub carried_field : 3 ≤ n → n < 8 → carried n w a b ≡ refusal_at n w a
  unfolding carried of_a_field
  carried_field p q = rw (le-leb 3 n p, le-leb n 7 (omega arith))

  pub carried_part : 9 ≤ n → n < 17 → carried n w a b ≡ record { number = n; w = w; a = a; b = b }
  unfolding carried of_a_field of_a_part
  carried_part p q = rw (lt-leb n 7 (omega arith), and_false (leb 3 n), le-leb 9 n p, le-leb n 16 (omega arith))

  pub carried_low : n < 3 → carried n w a b ≡ refusal_at n w 0
  unfolding carried of_a_field of_a_part
  carried_low p = rw (lt-leb 3 n p, lt-leb 9 n (omega arith))

  pub carried_between : 8 ≤ n → n < 9 → carried n w a b ≡ refusal_at n w 0
  unfolding carried of_a_field of_a_part
  carried_between p q = rw (lt-leb n 7 (omega arith), and_false (leb 3 n), lt-leb 9 n q)

  pub carried_high : 17 ≤ n → carried n w a b ≡ refusal_at n w 0
  unfolding carried of_a_field of_a_part
  carried_high p = rw (lt-leb n 7 (omega arith), and_false (leb 3 n), lt-leb n 16 (omega arith), and_false (leb 9 n))

-- where there is nothing to carry
pub carried_nothing : (n w : ℕ) → carried n w 0 0 ≡ refusal_at n w 0
unfolding carried
carried_nothing n w = go (of_a_field n) (of_a_part n)
  where
    go : (p q : Bool) → cond p (refusal_at n w 0) (cond q (refusal_at n w 0) (refusal_at n w 0)) ≡ refusal_at n w 0
    go true q = refl
    go false true = refl
    go false false = refl
