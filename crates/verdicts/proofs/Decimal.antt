-- The decimal of a number: its last digit, its length, its value, and that no zero leads it.
use Prim.Native.Nat.{ℕ, zero, suc, ◌+◌, ◌-◌, ◌*◌, ◌/◌, ◌%◌, ◌^◌, ◌≤◌, ◌<◌}
use mathlib.Core.Path.{◌≡◌, refl, sym, ap, ◌∙◌}
use mathlib.Core.List.{List, [], ◌∷◌, ◌++◌}
use native.Mathlib.Nat.{div-lt_iff_lt-mul, pow-suc}
use native.Mathlib.Omega.{arith}
use native.Mathlib.Decide.{dec_le}
use lib.ListN.{length, get_or, length-append, get_or-append}
use borrow.Author.Tests.{lt-ltb, le-ltb}
use Rattle.patterns.specs.Every.{Every}
use Rattle.patterns.proofs.Every.{every_append}
use Rattle.verdicts.specs.Decimal.{byte, decimal_within, decimal, read_on}

within_last : (f n : ℕ) → n ≤ 9 → decimal_within f n ≡ byte n ∷ []
unfolding decimal_within
within_last zero n h = refl
within_last (suc f) n h = rw (le-ltb 9 n h)

within_step : (f n : ℕ) → 9 < n → decimal_within (suc f) n ≡ decimal_within f (n / 10) ++ (byte (n % 10) ∷ [])
unfolding decimal_within
within_step f n h = rw (lt-ltb 9 n h)

-- a number has one digit or more
pub by_size : {A : Type 0} (n : ℕ) → (n ≤ 9 → A) → (9 < n → A) → A
by_size {A} n one more = go (dec_le n 9)
  where
    go : Dec (n ≤ 9) → A
    go (yes p) = one p
    go (no p) = more (omega arith)

-- any number of steps that is at least n will do
enough : (f g n : ℕ) → n ≤ f → n ≤ g → decimal_within f n ≡ decimal_within g n
enough zero g n h k = within_last 0 n (omega arith) ∙ sym (within_last g n (omega arith))
enough (suc f) zero n h k = within_last (suc f) n (omega arith) ∙ sym (within_last 0 n (omega arith))
enough (suc f) (suc g) n h k =
    by_size n (λ p. within_last (suc f) n p ∙ sym (within_last (suc g) n p))
    (λ p.
    within_step f n p
    ∙ ap (λ (l : List ℕ). l ++ (byte (n % 10) ∷ [])) (enough f g (n / 10) (omega arith) (omega arith))
    ∙ sym (within_step g n p))

pub decimal_last : (n : ℕ) → n ≤ 9 → decimal n ≡ byte n ∷ []
unfolding decimal
decimal_last n h = within_last n n h

pub decimal_step : (n : ℕ) → 9 < n → decimal n ≡ decimal (n / 10) ++ (byte (n % 10) ∷ [])
unfolding decimal
decimal_step n h =
    enough n (suc n) n (omega arith) (omega arith)
    ∙ within_step n n h
    ∙ ap (λ (l : List ℕ). l ++ (byte (n % 10) ∷ [])) (enough n (n / 10) (n / 10) (omega arith) (omega arith))

-- what holds of one digit, and with a tenth of its number, holds of every number
pub by_digits : (P : ℕ → Type 0) → ((n : ℕ) → n ≤ 9 → P n) → ((n : ℕ) → 9 < n → P (n / 10) → P n) → (n : ℕ) → P n
by_digits P last step n = go n n (omega arith)
  where
    go : (f m : ℕ) → m ≤ f → P m
    go zero m h = last m (omega arith)
    go (suc f) m h = by_size m (last m) (λ p. step m p (go f (m / 10) (omega arith)))

-- ---- its length

pub length_last : (n : ℕ) → n ≤ 9 → length (decimal n) ≡ 1
length_last n h = ap length (decimal_last n h)

pub length_step : (n : ℕ) → 9 < n → length (decimal n) ≡ length (decimal (n / 10)) + 1
length_step n h = ap length (decimal_step n h) ∙ length-append (decimal (n / 10)) (byte (n % 10) ∷ [])

pub length_some : (n : ℕ) → 0 < length (decimal n)
length_some =
    by_digits (λ n. 0 < length (decimal n)) (λ n h. omega (arith, length_last n h))
    (λ n h p. omega (arith, length_step n h))

power_some : (k : ℕ) → 0 < 10 ^ k
power_some zero = omega arith
power_some (suc k) = rw pow-suc (omega (arith, power_some k))

pub length_most : (k n : ℕ) → n < 10 ^ suc k → length (decimal n) ≤ suc k
length_most zero n h = omega (arith, length_last n (omega arith))
length_most (suc k) n h =
    by_size n (λ p. omega (arith, length_last n p))
    (λ p.
    let less : n < 10 ^ suc k * 10 = rw pow-suc at h in
    let tenth = length_most k (n / 10) ((div-lt_iff_lt-mul (omega arith)).1 less) in
    omega (arith, tenth, length_step n p))

-- between two powers of ten
pub length_between : (k n : ℕ) → 10 ^ k ≤ n → n < 10 * 10 ^ k → length (decimal n) ≡ k + 1
length_between zero n h g = length_last n (omega arith)
length_between (suc k) n h g =
    let low : 10 ^ k * 10 ≤ n = rw pow-suc at h in
    let high : n < 10 * (10 ^ k * 10) = rw pow-suc at g in
    omega (arith, length_step n (omega (arith, low, power_some k)), length_between k (n / 10) (omega (arith, low)) (omega (arith, high)))

-- a `usize` has at most 20 digits
pub length_twenty : (n : ℕ) → n < 18446744073709551616 → length (decimal n) ≤ 20
length_twenty n h = length_most 19 n (omega arith)

-- ---- its value

read_append : (a : ℕ) (l : List ℕ) (d : ℕ) → read_on a (l ++ (d ∷ [])) ≡ 10 * read_on a l + (d - 48)
unfolding read_on
read_append a [] d = refl
read_append a (x ∷ l) d = read_append (10 * a + (x - 48)) l d

-- the decimal read back is the number
pub decimal_read : (n : ℕ) → read_on 0 (decimal n) ≡ n
unfolding read_on
decimal_read =
    by_digits (λ n. read_on 0 (decimal n) ≡ n) (λ n h. ap (read_on 0) (decimal_last n h) ∙ omega arith)
    (λ n h p.
    ap (read_on 0) (decimal_step n h) ∙ read_append 0 (decimal (n / 10)) (byte (n % 10)) ∙ omega (arith, p))

-- so two numbers with one decimal are one number
pub decimal_tells : (n m : ℕ) → decimal n ≡ decimal m → n ≡ m
decimal_tells n m e = sym (decimal_read n) ∙ ap (read_on 0) e ∙ decimal_read m

-- ---- its bytes

-- a first byte "0" is there for the number 0 alone
pub decimal_first : (n : ℕ) → get_or (decimal n) 0 0 ≡ 48 → n ≡ 0
decimal_first =
    by_digits (λ n. get_or (decimal n) 0 0 ≡ 48 → n ≡ 0)
    (λ n h e. omega (arith, sym (ap (λ (l : List ℕ). get_or l 0 0) (decimal_last n h)) ∙ e))
    (λ n h p e.
    omega (
      arith,
      p
          (sym (get_or-append (decimal (n / 10)) (byte (n % 10) ∷ []) 0 0 (length_some (n / 10)))
          ∙ sym (ap (λ (l : List ℕ). get_or l 0 0) (decimal_step n h)) ∙ e),
    ))

abbrev pub IsDigit : ℕ → Type 0
IsDigit d = (48 ≤ d) × (d ≤ 57)

pub decimal_digits : (n : ℕ) → Every IsDigit (decimal n)
unfolding Every
decimal_digits =
    by_digits (λ n. Every IsDigit (decimal n)) (λ n h. rw (decimal_last n h) ((omega arith, omega arith), tt))
    (λ n h p. rw (decimal_step n h) (every_append IsDigit (decimal (n / 10)) (byte (n % 10) ∷ []) p ((omega arith, omega arith), tt)))
