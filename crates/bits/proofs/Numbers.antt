-- Bits of numbers: which part of a number a bit depends on, and the number that given digits spell.
use mathlib.Core.Path.{◌≡◌, sym, ap, ap₂, ◌∙◌}
use mathlib.Core.Logic.{◌⊎◌, inl, inr, ⊎_elim}
use Prim.Native.Nat.{ℕ, zero, suc, ◌+◌, ◌-◌, ◌*◌, ◌/◌, ◌%◌, ◌^◌, ◌≤◌, ◌<◌}
use native.Mathlib.Nat.{mod-one, div-eq_of_lt, lt_of_lt_of_le, pow-suc, not-suc-le-zero}
use native.Mathlib.Decide.{dec_lt}
use native.Mathlib.Omega.{arith}
use lib.Pow.{pow_mono, shr-shr, field, mod-mod-pow, mod-pow-add}
use Rattle.bits.specs.Bits.{spelled}

pub lt_or_ge : (n m : ℕ) → (n < m) ⊎ (m ≤ n)
lt_or_ge n m = go (dec_lt n m)
  where
    go : Dec (n < m) → (n < m) ⊎ (m ≤ n)
    go (yes h) = inl h
    go (no h) = inr (omega arith)

-- a bit below the t-th depends on the t low bits alone
pub same_low : (n m k t : ℕ) → k < t → n % 2 ^ t ≡ m % 2 ^ t → n / 2 ^ k % 2 ≡ m / 2 ^ k % 2
same_low n m k t h e = sym (field n 1 k) ∙ ap (λ (x : ℕ). x / 2 ^ k) (short n ∙ ap (λ (x : ℕ). x % 2 ^ (1 + k)) e ∙ sym (short m)) ∙ field m 1 k
  where
    whole : t - (1 + k) + (1 + k) ≡ t
    whole = omega arith

    short : (x : ℕ) → x % 2 ^ (1 + k) ≡ x % 2 ^ t % 2 ^ (1 + k)
    short x = sym (mod-mod-pow x (t - (1 + k)) (1 + k)) ∙ ap (λ (j : ℕ). x % 2 ^ j % 2 ^ (1 + k)) whole

-- a bit from the t-th on depends on what stands above the t low bits
pub same_high : (n m k t : ℕ) → t ≤ k → n / 2 ^ t ≡ m / 2 ^ t → n / 2 ^ k % 2 ≡ m / 2 ^ k % 2
same_high n m k t h e = ap (λ (x : ℕ). x % 2) (split n ∙ ap (λ (x : ℕ). x / 2 ^ (k - t)) e ∙ sym (split m))
  where
    whole : t + (k - t) ≡ k
    whole = omega arith

    split : (x : ℕ) → x / 2 ^ k ≡ x / 2 ^ t / 2 ^ (k - t)
    split x = ap (λ (j : ℕ). x / 2 ^ j) (sym whole) ∙ sym (shr-shr x t (k - t))

-- a bit from the t-th on of a number of t bits is 0
pub no_bit : (n k t : ℕ) → t ≤ k → n < 2 ^ t → n / 2 ^ k % 2 ≡ 0
no_bit n k t h l = ap (λ (x : ℕ). x % 2) (div-eq_of_lt (lt_of_lt_of_le l (pow_mono h)))

pub zero_bit : (k : ℕ) → 0 / 2 ^ k % 2 ≡ 0
zero_bit k = no_bit 0 k 0 (omega arith) (omega arith)

-- digits that are the bits of v spell its w low bits
pub spelled_of : (d : ℕ → ℕ) (w v : ℕ) → ((j : ℕ) → j < w → d j ≡ v / 2 ^ (w - suc j) % 2) → spelled d w ≡ v % 2 ^ w
unfolding spelled
spelled_of d zero v h = sym (mod-one v)
spelled_of d (suc w) v h =
    ap₂ (λ (m n : ℕ). m * 2 + n) (spelled_of d w (v / 2 ^ 1) above) last
    ∙ sym (mod-pow-add v w 1)
    ∙ ap (λ (n : ℕ). v % 2 ^ n) one_more
  where
    above : (j : ℕ) → j < w → d j ≡ v / 2 ^ 1 / 2 ^ (w - suc j) % 2
    above j l = h j (omega arith) ∙ ap (λ (n : ℕ). v / 2 ^ n % 2) (omega arith) ∙ ap (λ (n : ℕ). n % 2) (sym (shr-shr v 1 (w - suc j)))

    last : d w ≡ v % 2 ^ 1
    last = h w (omega arith) ∙ ap (λ (n : ℕ). v / 2 ^ n % 2) nought ∙ omega arith
      where
        nought : suc w - suc w ≡ 0
        nought = omega arith

    one_more : w + 1 ≡ suc w
    one_more = omega arith

module _ (d : ℕ → ℕ) (binary : (j : ℕ) → d j < 2) where
  pub spelled_lt : (w : ℕ) → spelled d w < 2 ^ w
  unfolding spelled
  spelled_lt zero = omega arith
  spelled_lt (suc w) = omega (arith, spelled_lt w, binary w, pow-suc 2 w)

  -- each digit is a bit of the number
  pub bit_spelled : (w j : ℕ) → j < w → spelled d w / 2 ^ (w - suc j) % 2 ≡ d j
  unfolding spelled
  bit_spelled zero j h = absurd (not-suc-le-zero h)
  bit_spelled (suc w) j h = ⊎_elim (λ l. early (bit_spelled w j l) l) (λ l. late l) (lt_or_ge j w)
    where
      early : spelled d w / 2 ^ (w - suc j) % 2 ≡ d j → j < w → (spelled d w * 2 + d w) / 2 ^ (suc w - suc j) % 2 ≡ d j
      early e l =
          ap (λ (n : ℕ). (spelled d w * 2 + d w) / 2 ^ n % 2) up
          ∙ ap (λ (n : ℕ). n % 2) (sym (shr-shr (spelled d w * 2 + d w) 1 (w - suc j)))
          ∙ ap (λ (n : ℕ). n / 2 ^ (w - suc j) % 2) half
          ∙ e
        where
          up : suc w - suc j ≡ 1 + (w - suc j)
          up = omega arith

          half : (spelled d w * 2 + d w) / 2 ^ 1 ≡ spelled d w
          half = omega (arith, binary w)

      late : w ≤ j → (spelled d w * 2 + d w) / 2 ^ (suc w - suc j) % 2 ≡ d j
      late l = ap (λ (n : ℕ). (spelled d w * 2 + d w) / 2 ^ n % 2) nought ∙ omega (arith, binary w) ∙ ap d here
        where
          nought : suc w - suc j ≡ 0
          nought = omega arith

          here : w ≡ j
          here = omega arith
