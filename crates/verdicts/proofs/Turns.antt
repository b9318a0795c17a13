-- What the loops keep: digits put from the last on, and spaced numbers put.
use Prim.Native.Nat.{ℕ, ◌+◌, ◌/◌, ◌%◌, ◌≤◌, ◌<◌}
use mathlib.Core.Path.{◌≡◌, refl, sym, ap, ◌∙◌}
use mathlib.Core.List.{List, [], ◌∷◌, ◌++◌, append_assoc, append-nil}
use native.Mathlib.Omega.{arith}
use lib.ListN.{length, take, get_or, set}
use Rattle.verdicts.specs.Decimal.{byte, decimal}
use Rattle.verdicts.specs.Printing.{spaced, put_at}
use Rattle.verdicts.proofs.Decimal.{by_size, decimal_last, decimal_step, length_last, length_step, length_some}
use Rattle.verdicts.proofs.Puts.{put_length, put_none, put_before, put_put}
use Rattle.verdicts.proofs.Printing.{spaced_more, spaced_longer, spaced_within, spaced_all, put_spaced_one}

-- the digits of n behind those of m are put, from k on; at the first place all of them are
pub record DigitsPut (out₀ : List ℕ) (at n : ℕ) (out : List ℕ) (k m : ℕ) : Type 0 where
  pub rest : List ℕ
  pub from : at ≤ k
  pub more : at < k → (decimal n ≡ decimal m ++ rest) × (k ≡ at + length (decimal m))
  pub all : k ≤ at → decimal n ≡ rest
  pub filled : out ≡ put_at out₀ k rest
  pub fits : k + length rest ≤ length out₀

module _ {out₀ : List ℕ} {at n : ℕ} (room : at + length (decimal n) ≤ length out₀) where
  pub digits_put_none : {k : ℕ} → k ≡ at + length (decimal n) → DigitsPut out₀ at n out₀ k n
  digits_put_none {k} e = record {
    rest = [];
    from = omega arith;
    more = λ h. (sym (append-nil (decimal n)), e);
    all = λ h. absurd (omega (arith, e, length_some n));
    filled = sym (put_none out₀ k);
    fits = omega arith;
  }

  -- one digit more, at the place j before k
  pub digits_put_more : {out : List ℕ} {k m d : ℕ} (j : ℕ) → at < k → k ≡ j + 1 → d ≡ byte (m % 10) → DigitsPut out₀ at n out k m
      → DigitsPut out₀ at n (set out j d) j (m / 10)
  digits_put_more {out} {k} {m} {d} j h l e c =
      let shown = (c.more h).0 in
      let here = (c.more h).1 in
      record {
        rest = d ∷ c.rest;
        from = omega arith;
        more = λ p.
            by_size m (λ q. absurd (omega (arith, here, length_last m q)))
            (λ q. (
              shown
                  ∙ ap (λ (t : List ℕ). t ++ c.rest) (decimal_step m q)
                  ∙ append_assoc (decimal (m / 10)) (byte (m % 10) ∷ []) c.rest
                  ∙ ap (λ (b : ℕ). decimal (m / 10) ++ (b ∷ c.rest)) (sym e),
              omega (arith, here, length_step m q),
            ));
        all = λ p.
            by_size m
            (λ q.
            shown
            ∙ ap (λ (t : List ℕ). t ++ c.rest) (decimal_last m q)
            ∙ ap (λ (b : ℕ). b ∷ c.rest) (ap byte {x = m} {y = m % 10} (omega arith) ∙ sym e))
            (λ q. absurd (omega (arith, here, length_step m q, length_some (m / 10))));
        filled = ap (λ (t : List ℕ). set t j d) (c.filled ∙ ap (λ (i : ℕ). put_at out₀ i c.rest) l)
            ∙ put_before out₀ j c.rest d (omega (arith, c.fits));
        fits = omega (arith, c.fits);
      }

  pub digits_put_all : {out : List ℕ} {k m : ℕ} → k ≤ at → DigitsPut out₀ at n out k m → out ≡ put_at out₀ at (decimal n)
  digits_put_all {out} {k} {m} h c =
      c.filled
      ∙ ap (put_at out₀ k) (sym (c.all h))
      ∙ ap (λ (j : ℕ). put_at out₀ j (decimal n)) {x = k} {y = at} (omega (arith, c.from))

-- the first i numbers are put, and k is the place behind them
pub record ListedNumbers (out₀ : List ℕ) (at : ℕ) (ns out : List ℕ) (k i : ℕ) : Type 0 where
  pub within : i ≤ length ns
  pub here : k ≡ at + length (spaced (take i ns))
  pub filled : out ≡ put_at out₀ at (spaced (take i ns))
  pub size : length out ≡ length out₀

pub listed_none : (out : List ℕ) (at : ℕ) (ns : List ℕ) → ListedNumbers out at ns out at 0
unfolding spaced
listed_none out at ns = record { within = omega arith; here = omega arith; filled = sym (put_none out at); size = refl }

module _ {out₀ : List ℕ} {at : ℕ} {ns : List ℕ} (room : at + length (spaced ns) ≤ length out₀) where
  -- one more number fits
  pub listed_room : {out : List ℕ} {k i : ℕ} → i < length ns → ListedNumbers out₀ at ns out k i
      → k + 1 + length (decimal (get_or ns i 0)) ≤ length out
  listed_room {out} {k} {i} h c =
      omega (arith, c.here, c.size, spaced_longer ns i h, spaced_within ns (i + 1))

  pub listed_more : {out out' : List ℕ} {k i r : ℕ} → i < length ns → ListedNumbers out₀ at ns out k i
      → r ≡ k + 1 + length (decimal (get_or ns i 0)) → out' ≡ put_at (set out k 32) (k + 1) (decimal (get_or ns i 0))
      → ListedNumbers out₀ at ns out' r (i + 1)
  listed_more {out} {out'} {k} {i} {r} h c e f =
      let n = get_or ns i 0 in
      let past = spaced (take i ns) in
      let longer = spaced_longer ns i h in
      let most = spaced_within ns (i + 1) in
      let done : out' ≡ put_at out₀ at (spaced (take (i + 1) ns)) =
      f
      ∙ put_spaced_one out k n (listed_room h c)
      ∙ ap (λ (t : List ℕ). put_at t k (32 ∷ decimal n)) c.filled
      ∙ ap (λ (j : ℕ). put_at (put_at out₀ at past) j (32 ∷ decimal n)) c.here
      ∙ put_put out₀ at past (32 ∷ decimal n) (omega (arith, longer, most))
      ∙ ap (put_at out₀ at) (sym (spaced_more ns i h))
      in
      record {
        within = omega arith;
        here = omega (arith, e, c.here, longer);
        filled = done;
        size = ap length done ∙ put_length out₀ at (spaced (take (i + 1) ns)) (omega (arith, most));
      }

  pub listed_all : {out : List ℕ} {k i : ℕ} → length ns ≤ i → ListedNumbers out₀ at ns out k i → out ≡ put_at out₀ at (spaced ns)
  listed_all {out} {k} {i} h c = c.filled ∙ ap (put_at out₀ at) (spaced_all ns i c.within h)

  pub listed_end : {out : List ℕ} {k i : ℕ} → length ns ≤ i → ListedNumbers out₀ at ns out k i → k ≡ at + length (spaced ns)
  listed_end {out} {k} {i} h c = c.here ∙ ap (λ (t : List ℕ). at + length t) (spaced_all ns i c.within h)
