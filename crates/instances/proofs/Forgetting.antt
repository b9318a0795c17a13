-- The 64 words of a filling cleared.
use Prim.Native.Nat.{ℕ, ◌+◌, ◌-◌, ◌≤◌, ◌<◌}
use mathlib.Core.Path.{◌≡◌, ap, ◌∙◌}
use mathlib.Core.List.{List, ◌++◌}
use native.Mathlib.Decide.{dec_lt}
use native.Mathlib.Omega.{arith}
use borrow.Author.Tests.{lt-ltb}
use borrow.Rule.Slice.PartMut.{put_mid}
use lib.ListN.{length, get_or, take, drop, replicate, length-append, length-drop, length-replicate, get_or-replicate, get_or-append}
use Rattle.std.proofs.lemmas.List.{get_or-append_right, get_or-take, get_or-drop, length-take-le}
use Rattle.instances.specs.Fillings.{entry}
use Rattle.instances.specs.Listings.{Forgets}
use Rattle.instances.proofs.Entries.{entry_past}

-- a part of a list replaced by another that is as long
module _ (w ys : List ℕ) (a k : ℕ) (room : a + k ≤ length w) (whole : length ys ≡ k) where
  front : length (take a w) ≡ a
  front = length-take-le a w (omega arith)

  replaced_size : length (put_mid a k w ys) ≡ length w
  replaced_size = omega
      (arith, length-append (take a w) (ys ++ drop k (drop a w)), length-append ys (drop k (drop a w)), length-drop k (drop a w), length-drop a w, front)

  replaced_low : (i : ℕ) → i < a → get_or (put_mid a k w ys) i 0 ≡ get_or w i 0
  replaced_low i l = get_or-append (take a w) _ 0 i (omega (arith, front)) ∙ get_or-take a w i 0 l

  replaced_here : (i : ℕ) → i < k → get_or (put_mid a k w ys) (a + i) 0 ≡ get_or ys i 0
  replaced_here i l =
      let down : a + i - a ≡ i = omega arith in
      get_or-append_right (take a w) _ a (a + i) 0 front (omega arith)
      ∙ ap (λ j. get_or (ys ++ drop k (drop a w)) j 0) down
      ∙ get_or-append ys _ 0 i (omega (arith, whole))

  replaced_high : (i : ℕ) → a + k ≤ i → get_or (put_mid a k w ys) i 0 ≡ get_or w i 0
  replaced_high i l =
      let back : a + (k + (i - a - k)) ≡ i = omega arith in
      get_or-append_right (take a w) _ a i 0 front (omega arith)
      ∙ get_or-append_right ys _ k (i - a) 0 whole (omega arith)
      ∙ get_or-drop k (drop a w) (i - a - k) 0
      ∙ get_or-drop a w (k + (i - a - k)) 0
      ∙ ap (λ j. get_or w j 0) back

-- where they became 0
pub forgot : {w ys : List ℕ} (fills m : ℕ) → m ≡ 64 → fills + 64 ≤ length w → ys ≡ replicate (length (take m (drop fills w))) 0 → Forgets fills w (put_mid fills m w ys)
unfolding entry
forgot {w} {ys} fills m e room zeros = record {
  none = λ x. go x (dec_lt x 64);
  kept = record {
    size = replaced_size w ys fills m fits all;
    low = λ k l. replaced_low w ys fills m fits all k l;
    high = λ k l. replaced_high w ys fills m fits all k (omega arith);
  };
}
  where
    fits : fills + m ≤ length w
    fits = omega arith

    many : length (take m (drop fills w)) ≡ m
    many = length-take-le m (drop fills w) (omega (arith, length-drop fills w))

    all : length ys ≡ m
    all = ap length zeros ∙ length-replicate {A = ℕ} _ 0 ∙ many

    go : (x : ℕ) → Dec (x < 64) → entry (put_mid fills m w ys) fills x ≡ 0
    go x (yes l) = rw (lt-ltb x 64 l)
        (replaced_here w ys fills m fits all x (omega arith) ∙ ap (λ s. get_or s x 0) zeros ∙ get_or-replicate _ x 0 0 (omega (arith, many)))
    go x (no l) = entry_past _ fills x (omega arith)
