-- Spaced numbers, one more and all of them, and a whole line.
use Prim.Native.Nat.{ℕ, suc, ◌+◌, ◌*◌, ◌≤◌, ◌<◌}
use mathlib.Core.Path.{◌≡◌, refl, sym, ap, ◌∙◌}
use mathlib.Core.List.{List, [], ◌∷◌, ◌++◌, append_assoc, append-nil}
use native.Mathlib.Omega.{arith}
use lib.ListN.{length, take, drop, get_or, set, length-append, length-set, take-append-drop}
use lib.Seq.{take-suc, take-length}
use borrow.Author.Tests.{lt-ltb, le-ltb}
use Rattle.std.specs.List.{sum_by}
use Rattle.std.proofs.lemmas.List.Sums.{sum_by-cons}
use Rattle.layout.specs.Answers.{gives, output}
use Rattle.verdicts.specs.Decimal.{decimal}
use Rattle.verdicts.specs.Printing.{spaced, sentence, put_at, written_length, Prints}
use Rattle.verdicts.proofs.Decimal.{length_twenty}
use Rattle.verdicts.proofs.Puts.{put_length, put_front, put_one, put_put, put_more}

abbrev spaced_one : ℕ → List ℕ
spaced_one n = 32 ∷ decimal n

pub spaced_append : (l m : List ℕ) → spaced (l ++ m) ≡ spaced l ++ spaced m
unfolding spaced
spaced_append [] m = refl
spaced_append (n ∷ l) m = ap (λ (t : List ℕ). spaced_one n ++ t) (spaced_append l m) ∙ sym (append_assoc (spaced_one n) (spaced l) (spaced m))

-- their length
pub spaced_sum : (ns : List ℕ) → sum_by (λ n. 1 + length (decimal n)) ns ≡ length (spaced ns)
unfolding spaced
spaced_sum [] = refl
spaced_sum (n ∷ ns) =
    sum_by-cons (λ n. 1 + length (decimal n)) n ns
    ∙ ap (λ (k : ℕ). 1 + length (decimal n) + k) (spaced_sum ns)
    ∙ omega (arith, length-append (spaced_one n) (spaced ns))

pub spaced_short : (ns : List ℕ) → ((i : ℕ) → get_or ns i 0 < 18446744073709551616) → length (spaced ns) ≤ 21 * length ns
unfolding spaced
spaced_short [] f = omega arith
spaced_short (n ∷ ns) f =
    omega (arith, length-append (spaced_one n) (spaced ns), length_twenty n (f 0), spaced_short ns (λ i. f (suc i)))

-- one number more
pub spaced_more : (l : List ℕ) (i : ℕ) → i < length l → spaced (take (i + 1) l) ≡ spaced (take i l) ++ (32 ∷ decimal (get_or l i 0))
unfolding spaced
spaced_more l i h =
    ap (λ (n : ℕ). spaced (take n l)) {x = i + 1} {y = suc i} (omega arith)
    ∙ ap spaced (take-suc l i 0 h)
    ∙ spaced_append (take i l) (get_or l i 0 ∷ [])
    ∙ ap (λ (t : List ℕ). spaced (take i l) ++ t) (append-nil (spaced_one (get_or l i 0)))

pub spaced_longer : (l : List ℕ) (i : ℕ) → i < length l
    → length (spaced (take (i + 1) l)) ≡ length (spaced (take i l)) + (1 + length (decimal (get_or l i 0)))
spaced_longer l i h =
    ap length (spaced_more l i h) ∙ length-append (spaced (take i l)) (spaced_one (get_or l i 0)) ∙ omega arith

-- some of them are no longer than all
pub spaced_within : (l : List ℕ) (i : ℕ) → length (spaced (take i l)) ≤ length (spaced l)
spaced_within l i =
    omega (
      arith,
      ap (λ (t : List ℕ). length (spaced t)) (take-append-drop i l),
      ap length (spaced_append (take i l) (drop i l)),
      length-append (spaced (take i l)) (spaced (drop i l)),
    )

pub spaced_all : (l : List ℕ) (i : ℕ) → i ≤ length l → length l ≤ i → spaced (take i l) ≡ spaced l
spaced_all l i h k =
    ap (λ (n : ℕ). spaced (take n l)) {x = i} {y = length l} (omega arith) ∙ ap spaced (take-length l)

-- a space and then a number
pub put_spaced_one : (out : List ℕ) (k n : ℕ) → k + 1 + length (decimal n) ≤ length out
    → put_at (set out k 32) (k + 1) (decimal n) ≡ put_at out k (32 ∷ decimal n)
put_spaced_one out k n h =
    ap (λ (t : List ℕ). put_at t (k + 1) (decimal n)) (put_one out k 32 (omega arith))
    ∙ put_put out k (32 ∷ []) (decimal n) (omega arith)

-- ---- a whole line

pub sentence_length : (word ns : List ℕ) → length (sentence word ns) ≡ length word + length (spaced ns) + 1
unfolding sentence
sentence_length word ns =
    omega (arith, length-append word (spaced ns ++ (10 ∷ [])), length-append (spaced ns) (10 ∷ []))

module _ (word ns out : List ℕ) where
  -- a line that does not fit
  pub none_answered : length out < length (sentence word ns) → 0 ≡ written_length (sentence word ns) (length out)
  unfolding written_length
  none_answered h = rw (lt-ltb _ _ h)

  pub none_put : length out < length (sentence word ns) → out ≡ output (gives (sentence word ns)) out
  unfolding output
  none_put h = rw (lt-ltb _ _ h)

  -- a line that fits
  pub all_answered : length (sentence word ns) ≤ length out
      → length word + length (spaced ns) + 1 ≡ written_length (sentence word ns) (length out)
  unfolding written_length
  all_answered h = rw (le-ltb _ _ h) (sym (sentence_length word ns))

  -- a word, the spaced numbers behind it, and the newline
  line_put : length (sentence word ns) ≤ length out
      → set (put_at (put_at out 0 word) (length word) (spaced ns)) (length word + length (spaced ns)) 10 ≡ put_at out 0 (sentence word ns)
  unfolding sentence
  line_put h =
      let size = sentence_length word ns in
      let both = length-append word (spaced ns) in
      let end : length word + length (spaced ns) ≡ 0 + length (word ++ spaced ns) = omega (arith, both) in
      ap (λ (i : ℕ). set (put_at (put_at out 0 word) i (spaced ns)) (length word + length (spaced ns)) 10)
      {x = length word}
      {y = 0 + length word}
      (omega arith)
      ∙ ap (λ (t : List ℕ). set t (length word + length (spaced ns)) 10)
      (put_put out 0 word (spaced ns) (omega (arith, size)))
      ∙ ap (λ (i : ℕ). set (put_at out 0 (word ++ spaced ns)) i 10) end
      ∙ put_more out 0 (word ++ spaced ns) 10 (omega (arith, size, both))
      ∙ ap (put_at out 0) (append_assoc word (spaced ns) (10 ∷ []))

  pub all_put : length (sentence word ns) ≤ length out
      → set (put_at (put_at out 0 word) (length word) (spaced ns)) (length word + length (spaced ns)) 10
      ≡ output (gives (sentence word ns)) out
  unfolding output
  all_put h = line_put h ∙ rw (le-ltb _ _ h) (put_front out (sentence word ns))

  pub sentence_none : {n : ℕ} → (n ≡ length (spaced ns)) × (n ≤ 84) → length word ≤ 6 → length out < length word + n + 1
      → Prints (sentence word ns) out 0 out
  sentence_none {n} e few h =
      let size = sentence_length word ns in
      let long : length out < length (sentence word ns) = omega arith in
      record { answered = none_answered long; filled = none_put long; short = omega arith }

  pub sentence_all : {n k : ℕ} {out₁ out₂ : List ℕ} → (n ≡ length (spaced ns)) × (n ≤ 84) → length word ≤ 6
      → length word + n + 1 ≤ length out
      → out₁ ≡ put_at out 0 word → k ≡ length word + length (spaced ns) → out₂ ≡ put_at out₁ (length word) (spaced ns)
      → Prints (sentence word ns) out (length word + n + 1) (set out₂ k 10)
  sentence_all {n} {k} {out₁} {out₂} e few h first end second =
      let size = sentence_length word ns in
      let fits : length (sentence word ns) ≤ length out = omega arith in
      record {
        answered = ap (λ (i : ℕ). length word + i + 1) e.0 ∙ all_answered fits;
        filled = ap (λ (t : List ℕ). set t k 10) (second ∙ ap (λ (t : List ℕ). put_at t (length word) (spaced ns)) first)
            ∙ ap (λ (i : ℕ). set (put_at (put_at out 0 word) (length word) (spaced ns)) i 10) end
            ∙ all_put fits;
        short = omega arith;
      }

  pub sentence_size : {n : ℕ} (k d : ℕ) {out₁ out₂ : List ℕ} → n ≡ length (spaced ns) → length word + n + 1 ≤ length out
      → out₁ ≡ put_at out 0 word → out₂ ≡ put_at out₁ (length word) (spaced ns) → length (set out₂ k d) ≡ length out
  sentence_size {n} k d {out₁} {out₂} e h first second =
      let front : length out₁ ≡ length out = ap length first ∙ put_length out 0 word (omega arith) in
      length-set out₂ k d
      ∙ ap length second
      ∙ put_length out₁ (length word) (spaced ns) (omega (arith, front))
      ∙ front
