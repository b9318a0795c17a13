-- Bytes put at a place: one more behind or before them, and two runs of them.
use Prim.Native.Nat.{ℕ, suc, ◌+◌, ◌≤◌, ◌<◌}
use mathlib.Core.Path.{◌≡◌, sym, ap, ◌∙◌}
use mathlib.Core.List.{List, [], ◌∷◌, ◌++◌, append_assoc}
use native.Mathlib.Omega.{arith}
use lib.ListN.{length, take, drop, get_or, set, length-append, length-drop, take-append-drop}
use lib.Seq.{take-suc, set_at, set_split, take_at, drop-append-add, drop-drop, length-take-le}
use Rattle.verdicts.specs.Printing.{put_at}

drop_to : (out : List ℕ) (n m : ℕ) → n ≡ m → drop n out ≡ drop m out
drop_to out n m e = ap (λ (k : ℕ). drop k out) e

pub put_length : (out : List ℕ) (at : ℕ) (l : List ℕ) → at + length l ≤ length out → length (put_at out at l) ≡ length out
unfolding put_at
put_length out at l h =
    simp (length-append, length-drop, length-take-le at out (omega arith)) (omega arith)

pub put_none : (out : List ℕ) (at : ℕ) → put_at out at [] ≡ out
unfolding put_at
put_none out at =
    ap (λ (t : List ℕ). take at out ++ t) (drop_to out (at + 0) at (omega arith)) ∙ take-append-drop at out

-- at the front
pub put_front : (out l : List ℕ) → put_at out 0 l ≡ l ++ drop (length l) out
unfolding put_at
put_front out l = ap (λ (t : List ℕ). l ++ t) (drop_to out (0 + length l) (length l) (omega arith))

-- one byte
pub put_one : (out : List ℕ) (at d : ℕ) → at < length out → set out at d ≡ put_at out at (d ∷ [])
unfolding put_at
put_one out at d h = set_split out at d h ∙ ap (λ (t : List ℕ). take at out ++ (d ∷ t)) (drop_to out (suc at) (at + 1) (omega arith))

-- one byte more, before them
pub put_before : (out : List ℕ) (j : ℕ) (l : List ℕ) (d : ℕ) → j + 1 + length l ≤ length out
    → set (put_at out (j + 1) l) j d ≡ put_at out j (d ∷ l)
unfolding put_at
put_before out j l d h =
    ap (λ (t : List ℕ). set (t ++ (l ++ drop (j + 1 + length l) out)) j d)
    (ap (λ (n : ℕ). take n out) {x = j + 1} {y = suc j} (omega arith) ∙ take-suc out j 0 (omega arith))
    ∙ ap (λ (t : List ℕ). set t j d) (append_assoc (take j out) (get_or out j 0 ∷ []) (l ++ drop (j + 1 + length l) out))
    ∙ set_at (take j out) (get_or out j 0) (l ++ drop (j + 1 + length l) out) d j (length-take-le j out (omega arith))
    ∙ ap (λ (t : List ℕ). take j out ++ (d ∷ (l ++ t))) (drop_to out (j + 1 + length l) (j + suc (length l)) (omega arith))

-- some bytes more, behind them
pub put_put : (out : List ℕ) (at : ℕ) (l m : List ℕ) → at + length l + length m ≤ length out
    → put_at (put_at out at l) (at + length l) m ≡ put_at out at (l ++ m)
unfolding put_at
put_put out at l m h =
    ap (λ (t : List ℕ). take (at + length l) t ++ (m ++ drop (at + length l + length m) t)) (sym (append_assoc (take at out) l rest))
    ∙ ap (λ (t : List ℕ). t ++ (m ++ drop (at + length l + length m) (head ++ rest))) (take_at head rest (at + length l) long)
    ∙ ap (λ (t : List ℕ). head ++ (m ++ t)) last
    ∙ append_assoc (take at out) l (m ++ drop (at + length (l ++ m)) out)
    ∙ ap (λ (t : List ℕ). take at out ++ t) (sym (append_assoc l m (drop (at + length (l ++ m)) out)))
  where
    head : List ℕ
    head = take at out ++ l

    rest : List ℕ
    rest = drop (at + length l) out

    long : length head ≡ at + length l
    long = length-append (take at out) l ∙ ap (λ (n : ℕ). n + length l) (length-take-le at out (omega arith))

    last : drop (at + length l + length m) (head ++ rest) ≡ drop (at + length (l ++ m)) out
    last =
        ap (λ (n : ℕ). drop (n + length m) (head ++ rest)) (sym long)
        ∙ drop-append-add head rest (length m)
        ∙ drop-drop (length m) (at + length l) out
        ∙ drop_to out (at + length l + length m) (at + length (l ++ m)) (omega (arith, length-append l m))

-- one byte more, behind them
pub put_more : (out : List ℕ) (at : ℕ) (l : List ℕ) (d : ℕ) → at + length l < length out
    → set (put_at out at l) (at + length l) d ≡ put_at out at (l ++ (d ∷ []))
put_more out at l d h =
    put_one (put_at out at l) (at + length l) d (omega (arith, put_length out at l (omega arith)))
    ∙ put_put out at l (d ∷ []) (omega arith)
