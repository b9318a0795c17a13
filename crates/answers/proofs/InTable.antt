-- Laws of the table of refusals: rows that are listed, that a refusal carries only what its number says, the refusals 1 to 8, and those
-- of a call.
use Prim.Native.Nat.{ℕ, zero, suc, ◌≤◌}
use mathlib.Core.Path.{◌≡◌, refl, sym, ◌∙◌, subst}
use mathlib.Core.Logic.{inl, inr}
use mathlib.Core.List.{List, [], ◌∷◌, ◌++◌}
use mathlib.Core.Option.{some, some-injective, none-ne-some}
use mathlib.Core.Bool.{true}
use native.Mathlib.Omega.{arith}
use borrow.Author.Tests.{ltb-true}
use lib.Dec.{ltb}
use lib.ListN.{get_elem?}
use Rattle.patterns.specs.Every.{Every}
use Rattle.patterns.specs.Reason.{Reason, neither_place, call_place}
use Rattle.answers.specs.Carried.{refusal_at, Carries}
use Rattle.answers.proofs.Carrying.{carried_field, carried_part, carried_nothing}
use Rattle.answers.specs.InTable.{Column, only, span, Allows, Row, row, InRow, Among, refusal_rows, InTable}

-- ---- rows

pub among_at : (k : ℕ) (rows : List Row) (q : Row) (r : Reason) → get_elem? rows k ≡ some q → InRow q r → Among rows r
unfolding Among
among_at k [] q r e h = absurd (none-ne-some q e)
among_at zero (p ∷ rows) q r e h = inl (subst (λ x. InRow x r) (sym (some-injective p q e)) h)
among_at (suc k) (p ∷ rows) q r e h = inr (among_at k rows q r e h)

pub among_first : (ps qs : List Row) (r : Reason) → Among ps r → Among (ps ++ qs) r
unfolding Among
among_first [] qs r h = absurd h
among_first (p ∷ ps) qs r (inl h) = inl h
among_first (p ∷ ps) qs r (inr h) = inr (among_first ps qs r h)

pub among_rest : (ps qs : List Row) (r : Reason) → Among qs r → Among (ps ++ qs) r
unfolding Among
among_rest [] qs r h = h
among_rest (p ∷ ps) qs r h = inr (among_rest ps qs r h)

-- what every row shows of its refusals, all rows show
pub among_shows : (P : Reason → Type 0) (rows : List Row) → Every (λ q. (r : Reason) → InRow q r → P r) rows
    → (r : Reason) → Among rows r → P r
unfolding Among Every
among_shows P [] f r h = absurd h
among_shows P (q ∷ rows) f r (inl h) = f.0 r h
among_shows P (q ∷ rows) f r (inr h) = among_shows P rows f.1 r h

-- ---- what a refusal carries

bare : {n w : Column} (r : Reason) → InRow (row n w (only 0) (only 0)) r → Carries r
unfolding Allows Carries
bare r h = rw (h.a, h.b) (carried_nothing r.number r.w)

placed : {w a : Column} (r : Reason) → InRow (row (span 3 7) w a (only 0)) r → Carries r
unfolding Allows Carries
placed r h =
    carried_field r.w r.a r.b h.number.0 (omega (arith, h.number.1))
    ∙ λ i. record { number = r.number; w = r.w; a = r.a; b = sym h.b i }

-- 9 to 16
parted : {n : ℕ} {w a b : Column} → ltb 8 n ≡ true → ltb n 17 ≡ true → (r : Reason) → InRow (row (only n) w a b) r → Carries r
unfolding Allows Carries
parted {n} e f r h =
    let l = ltb-true 8 n e in
    let m = ltb-true n 17 f in
    let q = h.number in
    carried_part r.w r.a r.b (omega arith) (omega arith)

-- A refusal that is in the table carries what its number says, and nothing else.
pub in_table_carries : (r : Reason) → InTable r → Carries r
unfolding InTable Every
in_table_carries =
    among_shows Carries refusal_rows (
      bare,
      (bare, (placed, (bare, (bare, (parted refl refl, (parted refl refl, (parted refl refl, (parted refl refl, (parted refl refl, (parted refl refl, (parted refl refl, (parted refl refl, (parted refl refl, (parted refl refl, (parted refl refl, (parted refl refl, (parted refl refl, (parted refl refl, (parted refl refl, (placed, (bare, tt))))))))))))))))))))),
    )

-- ---- the refusals 1 to 8

pub short_table_in_table : InTable (refusal_at 1 neither_place 0)
unfolding InTable Allows
short_table_in_table = among_at 0 refusal_rows _ _ refl (record { number = refl; w = refl; a = refl; b = refl })

pub long_file_in_table : (w : ℕ) → w ≤ 1 → InTable (refusal_at 2 w 0)
unfolding InTable Allows
long_file_in_table w f = among_at 1 refusal_rows _ _ refl (record { number = refl; w = (omega arith, f); a = refl; b = refl })

pub field_in_table : (number w a : ℕ) → 3 ≤ number → number ≤ 7 → w ≤ 1 → InTable (refusal_at number w a)
unfolding InTable Allows
field_in_table number w a l m f =
    among_at 2 refusal_rows _ _ refl (record { number = (l, m); w = (omega arith, f); a = tt; b = refl })

pub no_room_in_table : (w : ℕ) → w ≤ 1 → InTable (refusal_at 8 w 0)
unfolding InTable Allows
no_room_in_table w f = among_at 3 refusal_rows _ _ refl (record { number = refl; w = (omega arith, f); a = refl; b = refl })

pub unframed_in_table : (number : ℕ) → 2 ≤ number → number ≤ 3 → InTable (refusal_at number neither_place 0)
unfolding InTable Allows
unframed_in_table number l m = among_at 4 refusal_rows _ _ refl (record { number = (l, m); w = refl; a = refl; b = refl })

-- ---- the refusals of a call

pub call_in_table : (number a : ℕ) → 3 ≤ number → number ≤ 7 → InTable (refusal_at number call_place a)
unfolding InTable Allows
call_in_table number a l m = among_at 20 refusal_rows _ _ refl (record { number = (l, m); w = refl; a = tt; b = refl })

pub uncovered_in_table : InTable (refusal_at 17 neither_place 0)
unfolding InTable Allows
uncovered_in_table = among_at 21 refusal_rows _ _ refl (record { number = refl; w = refl; a = refl; b = refl })
