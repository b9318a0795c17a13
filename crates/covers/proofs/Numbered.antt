-- Of all refusals only a short work table's is 1, and only that of a call that no index covers is 17; each is in the table of refusals.
use Prim.Native.Nat.{ℕ}
use mathlib.Core.Logic.{◌↔◌, ◌≢◌}
use mathlib.Core.Path.{◌≡◌, refl, sym, ap, subst}
use mathlib.Core.List.{List}
use native.Mathlib.Omega.{arith}
use lib.ListN.{length, replicate}
use Rattle.answers.specs.Carried.{refusal_at}
use Rattle.answers.specs.Numbers.{denied}
use Rattle.answers.specs.InTable.{InTable}
use Rattle.answers.proofs.InTable.{uncovered_in_table}
use Rattle.bits.specs.Bits.{Bytes}
use Rattle.patterns.specs.Reason.{Reason, neither_place}
use Rattle.layout.proofs.FirstFaults.{call_first_fault}
use Rattle.verdicts.specs.Judging.{work_after}
use Rattle.verdicts.specs.Demands.{FirstRefusal, short_table, long_book, long_certificate, bad_book, bad_certificate, broken_check}
use Rattle.verdicts.proofs.Demands.{first_refused}
use Rattle.verdicts.proofs.AnsweredTable.{call_in_table}
use Rattle.verdicts.proofs.JudgedTable.{judging_in_table}
use Rattle.verdicts.proofs.WorkTables.{broken_inside, work_kept, work_cleared}
use Rattle.covers.specs.Asking.{not_covered, asking}
use Rattle.covers.specs.Covered.{Uncovered, FirstDenial, not_accepted, bad_call, none_covers}
use Rattle.covers.proofs.Layers.{verdict_refused}
use Rattle.covers.proofs.Exactly.{denies_exactly_when}

numbers : {r q : Reason} → r ≡ q → r.number ≡ q.number
numbers e = ap (λ (t : Reason). t.number) e

ws : {r q : Reason} → r ≡ q → r.w ≡ q.w
ws e = ap (λ (t : Reason). t.w) e

-- the judge gives no 17
judge_never : {book certificate : List ℕ} {size : ℕ} {r : Reason} → FirstRefusal book certificate size r → r ≢ not_covered
judge_never (short_table h e) q = omega (arith, numbers e, numbers q)
judge_never (long_book t h e) q = omega (arith, numbers e, numbers q)
judge_never (long_certificate t n h e) q = omega (arith, numbers e, numbers q)
judge_never (bad_book t n m number place f e) q = omega (arith, ws e, ws q)
judge_never (bad_certificate t b f m number place g e) q = omega (arith, ws e, ws q)
judge_never (broken_check t b f K g e) q = omega (arith, broken_inside b.rules K _ e, ws q)

module _ (book certificate call : List ℕ) (is-book : Bytes book) (is-certificate : Bytes certificate) (is_bytes : Bytes call) where
  -- 17 is given exactly if the certificate is accepted, the call keeps its layout, and no index covers it.
  pub seventeen_exactly_when : (size : ℕ) → (asking book certificate call size ≡ denied not_covered) ↔ Uncovered book certificate call size
  seventeen_exactly_when size = (
    λ e. forth ((denies_exactly_when book certificate call is-book is-certificate is_bytes size not_covered).0 e),
    λ u. (denies_exactly_when book certificate call is-book is-certificate is_bytes size not_covered).1 (none_covers u refl),
  )
    where
      forth : FirstDenial book certificate call size not_covered → Uncovered book certificate call size
      forth (not_accepted f) = absurd (judge_never f refl)
      forth (bad_call line pace a number place f e) = absurd (omega (arith, ws e))
      forth (none_covers u e) = u

  pub asking_in_table : (size : ℕ) (r : Reason) → asking book certificate call size ≡ denied r → InTable r
  asking_in_table size r e = go ((denies_exactly_when book certificate call is-book is-certificate is_bytes size r).0 e)
    where
      go : FirstDenial book certificate call size r → InTable r
      go (not_accepted f) =
          judging_in_table book certificate size r (first_refused book certificate is-book is-certificate size r f)
      go (bad_call line pace a number place f q) =
          call_in_table a.rule_book call r
          ((call_first_fault a.rule_book call is_bytes r).1 (record { number = number; place = place; why = f; told = q }))
      go (none_covers u q) = subst InTable (sym q) uncovered_in_table

  -- ---- the work table

  abbrev one_denied : ℕ → Type 0
  one_denied size = asking book certificate call size ≡ denied (refusal_at 1 neither_place 0)

  pub asking_kept : (work : List ℕ) → one_denied (length work) → work_after work ≡ work
  asking_kept work e = go ((denies_exactly_when book certificate call is-book is-certificate is_bytes (length work) _).0 e)
    where
      go : FirstDenial book certificate call (length work) (refusal_at 1 neither_place 0) → work_after work ≡ work
      go (not_accepted f) = work_kept book certificate work (first_refused book certificate is-book is-certificate (length work) _ f)
      go (bad_call line pace a number place f q) = absurd (omega (arith, ws q))
      go (none_covers u q) = absurd (omega (arith, numbers q))

  pub asking_cleared : (work : List ℕ) → ¬ one_denied (length work) → work_after work ≡ replicate (length work) 0
  asking_cleared work n =
      work_cleared book certificate work (λ e. n (verdict_refused book certificate call (length work) (refusal_at 1 neither_place 0) e))
