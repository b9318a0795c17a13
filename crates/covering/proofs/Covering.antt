-- 02, "Is this call in the family?", for trees: the search answers the smallest covering index, or that there is none.
use Prim.Native.Nat.{ℕ, zero, suc, ◌+◌, ◌-◌, ◌≤◌, ◌<◌}
use mathlib.Core.Path.{◌≡◌, refl, sym, ◌∙◌, ap, subst}
use mathlib.Core.Bool.{Bool, true, false, cond}
use mathlib.Core.Logic.{◌↔◌, ◌≢◌, ite}
use mathlib.Core.Option.{Option, none, some}
use native.Mathlib.Decide.{dec_le}
use native.Mathlib.Omega.{arith}
use Rattle.patterns.specs.Term.{fill, All, nodes}
use Rattle.patterns.specs.Formed.{Formed}
use Rattle.patterns.specs.Demand.{level?}
use Rattle.patterns.specs.First.{Pattern, Level, one}
use Rattle.covering.specs.Covers.{Call, Covers, Answers}
use Rattle.covering.specs.Search.{number, first_from, fits, largest, tries, covering}
use Rattle.covering.proofs.Counted.{clash, all_exps, plainly, whole_plainly, means_counted, means_plainly}
use Rattle.covering.proofs.Exact.{fits_exactly}
use Rattle.covering.proofs.Bounded.{level_beyond, level_at}
use Rattle.covering.proofs.Largest.{all_largest}

-- ---- which indices are worth a try

-- no covering index is above every number of the call's powers
none_above : (ar : ℕ → ℕ) (t : Pattern) (α : ℕ) (c : Pattern) → Formed ar c → Call c → ¬ All Level t → (m : ℕ)
    → All (λ e. number e ≤ m) c → (i : ℕ) → Covers t α c i → i ≤ m
none_above ar t α c k a moves m small i v = go (dec_le i m)
  where
    go : Dec (i ≤ m) → i ≤ m
    go (yes h) = h
    go (no h) =
        let within = all_exps (λ n. n ≤ m) number c small in
        let same = ap (fill v.filling) (means_counted i t) ∙ v.call ∙ sym (means_plainly c) in
        absurd (moves (level_beyond ar v.filling i m (omega arith) t (plainly c) (whole_plainly ar c k a) within same))

-- 02: "No search beyond index 4,095 is needed when the pattern has a power with a above 0, since a call's exponents end there"
pub none_beyond : (ar : ℕ → ℕ) (t : Pattern) (α : ℕ) (c : Pattern) → Formed ar c → Call c → ¬ All Level t → (i : ℕ)
    → Covers t α c i → i ≤ 4095
none_beyond ar t α c k a moves = none_above ar t α c k a moves 4095 a.small

-- 02: "A pattern without index answers α."
pub covers_at_start : (t : Pattern) (α : ℕ) (c : Pattern) → All Level t → (i : ℕ) → Covers t α c i → Covers t α c α
covers_at_start t α c a i v = record {
  from = omega arith;
  filling = v.filling;
  call = ap (fill v.filling) (level_at t a α i) ∙ v.call;
}

-- ---- no second answer fits

pub one_answer : (t : Pattern) (α : ℕ) (c : Pattern) (r o : Option ℕ) → Answers t α c r → Answers t α c o → r ≡ o
unfolding Answers
one_answer t α c none none p q = refl
one_answer t α c none (some j) p q = absurd (p j q.covers)
one_answer t α c (some i) none p q = absurd (q i p.covers)
one_answer t α c (some i) (some j) p q =
    let l = p.least j q.covers in
    let m = q.least i p.covers in
    let e : i ≡ j = omega arith in ap {B = Option ℕ} some e

-- ---- the search

module _ (ar : ℕ → ℕ) (t : Pattern) (α : ℕ) (c : Pattern) (h : Formed ar t) (k : Formed ar c) (a : Call c) where
  abbrev test : ℕ → Bool
  test i = fits ar (nodes t) (nodes c) i

  -- what is tried from i on leaves nothing out, below i or beyond
  first_right : (left i : ℕ) → α ≤ i → ((j : ℕ) → Covers t α c j → i ≤ j)
      → ((j : ℕ) → Covers t α c j → (n : ℕ) × (n < left + i) × Covers t α c n) → Answers t α c (first_from test left i)
  unfolding first_from Answers
  first_right zero i l below within = λ j v.
      let n = within j v in
      let m = below n.0 n.2 in
      let u = n.1 in
      omega arith
  first_right (suc left) i l below within = go (test i) refl (first_right left (suc i) (omega arith))
    where
      go : (b : Bool) → test i ≡ b
          → (((j : ℕ) → Covers t α c j → suc i ≤ j) → ((j : ℕ) → Covers t α c j → (n : ℕ) × (n < left + suc i) × Covers t α c n)
          → Answers t α c (first_from test left (suc i)))
          → Answers t α c (cond b (some i) (first_from test left (suc i)))
      go true e f =
          let s = (fits_exactly ar t c h k a i).0 e in
          record { covers = record { from = omega arith; filling = s.0; call = s.1 }; least = below }
      go false e f =
          f
          (λ j v.
          let m = below j v in
          let passes = (fits_exactly ar t c h k a j).1 (v.filling, v.call) in
          let d : i ≢ j = λ p. clash (cc) in
          omega arith)
          (λ j v. let n = within j v in let u = n.1 in (n.0, omega arith, n.2))

  -- the answer is right
  pub covering_answers : Answers t α c (covering ar t α c)
  unfolding covering tries
  covering_answers = go (level? one t)
    where
      go : (d : Dec (All Level t)) → Answers t α c (first_from test (ite d 1 (suc (largest (nodes c)) - α)) α)
      go (yes s) =
          first_right 1 α (omega arith) (λ j v. v.from) (λ j v. (α, omega arith, covers_at_start t α c s j v))
      go (no s) =
          first_right (suc (largest (nodes c)) - α) α (omega arith) (λ j v. v.from)
          (λ j v. let m = none_above ar t α c k a s (largest (nodes c)) (all_largest c) j v in let l = v.from in (j, omega arith, v))

-- ---- the whole

-- `some i` exactly when i is the smallest; `none` exactly when no index covers the call
pub covering_exactly : (ar : ℕ → ℕ) (t : Pattern) (α : ℕ) (c : Pattern) → Formed ar t → Formed ar c → Call c → (o : Option ℕ)
    → (covering ar t α c ≡ o) ↔ Answers t α c o
covering_exactly ar t α c h k a o = (
  λ e. subst (Answers t α c) e (covering_answers ar t α c h k a),
  λ p. one_answer t α c (covering ar t α c) o (covering_answers ar t α c h k a) p,
)
