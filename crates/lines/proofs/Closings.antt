-- Both parts of a closing, and its verdict.
use Rattle.std.proofs.Common.{Result, Ok, Err}
use Prim.Native.Nat.{ℕ, ◌+◌}
use mathlib.Core.Path.{◌≡◌, refl, sym, subst, ap, ◌∙◌}
use mathlib.Core.List.{List, [], ◌∷◌}
use mathlib.Core.Option.{none, some, none-ne-some}
use native.Mathlib.Omega.{arith}
use lib.ListN.{get_or, get_elem?}
use Rattle.answers.specs.Carried.{carried}
use Rattle.answers.specs.Numbers.{paper_verdict}
use Rattle.patterns.specs.Term.{fill}
use Rattle.patterns.specs.Reason.{closing_place}
use Rattle.patterns.specs.First.{Exp, Pace, one}
use Rattle.patterns.specs.Edition.{reindex}
use Rattle.patterns.specs.Derive.{Book}
use Rattle.patterns.specs.Certificate.{by, Claim, Mark, Closing}
use Rattle.patterns.specs.Demand.{Met, present}
use Rattle.patterns.specs.Judge.{check, compare, loop_checks, closing_checks, accept, refuse}
use Rattle.grammar.specs.Listing.{closing_fields}
use Rattle.verdicts.proofs.Parted.{parted_closing}
use Rattle.answers.specs.declared.Acceptance.{Acceptance}
use Rattle.answers.specs.declared.Refusal.{Refusal}
use Rattle.instances.specs.declared.Read.{Read}
use Rattle.comparing.specs.declared.Fault.{Fault}
use Rattle.comparing.specs.declared.Whole.TheVariants.{Closing as AtClosing}
use Rattle.comparing.specs.declared.Subject.{Subject}
use Rattle.comparing.specs.declared.Subject.TheVariants.{Empty, Claimed}
use Rattle.comparing.specs.declared.Filled.TheVariants.{Bare, Used}
use Rattle.comparing.specs.declared.Behind.TheVariants.{Nothing}
use Rattle.instances.specs.Fillings.{FillsTold}
use Rattle.instances.specs.Listings.{Lists}
use Rattle.begins.specs.Placed.{RightAt, ClaimAt}
use Rattle.instances.specs.Taking.{Takes}
use Rattle.begins.specs.Known.{Known}
use Rattle.comparing.specs.Subjects.{Means, RightMeans}
use Rattle.comparing.specs.Found.{Found, Finds}
use Rattle.comparing.specs.Asked.{asked_at, checks_of, end_of, Checks}
use Rattle.lines.specs.Certificates.{pace_of, ClosingFound, ClosingBy, ClosingAt}
use Rattle.instances.proofs.Taking.{rest_at}
use Rattle.begins.proofs.Frames.{below_then, below_less, kept_below, known_below, tells_below}
use Rattle.comparing.proofs.Meanings.{filled_means, plain_right}
use Rattle.comparing.proofs.Finding.{fault_unmet, at_fault, at_good, finds_stop, finds_then, finds_given}
use Rattle.patterns.proofs.Every.{below_listed}
use Rattle.table.specs.Places.{LEFTS, RIGHTS, USED}
use Rattle.lines.proofs.Placing.{fault_carried, closed_fault, closed_none}

-- ---- the closing

-- the claim that the closing names
closed_claim : {book cert w ars : List ℕ} {B : Book Exp} {es : List (Claim Exp)} {line left right : ℕ} → left ≡ get_or w (LEFTS + line) 0
    → right ≡ get_or w (RIGHTS + line) 0 → Known book cert w ars B es → (n : ℕ) → n ≡ line → (l : Claim Exp) → get_elem? es n ≡ some l
    → ClaimAt cert ars left right l
closed_claim {cert = cert} {w = w} {ars = ars} {left = left} {right = right} el er known n e l found =
    let a : get_or w (LEFTS + n) 0 ≡ left = ap (λ j. get_or w (LEFTS + j) 0) e ∙ sym el in
    let b : get_or w (RIGHTS + n) 0 ≡ right = ap (λ j. get_or w (RIGHTS + j) 0) e ∙ sym er in
    subst (λ j. ClaimAt cert ars j right l) a (subst (λ j. ClaimAt cert ars (get_or w (LEFTS + n) 0) j l) b (known.claim n l found))

module _ {book cert w v : List ℕ} {left right : ℕ} {r : Found} (first : Checks book cert AtClosing 0 right Nothing Empty Empty w v r) where
  there_found : {ars : List ℕ} {B : Book Exp} {es : List (Claim Exp)} → Known book cert w ars B es → {l : Claim Exp} → ClaimAt cert ars left right l
      → Finds (check 14 0 (present l.right) ∷ []) 0 r
  unfolding asked_at checks_of end_of Means
  there_found {ars} known here = first.told ars known.arity _ here.right_at none 0 (refl, refl) none 0 (refl, refl)

  pub closing_empty : {line k α : ℕ} {d : Fault} → left ≡ get_or w (LEFTS + line) 0 → right ≡ get_or w (RIGHTS + line) 0 → r ≡ Err d
      → ClosingFound book cert line k α w v (Err d)
  unfolding closing_checks
  closing_empty el er q = record {
    told = λ ars B es known d e p filled small.
        let n = below_listed es d.line small in
        (0, finds_given _ n.1 (finds_stop _ (there_found known (closed_claim el er known d.line e n.0 n.1)) q));
    below = first.below;
  }

  module _ (k α : ℕ) {x : ℕ} {from-right : Subject} {after : List ℕ} {s : Found} (good : r ≡ Ok x) (plain : RightMeans cert right 1 α Bare from-right) (second : Checks book cert AtClosing 1 right Nothing from-right (Claimed left 1 (α + k) Used) v after s) where
    loop_found : {ars : List ℕ} {B : Book Exp} {es : List (Claim Exp)} → Known book cert w ars B es → (d : Closing Exp Pace) → d.pace ≡ pace_of k α
        → FillsTold book cert w USED (by d.fills) → (l : Claim Exp) → ClaimAt cert ars left right l → (m : Mark Exp) → l.right ≡ m
        → (end : ℕ) × Finds (loop_checks one l d m) end s
    unfolding loop_checks asked_at checks_of end_of Met
    loop_found {ars} {B} {es} known d p filled l here none q =
        absurd (none-ne-some _ (sym (at_good (there_found known here) good).0 ∙ fault_unmet _ [] (λ z. z q)))
    loop_found {ars} {B} {es} known d p filled l here (some u) q =
        let still = known_below (below_less (omega arith) first.below) known in
        let right_at : RightAt cert ars right (some u) = subst (RightAt cert ars right) q here.right_at in
        let o = plain_right plain still (some u) right_at in
        let t = filled_means d.fills 1 (α + k) still (tells_below (omega arith) first.below filled) here.left_at in (
          o.0,
          subst (λ c. Finds (compare 15 1 (some (reindex one (1, c.α) u)) (some (fill (by d.fills) (reindex one (1, c.α + c.k) l.left)))) o.0 s) (sym p)
              (second.told ars known.arity _ right_at _ _ o.1 _ _ t),
        )

    pub closing_loop : {line : ℕ} → left ≡ get_or w (LEFTS + line) 0 → right ≡ get_or w (RIGHTS + line) 0 → ClosingFound book cert line k α w after s
    unfolding closing_checks
    closing_loop el er = record {
      told = λ ars B es known d e p filled small.
          let n = below_listed es d.line small in
          let here = closed_claim el er known d.line e n.0 n.1 in
          let loop = loop_found known d p filled n.0 here n.0.right refl in
          (loop.0, finds_given _ n.1 (finds_then (there_found known here) good (λ z. loop.1)));
      below = below_then first.below second.below;
    }

module _ {book cert w v : List ℕ} {line k α : ℕ} {f : Found} (found : ClosingFound book cert line k α w v f) where
  pub closing_fault : {d : Fault} {r : Result Acceptance Refusal} → f ≡ Err d → paper_verdict r ≡ refuse (carried d.number closing_place line d.part) → ClosingBy book cert line k α w v r
  closing_fault {d} q e = record {
    told = λ ars B es known c i pc filled small.
        let first = at_fault (found.told ars B es known c i pc filled small).1 q in
        e ∙ ap (λ a. refuse (carried d.number closing_place a d.part)) (sym i)
        ∙ ap refuse (fault_carried (closing_checks one es c) (parted_closing one es c) d.number d.part closing_place c.line first)
        ∙ sym (closed_fault c.line (closing_checks one es c) d.number d.part c first);
    below = found.below;
  }

  pub closing_good : {x : ℕ} {r : Result Acceptance Refusal} → f ≡ Ok x → paper_verdict r ≡ accept line (pace_of k α) → ClosingBy book cert line k α w v r
  closing_good q e = record {
    told = λ ars B es known d i p filled small.
        e ∙ ap (λ a. accept a (pace_of k α)) (sym i) ∙ ap (accept d.line) (sym p)
        ∙ sym (closed_none d.line (closing_checks one es d) d (at_good (found.told ars B es known d i p filled small).1 q).0);
    below = found.below;
  }

pub closing_at : {book cert w v after : List ℕ} {at end : ℕ} {c d e : Read} {r : Result Acceptance Refusal} → Takes cert 8 at c → Takes cert 12 c.at d → Takes cert 12 d.at e
    → Lists book cert USED e.at w v end → ClosingBy book cert c.value d.value e.value v after r → ClosingAt book cert at w after r
unfolding closing_fields
closing_at {book} {cert} {w} {v} {after} {at} {end} {c} {d} {e} tc td te f p = record {
  told = λ ars B es known k fits lies.
      let x = tc.told k.line _ lies in
      let y = td.told k.pace.k _ (rest_at tc lies) in
      let z = te.told k.pace.α _ (rest_at td (rest_at tc lies)) in
      let g = f.told ars known.arity k.fills fits.fills (rest_at te (rest_at td (rest_at tc lies))) in
      p.told ars B es (known_below (below_less (omega arith) (kept_below f.kept)) known) k (sym x.0) (pace k.pace (sym y.0) (sym z.0)) g.0 fits.line;
  below = below_then (kept_below f.kept) (below_less (omega arith) p.below);
}
  where
    pace : (s : Pace) → s.k ≡ d.value → s.α ≡ e.value → s ≡ pace_of d.value e.value
    pace s a b = λ i. record { k = a i; α = b i }
