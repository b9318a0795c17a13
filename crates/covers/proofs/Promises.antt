-- What `covers` promises, over its own answer: 02, Ticket 1, the work table, and that no other answer fits. `CoverTold` is its contract.
use Prim.Native.Nat.{ℕ, ◌≤◌}
use mathlib.Core.Logic.{◌↔◌, ◌≢◌}
use mathlib.Core.Path.{◌≡◌, sym, ◌∙◌, ap}
use mathlib.Core.List.{List}
use lib.ListN.{length, replicate}
use Rattle.std.specs.Prelude.{Result, Ok, Err}
use Rattle.answers.specs.Carried.{refusal_at}
use Rattle.answers.specs.Numbers.{Reply, covered_at, denied, paper_refusal, paper_coverage}
use Rattle.answers.specs.InTable.{InTable}
use Rattle.answers.specs.declared.Refusal.{Refusal}
use Rattle.answers.proofs.Inverses.{coverage_tells, one_coverage}
use Rattle.patterns.specs.Term.{var, All}
use Rattle.patterns.specs.Edition.{at}
use Rattle.patterns.specs.Reason.{neither_place}
use Rattle.patterns.specs.First.{Level, one}
use Rattle.patterns.specs.Claims.{Family}
use Rattle.covers.specs.Asking.{not_covered, asking}
use Rattle.covers.specs.Covered.{Asked, CoveredAt, Uncovered, FirstDenial, CallNeverStuck}
use Rattle.covers.specs.Told.{CoverTold}
use Rattle.covers.proofs.Exactly.{covers_exactly_when, denies_exactly_when}
use Rattle.covers.proofs.Meaning.{told_smallest, none_covers_beyond, level_starts, told_family, no_variable, covered_derives}
use Rattle.covers.proofs.Numbered.{seventeen_exactly_when, asking_in_table, asking_kept, asking_cleared}

-- what holds exactly for an answer in the paper's numbers holds exactly for the answer with these numbers
told_as : {P : Type 0} {v : Reply} (r s : Result ℕ Refusal) → paper_coverage r ≡ v → (v ≡ paper_coverage s) ↔ P → (r ≡ s) ↔ P
told_as r s e h = (λ q. h.0 (sym e ∙ ap paper_coverage q), λ p. coverage_tells r s (e ∙ h.1 p))

module _ {book certificate call work : List ℕ} {r : Result ℕ Refusal} {after : List ℕ} (j : CoverTold book certificate call work r after) where
  -- It answers an index exactly if the certificate is accepted, the call keeps its layout, and this is the smallest index that covers it.
  pub covers_exactly : (i : ℕ) → (r ≡ Ok i) ↔ CoveredAt book certificate call (length work) i
  unfolding paper_coverage
  covers_exactly i =
      told_as r (Ok i) j.answered
      (covers_exactly_when book certificate call j.book_bytes j.certificate_bytes j.call_bytes (length work) i)

  -- It gives exactly the first refusal in 02's order.
  pub denies : (f : Refusal) → (r ≡ Err f) ↔ FirstDenial book certificate call (length work) (paper_refusal f)
  unfolding paper_coverage
  denies f =
      told_as r (Err f) j.answered
      (denies_exactly_when book certificate call j.book_bytes j.certificate_bytes j.call_bytes (length work) (paper_refusal f))

  -- It gives 17 exactly if the certificate is accepted, the call keeps its layout, and no index covers it.
  pub seventeen : (paper_coverage r ≡ denied not_covered) ↔ Uncovered book certificate call (length work)
  seventeen =
      let h = seventeen_exactly_when book certificate call j.book_bytes j.certificate_bytes j.call_bytes (length work) in
      (λ e. h.0 (sym j.answered ∙ e), λ u. j.answered ∙ h.1 u)

  -- Every refusal is one out of the table.
  pub in_table : (f : Refusal) → r ≡ Err f → InTable (paper_refusal f)
  unfolding paper_coverage
  in_table f e =
      asking_in_table book certificate call j.book_bytes j.certificate_bytes j.call_bytes (length work) (paper_refusal f)
      (sym j.answered ∙ ap paper_coverage e)

  -- Refusal 1 does not touch the work table, and after every other answer it is all zeros.
  pub table_kept : paper_coverage r ≡ denied (refusal_at 1 neither_place 0) → after ≡ work
  table_kept e =
      j.cleared ∙ asking_kept book certificate call j.book_bytes j.certificate_bytes j.call_bytes work (sym j.answered ∙ e)

  pub table_cleared : paper_coverage r ≢ denied (refusal_at 1 neither_place 0) → after ≡ replicate (length work) 0
  table_cleared n =
      j.cleared
      ∙ asking_cleared book certificate call j.book_bytes j.certificate_bytes j.call_bytes work (λ e. n (j.answered ∙ e))

  -- No second answer and no second work table fit the contract.
  pub one_answer : {s : Result ℕ Refusal} {other : List ℕ} → CoverTold book certificate call work s other → (r ≡ s) × (after ≡ other)
  one_answer {s} k = one_coverage r s (j.answered, j.cleared) (k.answered, k.cleared)

  -- ---- what a yes says

  yes_told : (i : ℕ) → r ≡ Ok i → asking book certificate call (length work) ≡ covered_at i
  unfolding paper_coverage
  yes_told i e = sym j.answered ∙ ap paper_coverage e

  -- The call never gets stuck: it has a derivation of every number of steps.
  pub never_stuck : (i : ℕ) → r ≡ Ok i → CallNeverStuck book call
  never_stuck i e = let v = (covers_exactly i).0 e in covered_derives v.asked i v.smallest.covers

  module _ (g : Asked book certificate call (length work)) where
    -- It answers yes exactly if the call is in the accepted family.
    pub yes_exactly : ((i : ℕ) × (r ≡ Ok i)) ↔ Family one g.claim g.pace (at one 0 g.term)
    unfolding paper_coverage
    yes_exactly =
        let h = told_family g in (
          λ y. h.0 (y.0, yes_told y.0 y.1),
          λ f. let t = h.1 f in (t.0, coverage_tells r (Ok t.0) (j.answered ∙ t.1)),
        )

    -- The index is at most 4,095 where the accepted pattern has a power with a above 0, and α where it has none.
    pub index_bounded : (i : ℕ) → r ≡ Ok i → ¬ All Level g.claim.left → i ≤ 4095
    index_bounded i e moves = none_covers_beyond g moves i (told_smallest g i (yes_told i e)).covers

    pub index_start : (i : ℕ) → r ≡ Ok i → All Level g.claim.left → i ≡ g.pace.α
    index_start i e still = level_starts g still i (told_smallest g i (yes_told i e))

    -- A lone variable gets 17.
    pub variable_denied : (x : ℕ) → g.term ≡ var x → paper_coverage r ≡ denied not_covered
    variable_denied x e = seventeen.1 (no_variable g x e)
