-- What `judge` and `judge_input` promise, over their own answers: demands 1, 2 and 3, the work table, and that no other answer fits.
-- `Judged` and `JudgedInput` are their contracts.
use mathlib.Core.Logic.{◌↔◌, ◌≢◌}
use mathlib.Core.Path.{◌≡◌, sym, ◌∙◌, ap}
use mathlib.Core.List.{List}
use Prim.Native.Nat.{ℕ}
use lib.ListN.{length, replicate}
use Rattle.std.specs.Prelude.{Result, Ok, Err}
use Rattle.answers.specs.Numbers.{paper_refusal, paper_pace, paper_verdict}
use Rattle.answers.proofs.Inverses.{verdict_tells, one_verdict}
use Rattle.patterns.specs.First.{Pace}
use Rattle.patterns.specs.Judge.{Ruling}
use Rattle.answers.specs.declared.Refusal.{Refusal}
use Rattle.verdicts.specs.Judging.{refusal_one}
use Rattle.verdicts.specs.Demands.{Acceptable, FirstRefusal, NeverStuck}
use Rattle.verdicts.specs.Program.{framing, InputVerdict, AcceptableInput}
use Rattle.answers.specs.declared.Acceptance.{Acceptance}
use Rattle.verdicts.proofs.Demands.{accepts_exactly_when, refuses_exactly_when, accepted_never_gets_stuck}
use Rattle.verdicts.proofs.Framing.{input_exactly, input_accepted_exactly_when, accepted_input_never_gets_stuck}
use Rattle.verdicts.proofs.WorkTables.{work_kept, work_cleared, input_work_kept, input_work_cleared}
use Rattle.answers.specs.InTable.{InTable}
use Rattle.verdicts.proofs.JudgedTable.{judging_in_table, judging_input_in_table}
use Rattle.judging.specs.Judged.{Judged, JudgedInput}

-- what holds exactly for a verdict in 01's numbers holds exactly for the answer with these numbers
told_as : {P : Type 0} {v : Ruling Pace} (r s : Result Acceptance Refusal) → paper_verdict r ≡ v → (v ≡ paper_verdict s) ↔ P → (r ≡ s) ↔ P
told_as r s e h = (λ q. h.0 (sym e ∙ ap paper_verdict q), λ p. verdict_tells r s (e ∙ h.1 p))

-- ---- `judge`

module _ {book certificate work : List ℕ} {r : Result Acceptance Refusal} {after : List ℕ} (j : Judged book certificate work r after) where
  -- Demand 2: it accepts exactly what is acceptable, with the closing's own line, k and α.
  pub accepts : (a : Acceptance) → (r ≡ Ok a) ↔ Acceptable book certificate (length work) a.line (paper_pace a)
  unfolding paper_verdict
  accepts a =
      told_as r (Ok a) j.answered
      (accepts_exactly_when book certificate j.book_bytes j.bytes (length work) a.line (paper_pace a))

  -- It gives exactly the refusal of the first rule broken.
  pub refuses : (f : Refusal) → (r ≡ Err f) ↔ FirstRefusal book certificate (length work) (paper_refusal f)
  unfolding paper_verdict
  refuses f =
      told_as r (Err f) j.answered
      (refuses_exactly_when book certificate j.book_bytes j.bytes (length work) (paper_refusal f))

  -- Demand 1: every refusal is one out of 01's table.
  pub in_table : (f : Refusal) → r ≡ Err f → InTable (paper_refusal f)
  unfolding paper_verdict
  in_table f e = judging_in_table book certificate (length work) (paper_refusal f) (sym j.answered ∙ ap paper_verdict e)

  -- Demand 3: if it accepts, no call of the accepted family gets stuck.
  pub never_stuck : (a : Acceptance) → r ≡ Ok a → NeverStuck book certificate a.line a.alpha
  unfolding paper_verdict paper_pace
  never_stuck a e =
      accepted_never_gets_stuck book certificate j.book_bytes j.bytes (length work) a.line a.k a.alpha
      (sym j.answered ∙ ap paper_verdict e)

  -- Refusal 1 does not touch the work table, and after every other answer it is all zeros.
  pub table_kept : paper_verdict r ≡ refusal_one → after ≡ work
  table_kept e = j.cleared ∙ work_kept book certificate work (sym j.answered ∙ e)

  pub table_cleared : paper_verdict r ≢ refusal_one → after ≡ replicate (length work) 0
  table_cleared n = j.cleared ∙ work_cleared book certificate work (λ e. n (j.answered ∙ e))

  -- No second verdict and no second work table fit the contract.
  pub one_answer : {s : Result Acceptance Refusal} {other : List ℕ} → Judged book certificate work s other → (r ≡ s) × (after ≡ other)
  one_answer {s} k = one_verdict r s (j.answered, j.cleared) (k.answered, k.cleared)

-- ---- `judge_input`

module _ {input work : List ℕ} {r : Result Acceptance Refusal} {after : List ℕ} (j : JudgedInput input work r after) where
  -- It answers 1 for a short table, then 2 for a long input, 3 for one that is cut short, and else what `judge` does for its parts.
  pub answers_input : (s : Result Acceptance Refusal) → (r ≡ s) ↔ InputVerdict input (length work) (paper_verdict s)
  answers_input s = told_as r s j.answered (input_exactly input j.bytes (length work) (paper_verdict s))

  pub accepts_input : (a : Acceptance) → (r ≡ Ok a) ↔ AcceptableInput input (length work) a.line (paper_pace a)
  unfolding paper_verdict
  accepts_input a =
      told_as r (Ok a) j.answered
      (input_accepted_exactly_when input j.bytes (length work) a.line (paper_pace a))

  pub never_stuck_input : (a : Acceptance) → r ≡ Ok a
      → (book : List ℕ) × (certificate : List ℕ) × (input ≡ framing book certificate) × NeverStuck book certificate a.line a.alpha
  unfolding paper_verdict paper_pace
  never_stuck_input a e =
      accepted_input_never_gets_stuck input j.bytes (length work) a.line a.k a.alpha
      (sym j.answered ∙ ap paper_verdict e)

  pub in_table_input : (f : Refusal) → r ≡ Err f → InTable (paper_refusal f)
  unfolding paper_verdict
  in_table_input f e = judging_input_in_table input (length work) (paper_refusal f) (sym j.answered ∙ ap paper_verdict e)

  pub input_table_kept : paper_verdict r ≡ refusal_one → after ≡ work
  input_table_kept e = j.cleared ∙ input_work_kept input work (sym j.answered ∙ e)

  pub input_table_cleared : paper_verdict r ≢ refusal_one → after ≡ replicate (length work) 0
  input_table_cleared n = j.cleared ∙ input_work_cleared input work (λ e. n (j.answered ∙ e))

  pub one_input_answer : {s : Result Acceptance Refusal} {other : List ℕ} → JudgedInput input work s other → (r ≡ s) × (after ≡ other)
  one_input_answer {s} k = one_verdict r s (j.answered, j.cleared) (k.answered, k.cleared)
