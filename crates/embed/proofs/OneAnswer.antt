-- No second answer and no second memory fit a promise of the door, and the five numbers tell which answer it is.
use Rattle.std.proofs.Common.{ℕ, ◌≡◌, refl, sym, List, cond, length, get_or, nat_eq}
use Rattle.answers.proofs.Inverses.{inverse_tells}
use Rattle.answers.specs.Numbers.{Told, filled_with, refused_with, Reply, covered_at, denied}
use Rattle.patterns.specs.First.{Pace}
use Rattle.patterns.specs.Reason.{Reason}
use Rattle.patterns.specs.Judge.{Ruling, accept, refuse}
use Rattle.layout.specs.Answers.{Given, told}
use Rattle.verdicts.specs.Judging.{judging}
use Rattle.covers.specs.Asking.{asking}
use Rattle.embed.specs.Numbers.{refusal_numbers, answer_numbers, verdict_numbers, coverage_numbers}
use Rattle.embed.specs.Promises.{FileTold, JudgeTold, CallTold}

-- ---- one answer, one memory

pub one_file_told : {w : ℕ} {g : Given} {out after other numbers others : List ℕ} → FileTold w g out after numbers
    → FileTold w g out other others → (numbers ≡ others) × (after ≡ other)
one_file_told p q = (cc, cc)

pub one_judge_told : {book certificate work after other numbers others : List ℕ} → JudgeTold book certificate work after numbers
    → JudgeTold book certificate work other others → (numbers ≡ others) × (after ≡ other)
one_judge_told p q = (cc, cc)

pub one_call_told : {book certificate call work after other numbers others : List ℕ} → CallTold book certificate call work after numbers
    → CallTold book certificate call work other others → (numbers ≡ others) × (after ≡ other)
one_call_told p q = (cc, cc)

-- ---- the numbers have an inverse, so no two answers, verdicts or replies have the same

abbrev refusal_read : List ℕ → Reason
refusal_read ns = record { number = get_or ns 1 0; w = get_or ns 2 0; a = get_or ns 3 0; b = get_or ns 4 0 }

abbrev answer_read : List ℕ → Told
answer_read ns = cond (nat_eq (get_or ns 0 0) 0) (filled_with (get_or ns 1 0)) (refused_with (refusal_read ns))

answer_back : (t : Told) → answer_read (answer_numbers t) ≡ t
unfolding answer_numbers refusal_numbers
answer_back (filled_with n) = refl
answer_back (refused_with r) = refl

pub answer_tells : (s t : Told) → answer_numbers s ≡ answer_numbers t → s ≡ t
answer_tells = inverse_tells answer_numbers answer_read answer_back

abbrev verdict_read : List ℕ → Ruling Pace
verdict_read ns =
    cond (nat_eq (get_or ns 0 0) 0) (accept (get_or ns 1 0) (record { k = get_or ns 2 0; α = get_or ns 3 0 })) (refuse (refusal_read ns))

verdict_back : (v : Ruling Pace) → verdict_read (verdict_numbers v) ≡ v
unfolding verdict_numbers refusal_numbers
verdict_back (accept line pace) = refl
verdict_back (refuse r) = refl

pub verdict_tells : (v w : Ruling Pace) → verdict_numbers v ≡ verdict_numbers w → v ≡ w
verdict_tells = inverse_tells verdict_numbers verdict_read verdict_back

abbrev coverage_read : List ℕ → Reply
coverage_read ns = cond (nat_eq (get_or ns 0 0) 0) (covered_at (get_or ns 1 0)) (denied (refusal_read ns))

coverage_back : (c : Reply) → coverage_read (coverage_numbers c) ≡ c
unfolding coverage_numbers refusal_numbers
coverage_back (covered_at i) = refl
coverage_back (denied r) = refl

pub coverage_tells : (c d : Reply) → coverage_numbers c ≡ coverage_numbers d → c ≡ d
coverage_tells = inverse_tells coverage_numbers coverage_read coverage_back

-- ---- so what a caller reads out of the numbers is what the definitions give

pub numbers_tell_answer : {w : ℕ} {g : Given} {out after : List ℕ} (t : Told) → FileTold w g out after (answer_numbers t)
    → told w g (length out) ≡ t
numbers_tell_answer t p = answer_tells _ t (sym p.answered)

pub numbers_tell_verdict : {book certificate work after : List ℕ} (v : Ruling Pace)
    → JudgeTold book certificate work after (verdict_numbers v) → judging book certificate (length work) ≡ v
numbers_tell_verdict v p = verdict_tells _ v (sym p.answered)

pub numbers_tell_coverage : {book certificate call work after : List ℕ} (c : Reply)
    → CallTold book certificate call work after (coverage_numbers c) → asking book certificate call (length work) ≡ c
numbers_tell_coverage c p = coverage_tells _ c (sym p.answered)
