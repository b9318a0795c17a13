-- The code's answers in 01's numbers: "a definition provides this paper's number and values for each of the enum's cases".
use Rattle.std.specs.Prelude.{ℕ, Result, Ok, Err}
use Rattle.patterns.specs.First.{Pace}
use Rattle.patterns.specs.Reason.{Reason, book_place, certificate_place, line_place, closing_place, neither_place, call_place}
use Rattle.patterns.specs.Judge.{Ruling, accept, refuse}
use Rattle.answers.specs.declared.W.{W}
use Rattle.answers.specs.declared.W.TheVariants.{Book, Certificate, Line, Closing, Neither, Call}
use Rattle.answers.specs.declared.Refusal.{Refusal}
use Rattle.answers.specs.declared.Acceptance.{Acceptance}

-- 01: "W (0 book, 1 certificate, 2 line, 3 closing, 4 neither)"; 02, Ticket 1: "3 to 7 for the call, with W = 5"
unfoldable pub w_of : W → ℕ
w_of Book = book_place
w_of Certificate = certificate_place
w_of Line = line_place
w_of Closing = closing_place
w_of Neither = neither_place
w_of Call = call_place

-- 01: "A refusal carries its number, W [..], A and B."
unfoldable pub paper_refusal : Refusal → Reason
paper_refusal r = record { number = r.number; w = w_of r.w; a = r.a; b = r.b }

-- 01: "An accepting answer gives the line, k and α."
unfoldable pub paper_pace : Acceptance → Pace
paper_pace a = record { k = a.k; α = a.alpha }

unfoldable pub paper_verdict : Result Acceptance Refusal → Ruling Pace
paper_verdict (Ok a) = accept a.line (paper_pace a)
paper_verdict (Err r) = refuse (paper_refusal r)

-- what reading and writing answer: "they answer the number of places filled". It is alike to what `covers` answers, below, and keeps its
-- own meaning: a count of places is no index.
pub data Told : Type 0 where
  filled_with : ℕ → Told
  refused_with : Reason → Told

unfoldable pub paper_answer : Result ℕ Refusal → Told
paper_answer (Ok n) = filled_with n
paper_answer (Err r) = refused_with (paper_refusal r)

-- 02, Ticket 1, what `covers` answers: "If yes, give the smallest such index."
pub data Reply : Type 0 where
  covered_at : ℕ → Reply
  denied : Reason → Reply

unfoldable pub paper_coverage : Result ℕ Refusal → Reply
paper_coverage (Ok n) = covered_at n
paper_coverage (Err r) = denied (paper_refusal r)
