-- What running on a lent work table promises.
use Rattle.std.specs.Prelude.{ℕ, ◌≡◌, ◌≤◌, ◌<◌, List, length, replicate, Result, Err}
use Rattle.answers.specs.declared.Refusal.{Refusal}
use Rattle.answers.specs.Carried.{refusal_at}
use Rattle.answers.specs.Numbers.{paper_refusal}
use Rattle.patterns.specs.Reason.{neither_place}
use Rattle.table.specs.Places.{WORDS}

-- A short table is refused with 1 and kept. On another the run gave its answer r and left some table, and now all numbers are 0.
pub record Lent {T : Type 0} (ran : Result T Refusal → List ℕ → Type 0) (work : List ℕ) (r : Result T Refusal) (after : List ℕ) : Type 0 where
  pub short : length work < WORDS → (f : Refusal) × (r ≡ Err f) × (paper_refusal f ≡ refusal_at 1 neither_place 0) × (after ≡ work)
  pub whole : WORDS ≤ length work → (left : List ℕ) × ran r left × (after ≡ replicate (length left) 0)
