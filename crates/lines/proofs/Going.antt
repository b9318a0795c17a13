-- What the loop over lines keeps: whatever is judged of the lines left and the closing is judged of the whole.
use Rattle.std.proofs.Common.{Result, Ok, Err}
use Prim.Native.Nat.{ℕ, ◌+◌, ◌-◌, ◌≤◌, ◌<◌}
use mathlib.Core.Path.{◌≡◌, subst}
use mathlib.Core.List.{List}
use native.Mathlib.Omega.{arith}
use Rattle.answers.specs.Carried.{carried}
use Rattle.answers.specs.Numbers.{paper_verdict}
use Rattle.patterns.specs.Reason.{line_place}
use Rattle.patterns.specs.Judge.{refuse}
use Rattle.answers.specs.declared.Acceptance.{Acceptance}
use Rattle.answers.specs.declared.Refusal.{Refusal}
use Rattle.comparing.specs.declared.Fault.{Fault}
use Rattle.lines.specs.Certificates.{LineAt, ClosingAt, LinesAt}
use Rattle.lines.proofs.Certifying.{lines_none, lines_fault, lines_on}
use Rattle.comparing.specs.Found.{Found}

-- n lines from number k on, with the table w; of them m are left, from number j on, with the table v
pub record Goes (book cert : List ℕ) (at k n : ℕ) (w : List ℕ) (here j m : ℕ) (v : List ℕ) : Type 0 where
  pub whole : {after : List ℕ} {r : Result Acceptance Refusal} → LinesAt book cert here j m v after r → LinesAt book cert at k n w after r

pub goes_here : {book cert w : List ℕ} {at k n m : ℕ} → m ≡ n → Goes book cert at k n w at k m w
goes_here {book} {cert} {w} {at} {k} {n} {m} e = record { whole = λ {after} {r} h. subst (λ i. LinesAt book cert at k i w after r) e h }

module _ {book cert w v : List ℕ} {at k n here j m : ℕ} (G : Goes book cert at k n w here j m v) where
  pub goes_end : {after : List ℕ} {r : Result Acceptance Refusal} → m ≤ 0 → ClosingAt book cert here v after r → LinesAt book cert at k n w after r
  goes_end h p = G.whole (lines_none (omega arith) p)

  module _ {u : List ℕ} {f : Found} (some : 0 < m) (small : j + m ≤ 255) (first : LineAt book cert here j v u f) where
    pub goes_fault : {d : Fault} {r : Result Acceptance Refusal} → f ≡ Err d → paper_verdict r ≡ refuse (carried d.number line_place j d.part)
        → LinesAt book cert at k n w u r
    goes_fault q e = G.whole (lines_fault (λ z. omega arith) small first q e)

    pub goes_on : {x less : ℕ} → f ≡ Ok x → less ≡ m - 1 → Goes book cert at k n w x (j + 1) less u
    goes_on {x} {less} q l = record {
      whole = λ {after} {r} h. G.whole (lines_on (λ z. omega arith) small first q (subst (λ i. LinesAt book cert x (j + 1) i u after r) l h));
    }
