-- The line of an input's verdict, in the bytes that are lent for it.
use Rattle.std.specs.Prelude.{Result}
use Rattle.std.proofs.Common.{ℕ, ◌≤◌, ◌≡◌, ◌∙◌, ap, sym, List, length, take, arith, length-take}
use Rattle.answers.specs.declared.Acceptance.{Acceptance}
use Rattle.answers.specs.declared.Refusal.{Refusal}
use Rattle.answers.specs.Numbers.{paper_verdict}
use Rattle.std.specs.Counts.{IsPrefixLen}
use Rattle.patterns.specs.First.{Pace}
use Rattle.patterns.specs.Judge.{Ruling}
use Rattle.verdicts.specs.Printing.{line_of, Prints}
use Rattle.verdicts.proofs.Printed.{line_first}

pub line_printed : (v : Result Acceptance Refusal) {w : Ruling Pace} (out : List ℕ) {r : ℕ} {out' : List ℕ} → 91 ≤ length out → paper_verdict v ≡ w
    → Prints (line_of (paper_verdict v)) out r out' → IsPrefixLen r out' × (take r out' ≡ line_of w)
line_printed v out {r} {out'} h e p =
    let q = line_first (line_of (paper_verdict v)) out h p in
    let n : length (take r out') ≡ r = ap length q.1 ∙ sym q.0 in
    ((omega (arith, length-take r out', p.short), sym n), q.1 ∙ ap line_of e)
