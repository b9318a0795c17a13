-- The line of every verdict that the judge and the program give leaves nothing out: two inputs with one line have one verdict.
use Prim.Native.Nat.{ℕ}
use mathlib.Core.Path.{◌≡◌, refl, ◌∙◌, ap, subst}
use mathlib.Core.List.{List}
use Rattle.patterns.specs.First.{Pace}
use Rattle.patterns.specs.Reason.{Reason}
use Rattle.patterns.specs.Judge.{Ruling, accept, refuse}
use Rattle.verdicts.specs.Judging.{judging}
use Rattle.verdicts.specs.Program.{judging_input}
use Rattle.verdicts.specs.Printing.{refusal_line, line_of, TellsAll}
use Rattle.answers.proofs.InTable.{in_table_carries}
use Rattle.verdicts.proofs.JudgedTable.{VerdictInTable, judging_in_table, judging_input_in_table}
use Rattle.verdicts.proofs.OneLine.{own_line, line_tells}

tells_all : (v : Ruling Pace) → VerdictInTable v → TellsAll v
unfolding TellsAll
tells_all (accept l p) h = tt
tells_all (refuse r) h = in_table_carries r (h r refl)

-- Of every verdict of the judge the line leaves nothing out,
pub judging_tells : (book certificate : List ℕ) (size : ℕ) → TellsAll (judging book certificate size)
judging_tells book certificate size = tells_all _ (judging_in_table book certificate size)

-- nor of those that the program prints:
pub input_tells : (input : List ℕ) (size : ℕ) → TellsAll (judging_input input size)
input_tells input size = tells_all _ (judging_input_in_table input size)

-- a refusal's line is `refuse` and its own number, W, A and B,
pub input_refused_line : (input : List ℕ) (size : ℕ) (r : Reason) → judging_input input size ≡ refuse r
    → line_of (judging_input input size) ≡ refusal_line r
unfolding TellsAll
input_refused_line input size r e = ap line_of e ∙ own_line r (subst TellsAll e (input_tells input size))

-- and two inputs with one line have one verdict.
pub input_line_tells : (input other : List ℕ) (size room : ℕ) → line_of (judging_input input size) ≡ line_of (judging_input other room)
    → judging_input input size ≡ judging_input other room
input_line_tells input other size room e = line_tells _ _ (input_tells input size) (input_tells other room) e
