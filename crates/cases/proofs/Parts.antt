-- The first bytes of lent memory: after a part was read, and those that a line takes.
use Rattle.std.proofs.Common.{ℕ, ◌≡◌, sym, ◌≤◌, List, ◌++◌, length, take, drop, arith}
use lib.Seq.{length_front}
use Rattle.std.specs.Counts.{IsPrefixLen}
use Rattle.std.proofs.lemmas.List.{length-take-le}
use Rattle.verdicts.specs.Printing.{Prints}
use Rattle.verdicts.proofs.Printed.{line_first}

-- a part that came back
pub counts_again : {n : ℕ} (whole part : List ℕ) → n ≤ length whole → length part ≡ length (take n whole)
    → IsPrefixLen n (part ++ drop n whole)
counts_again {n} whole part h e =
    let room : n ≤ length (part ++ drop n whole) = omega (arith, length_front whole part n e) in
    (room, sym (length-take-le n _ room))

-- a line fits 91 bytes
pub line_fits : (l out : List ℕ) {r : ℕ} {out' : List ℕ} → 91 ≤ length out → Prints l out r out' → r ≤ 91
line_fits l out h p = omega (arith, (line_first l out h p).0, p.short)
