-- A line fits its 91 bytes.
use Rattle.std.proofs.Common.{◌≤◌, arith, sym, length-take-le}
use Rattle.cases.proofs.Parts.{line_fits}
use Rattle.cases.proofs.print_verdict.Goals as goal

pub slice_bounds-line-end : goal.slice_bounds-line-end
slice_bounds-line-end g c = let fits : c.verdict_line-n.result ≤ 91 = line_fits _ _ (omega arith) c.verdict_line-n.ensures in omega arith

pub slice_bounds-write_all-end : goal.slice_bounds-write_all-end
slice_bounds-write_all-end g c =
    let fits : c.verdict_line-n.result ≤ 91 = line_fits _ _ (omega arith) c.verdict_line-n.ensures in
    sym (length-take-le _ _ (omega arith))
