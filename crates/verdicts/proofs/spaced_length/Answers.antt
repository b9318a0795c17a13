-- `verdicts::spaced_length` meets its contract: each number adds a space and its digits.
use Rattle.std.proofs.Common.{◌≡◌, ◌+◌, ◌∙◌, length, rules, arith}
use Rattle.std.specs.List.{sum_by}
use Rattle.verdicts.specs.Decimal.{decimal}
use Rattle.verdicts.proofs.Printing.{spaced_sum, spaced_short}
use Rattle.verdicts.proofs.spaced_length.Goals as goal

pub returns : goal.returns
returns c =
    let e : c.sum.result ≡ sum_by (λ n. 1 + length (decimal n)) c.args.numbers.now = search rules in
    let s = spaced_short c.args.numbers.now (λ i. (c.type_inv.numbers i).fits) in
    (e ∙ spaced_sum c.args.numbers.now, omega (arith, e, spaced_sum c.args.numbers.now, s))
