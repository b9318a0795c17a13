-- `judging::judge_files` meets its contract.
use Rattle.answers.specs.Numbers.{paper_verdict, w_of}
use Rattle.verdicts.proofs.Layers.{book_long, certificate_long, both_short, book_refused}
use Rattle.judging.proofs.Opened.{refused_placed}
use Rattle.layout.proofs.Findings.{finding_shut, few_rules, is_beside}
use lib.ListN.{length-take}
use native.Mathlib.Omega.{arith}
use mathlib.Core.Path.{◌≡◌, refl, sym, ◌∙◌}
use Rattle.answers.proofs.Refusing.{refused_verdict}
use Rattle.std.proofs.Common.{Err, rules}
use Rattle.judging.proofs.judge_files.Goals as goal

pub returns-in_err-check_length : goal.returns-in_err-check_length
unfolding w_of
returns-in_err-check_length c =
    let e : c.from_residual.result ≡ Err c.in_err-check_length.field-0.0 = search rules in
    record {
      answered = rw e (refused_verdict _ c.in_err-check_length.ensures.1 ∙ sym (book_long _ _ c.in_err-check_length.ensures.0));
      lent = refl;
      placed = rw e refused_placed;
    }

pub returns-in_err-check_length-2 : goal.returns-in_err-check_length-2
unfolding w_of
returns-in_err-check_length-2 c =
    let e : c.from_residual-in_err-check_length-2.result ≡ Err c.in_err-check_length-2.field-0.0 = search rules in
    record {
      answered = rw e (refused_verdict _ c.in_err-check_length-2.ensures.1 ∙ sym (certificate_long _ _ c.in_ok-check_length.ensures c.in_err-check_length-2.ensures.0));
      lent = refl;
      placed = rw e refused_placed;
    }

pub slice_bounds-counts-end : goal.slice_bounds-counts-end
slice_bounds-counts-end c = let h = few_rules c.see_book.ensures c.in_ok-rules.was in search rules

pub slice_bounds-judge_certificate-end : goal.slice_bounds-judge_certificate-end
slice_bounds-judge_certificate-end c = let h = few_rules c.see_book.ensures c.in_ok-rules.was in omega (arith, length-take c.in_ok-rules.rules c.see_book.new.counts)

pub judge_certificate-requires : goal.judge_certificate-requires
judge_certificate-requires c = (is_beside c.see_book.ensures c.in_ok-rules.was refl, omega (arith, c.in_ok-check_length-2.ensures), c.requires)

pub returns-in_err-rules : goal.returns-in_err-rules
unfolding paper_verdict
returns-in_err-rules c =
    let e : c.from_residual-in_err-rules.result ≡ Err c.in_err-rules.field-0.0 = search rules in
    record {
      answered = rw e (sym (both_short _ _ c.in_ok-check_length.ensures c.in_ok-check_length-2.ensures ∙ book_refused _ _ _ (finding_shut _ _ c.see_book.ensures.told c.in_err-rules.was)));
      lent = refl;
      placed = rw e refused_placed;
    }

pub returns : goal.returns
returns c = record {
  answered = c.judge_certificate.ensures.answered ∙ sym (both_short _ _ c.in_ok-check_length.ensures c.in_ok-check_length-2.ensures);
  lent = c.judge_certificate.ensures.lent;
  placed = c.judge_certificate.ensures.placed;
}
