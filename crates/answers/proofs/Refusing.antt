-- An answer that is a refusal has the refusal's numbers.
use mathlib.Core.Path.{◌≡◌, ap}
use Rattle.std.specs.Prelude.{Err}
use Rattle.patterns.specs.First.{Pace}
use Rattle.patterns.specs.Reason.{Reason}
use Rattle.patterns.specs.Judge.{Ruling, refuse}
use Rattle.answers.specs.declared.Refusal.{Refusal}
use Rattle.answers.specs.Numbers.{paper_refusal, paper_verdict, refused_with, paper_answer, denied, paper_coverage}

module _ (r : Refusal) {q : Reason} (e : paper_refusal r ≡ q) where
  pub refused_verdict : paper_verdict (Err r) ≡ refuse q
  unfolding paper_verdict
  refused_verdict = ap {B = Ruling Pace} refuse e

  pub refused_answer : paper_answer (Err r) ≡ refused_with q
  unfolding paper_answer
  refused_answer = ap refused_with e

  pub refused_coverage : paper_coverage (Err r) ≡ denied q
  unfolding paper_coverage
  refused_coverage = ap denied e
