-- `bits::view` meets its contract: eight bytes, shifted so far that the bit asked for comes first.
use Rattle.bits.specs.View.{Views}
use Rattle.bits.proofs.Views.{viewed, ones_viewed}
use mathlib.Core.Path.{sym, subst, ◌∙◌}
use Prim.Native.Nat.{ℕ, ◌*◌, ◌%◌, ◌^◌}
use Rattle.bits.proofs.view.Goals as goal

pub returns-then-x : goal.returns-then-x
returns-then-x c =
    let a = c.args in
    subst (λ (n : ℕ). Views a.s.now a.at n) (sym c.if-x.true) (ones_viewed a.s.now a.at (sym c.if-x.true ∙ c.word-x.ensures))

pub returns-then-k-s : goal.returns-then-k-s
returns-then-k-s c =
    let a = c.args in
    let s = a.s.now in
    subst (λ (n : ℕ). Views s a.at ((n * 2 ^ (a.at % 8)) % 2 ^ 64)) (sym c.word-x.ensures) (viewed s a.at)

pub returns : goal.returns
returns c =
    let a = c.args in
    let s = a.s.now in
    subst (λ (n : ℕ). Views s a.at ((n * 2 ^ (a.at % 8)) % 2 ^ 64)) (sym c.ending.ensures) (viewed s a.at)
