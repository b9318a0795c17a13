-- What one read put behind what came before.
use Rattle.std.proofs.Common.{◌≡◌, ℕ, ◌+◌, ◌≤◌, List, ◌++◌, length, take, subst, arith, le_refl, drop_at, length-take-le}
use Rattle.std.proofs.Math.Seq.{take-add, take-append-le}
use Rattle.std.proofs.lemmas.Slice.{take-put_mid_below}
use Rattle.std.proofs.KnownBytes.{Consumes-trans}
use Rattle.std.specs.Io.KnownBytes.{Consumes}
use borrow.Rule.Slice.PartMut.{put_mid}
use Rattle.judge.proofs.read_full.Goals as goal

grown : (a k n : ℕ) (xs ys : List ℕ) → a ≤ length xs → n ≤ length ys → take a xs ++ take n ys ≡ take (a + n) (put_mid a k xs ys)
grown a k n xs ys within fits =
    rw (
      take-add a n (put_mid a k xs ys),
      take-put_mid_below a k xs ys a (le_refl a) within,
      drop_at (take a xs) _ a (length-take-le a xs within),
      take-append-le n ys _ fits,
    )

pub loop-done-preserved : goal.loop-done-preserved
loop-done-preserved g c = record {
  within = omega (arith, c.in-Ok.ensures.bound.0);
  taken = subst (Consumes _ _) (grown _ _ _ _ _ c.loop-done.invariant.within c.in-Ok.ensures.bound.0)
      (Consumes-trans _ _ _ _ _ c.loop-done.invariant.taken c.in-Ok.ensures.bytes.0);
}
