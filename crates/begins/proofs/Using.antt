-- A use that was read is the one that lies there.
use Prim.Native.Nat.{ℕ, ◌+◌}
use mathlib.Core.Path.{◌≡◌, sym, subst, ap, ◌∙◌}
use mathlib.Core.List.{List}
use native.Mathlib.Omega.{arith}
use lib.ListN.{get_or}
use Rattle.bits.specs.Packed.{width}
use Rattle.patterns.specs.First.{Exp, Pair}
use Rattle.patterns.specs.Certificate.{Claim, Use}
use Rattle.grammar.specs.Listing.{use_fields}
use Rattle.table.specs.Places.{LEFTS, RIGHTS, USED}
use Rattle.instances.specs.declared.Read.{Read}
use Rattle.instances.specs.Listings.{Lists}
use Rattle.begins.specs.Placed.{ClaimAt}
use Rattle.instances.specs.Taking.{Takes}
use Rattle.begins.specs.Known.{ReadsUse}
use Rattle.instances.proofs.Taking.{rest_at}
use Rattle.begins.proofs.Frames.{kept_below}

module _ {book cert : List ℕ} {at end : ℕ} {w after : List ℕ} {l i j : Read} {left right : ℕ} where
  pub reads_use : Takes cert 8 at l → Takes cert 12 l.at i → Takes cert 12 i.at j → left ≡ get_or w (LEFTS + l.value) 0
      → right ≡ get_or w (RIGHTS + l.value) 0 → Lists book cert USED j.at w after end
      → ReadsUse book cert at w after (record { left = left; right = right; i = i.value; j = j.value; end = end })
  unfolding use_fields width
  reads_use tl ti tj el er f = record {
    told = λ ars B es k line u c fits lies e.
        let x = tl.told u.line _ lies in
        let y = ti.told u.index.0 _ (rest_at tl lies) in
        let z = tj.told u.index.1 _ (rest_at ti (rest_at tl lies)) in
        let g = f.told ars k.arity u.fills fits.fills (rest_at tj (rest_at ti (rest_at tl lies))) in
        let here : ClaimAt cert ars left right c = named ars c u x el er (k.claim u.line c e) in
        (record { claim_at = here; i = y.0; j = z.0; used = g.0 }, omega (arith, x.1, y.1, z.1, g.1));
    below = kept_below f.kept;
  }
    where
      named : (ars : List ℕ) (c : Claim Exp) (u : Use Exp Pair) → (l.value ≡ u.line) × (l.at ≡ at + 8) → left ≡ get_or w (LEFTS + l.value) 0
          → right ≡ get_or w (RIGHTS + l.value) 0 → ClaimAt cert ars (get_or w (LEFTS + u.line) 0) (get_or w (RIGHTS + u.line) 0) c
          → ClaimAt cert ars left right c
      named ars c u x p q h =
          let a : get_or w (LEFTS + u.line) 0 ≡ left = ap (λ k. get_or w (LEFTS + k) 0) (sym x.0) ∙ sym p in
          let b : get_or w (RIGHTS + u.line) 0 ≡ right = ap (λ k. get_or w (RIGHTS + k) 0) (sym x.0) ∙ sym q in
          subst (λ k. ClaimAt cert ars k right c) a (subst (λ k. ClaimAt cert ars (get_or w (LEFTS + u.line) 0) k c) b h)
