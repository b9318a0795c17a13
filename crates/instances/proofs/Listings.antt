-- A filling indexed: its count, then its pairs, in words that were cleared.
use Prim.Native.Nat.{ℕ, ◌+◌}
use mathlib.Core.Path.{◌≡◌, sym, ◌∙◌}
use mathlib.Core.List.{List, flat_map}
use native.Mathlib.Omega.{arith}
use lib.ListN.{length}
use Rattle.bits.specs.Packed.{width}
use Rattle.patterns.specs.First.{Exp, Pattern}
use Rattle.patterns.specs.Certificate.{Fills, by}
use Rattle.grammar.specs.Limits.{FillsFit}
use Rattle.grammar.specs.Listing.{pair_fields, filling_fields}
use Rattle.table.proofs.Writes.{kept_then}
use Rattle.instances.specs.Lying.{Lies, KnownArities}
use Rattle.instances.specs.Taking.{Takes}
use Rattle.instances.specs.declared.Read.{Read}
use Rattle.instances.specs.Fillings.{Entry, unlisted, listed, FillsTold}
use Rattle.instances.specs.Noting.{Noted, as_before, anew, NotesPairs}
use Rattle.instances.specs.Listings.{Lists, Forgets}
use Rattle.instances.proofs.Taking.{rest_at}

-- where a word was 0, what was noted is what it tells
noted_tells : {book s : List ℕ} {x was word : ℕ} {t : Pattern} → was ≡ 0 → Noted book s x was word t → Entry book s x word t
noted_tells z (as_before e) = unlisted (e ∙ z)
noted_tells z (anew at e T) = listed at e T

pub lists : {book s : List ℕ} {fills at : ℕ} {w v u : List ℕ} {c : Read} {r : ℕ} → Forgets fills w v → Takes s 7 at c → NotesPairs book s fills c.value c.at v u r
    → Lists book s fills at w u r
unfolding filling_fields width
lists {book} {s} {fills} {at} {w} {v} {u} {c} {r} F taken N = record { told = tell; kept = kept_then F.kept N.kept }
  where
    tell : (ars : List ℕ) → KnownArities book ars → (θ : Fills Exp) → FillsFit ars θ → Lies s at (filling_fields θ)
        → FillsTold book s u fills (by θ) × (r ≡ at + width (filling_fields θ))
    tell ars a θ f L =
        let got = taken.told (length θ) (flat_map pair_fields θ) L in
        let rest = N.told ars a 0 θ (sym got.0) f.rising (rest_at taken L) in
        (record { each = λ x. noted_tells (F.none x) (rest.0.each x) }, omega (arith, got.1, rest.1))
