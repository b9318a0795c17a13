-- A field that was taken is the one that lies there, and the fields behind it lie where it ends.
use Rattle.std.specs.Prelude.{Some, None}
use Prim.Native.Nat.{ℕ, zero, suc, ◌+◌, ◌^◌, ◌≤◌, ◌<◌}
use mathlib.Core.Path.{◌≡◌, sym, subst, ap, ◌∙◌}
use mathlib.Core.List.{List, ◌∷◌}
use native.Mathlib.Omega.{arith}
use Rattle.bits.specs.Bits.{read_field}
use Rattle.bits.specs.declared.Cursor.{Cursor}
use Rattle.bits.specs.Bits.{Taken}
use Rattle.bits.proofs.Bytes.{bits_lt}
use Rattle.bits.proofs.Fitting.{read_got}
use Rattle.patterns.specs.First.{Pattern}
use Rattle.patterns.specs.Formed.{Formed}
use Rattle.grammar.specs.Listing.{Fields, term_fields}
use Rattle.grammar.specs.Limits.{TermFits}
use Rattle.instances.specs.Lying.{Lies, KnownArities, TermAt}
use Rattle.instances.specs.Taking.{Takes}
use Rattle.instances.specs.declared.Read.{Read}
use Rattle.instances.proofs.Lying.{lies_first, lies_rest}

positive : (w : ℕ) → 0 < 2 ^ w
positive zero = omega arith
positive (suc w) = omega (arith, positive w)

module _ (s : List ℕ) (w at : ℕ) (narrow : w ≤ 16) where
  pub takes_past : {f : Taken} → f ≡ read_field s w at → f ≡ None → Takes s w at (record { value = 0; at = 0 })
  takes_past e p = record {
    told = λ v fs l. let g = lies_first s at w v fs narrow l in let z : ◌≡◌ {A = ℕ} 0 1 = cc in absurd (omega arith);
    small = positive w;
    near = omega arith;
  }

  pub takes_got : {f : Taken} (v : ℕ) (d : Cursor) → f ≡ read_field s w at → f ≡ Some (v, d) → Takes s w at (record { value = v; at = d.at })
  takes_got v d e p =
      let got = read_got s w at v d (sym e ∙ p) in
      record {
        told = λ u fs l.
            let g = lies_first s at w u fs narrow l in
            let t : ◌≡◌ {A = ℕ × Cursor} (v, d) (u, record { at = at + w }) = cc in
            (ap (λ (q : ℕ × Cursor). q.0) t, ap (λ (q : ℕ × Cursor). q.1.at) t);
        small = rw got.0 at (bits_lt s at w);
        near = omega (arith, got.1, got.3);
      }

-- the rest of some fields, from where the first was taken
pub rest_at : {s : List ℕ} {w at v : ℕ} {fs : Fields} {c : Read} → Takes s w at c → Lies s at ((w, v) ∷ fs) → Lies s c.at fs
rest_at {s} {w} {at} {v} {fs} t l = subst (λ k. Lies s k fs) (sym (t.told v fs l).1) (lies_rest s at w v fs l)

-- a term within the limits keeps to the arities that the book's bytes tell
pub term_at : {book s ars : List ℕ} {at bound : ℕ} {t : Pattern} → KnownArities book ars → TermFits ars bound t
    → Lies s at (term_fields t) → TermAt book s at t
term_at {t = t} k f l = record { lies = l; small = f.small; formed = subst (λ ar. Formed ar t) (sym k) f.formed }
