-- Pairs noted one after the other: the table tells the filling that they list.
use Prim.Native.Nat.{ℕ, suc, ◌+◌, ◌-◌, ◌≤◌, ◌<◌}
use mathlib.Core.Path.{◌≡◌, refl, sym, subst, ◌∙◌}
use mathlib.Core.Logic.{◌≢◌, if_pos, if_neg}
use mathlib.Core.List.{List, [], ◌∷◌, ◌++◌, flat_map}
use native.Mathlib.Decide.{ℕ_discrete}
use native.Mathlib.Omega.{arith}
use lib.ListN.{length, set}
use Rattle.bits.specs.Packed.{width}
use Rattle.bits.proofs.Groups.{width_append}
use Rattle.patterns.specs.First.{Exp, Pattern}
use Rattle.patterns.specs.Certificate.{Fills, by}
use Rattle.grammar.specs.Limits.{Rising}
use Rattle.grammar.specs.Listing.{term_fields, pair_fields}
use Rattle.table.proofs.Writes.{kept_self, kept_then}
use Rattle.instances.specs.Lying.{Lies, TermAt, KnownArities}
use Rattle.instances.specs.Taking.{Takes}
use Rattle.instances.specs.declared.Read.{Read}
use Rattle.instances.specs.Fillings.{entry}
use Rattle.instances.specs.Instances.{Skips}
use Rattle.instances.proofs.Lying.{lies_front, lies_back}
use Rattle.instances.proofs.Taking.{rest_at, term_at}
use Rattle.instances.specs.Noting.{Noted, as_before, anew, Noting, NotesPairs}
use Rattle.instances.proofs.Entries.{entry_here, entry_other, entry_kept}

-- ---- what is noted

-- where nothing is listed, nothing changes
none_noted : (book s : List ℕ) (fills least : ℕ) (w : List ℕ) → Noting book s fills least [] w w
unfolding by
none_noted book s fills least w = record { each = λ x. as_before refl; below = λ x h. refl }

-- one pair more, in front of others with larger variables
module _ (book s : List ℕ) (fills least x at : ℕ) (t : Pattern) (θ : Fills Exp) (w after : List ℕ) where
  one_more : fills + 64 ≤ length w → least ≤ x → x < 64 → TermAt book s at t → Noting book s fills (x + 1) θ (set w (fills + x) (at + 1)) after
      → Noting book s fills least ((x, t) ∷ θ) w after
  unfolding by
  one_more room l h T N = record {
    each = λ y. go y (ℕ_discrete x y);
    below = λ y b. N.below y (omega arith) ∙ entry_other w fills x (at + 1) h y (λ z. omega arith);
  }
    where
      go : (y : ℕ) (d : Dec (x ≡ y)) → Noted book s y (entry w fills y) (entry after fills y) (by ((x, t) ∷ θ) y)
      go y (yes p) =
          let word : entry after fills x ≡ suc at = N.below x (omega arith) ∙ entry_here w fills x (at + 1) h room ∙ omega arith in
          rw (sym p, if_pos (ℕ_discrete x x) refl t (by θ x)) (anew {t = t} at word T)
      go y (no p) =
          rw (if_neg (ℕ_discrete x y) p t (by θ y), sym (entry_other w fills x (at + 1) h y (λ z. p (sym z)))) (N.each y)

-- ---- how the walk goes on

module _ (book s : List ℕ) (fills n at : ℕ) (w : List ℕ) where
  pub notes_none : n ≡ 0 → NotesPairs book s fills n at w w at
  unfolding width flat_map
  notes_none e = record { told = λ ars a least θ k R L. go least θ k; kept = kept_self fills 64 w }
    where
      go : (least : ℕ) (θ : Fills Exp) → length θ ≡ n → Noting book s fills least θ w w × (at ≡ at + width (flat_map pair_fields θ))
      go least [] k = (none_noted book s fills least w, omega arith)
      go least (p ∷ θ) k = absurd (omega arith)

  -- the word of one variable, then the rest behind its term
  pub notes_pair : (c : Read) (end : ℕ) (u : List ℕ) (r : ℕ) → fills + 64 ≤ length w → n ≢ 0 → Takes s 6 at c → Skips book s c.at end
      → NotesPairs book s fills (n - 1) end (set w (fills + c.value) (c.at + 1)) u r → NotesPairs book s fills n at w u r
  unfolding width flat_map pair_fields Rising
  notes_pair c end u r room some taken S N = record {
    told = λ ars a least θ k R L. go ars a least θ k R L;
    kept = kept_then (entry_kept w fills c.value (c.at + 1) small) N.kept;
  }
    where
      small : c.value < 64
      small = omega (arith, taken.small)

      go : (ars : List ℕ) → KnownArities book ars → (least : ℕ) (θ : Fills Exp) → length θ ≡ n → Rising ars least θ
          → Lies s at (flat_map pair_fields θ) → Noting book s fills least θ w u × (r ≡ at + width (flat_map pair_fields θ))
      go ars a least [] k R L = absurd (some (sym k))
      go ars a least (p ∷ θ) k R L =
          let fs = term_fields p.1 in
          let gs = flat_map pair_fields θ in
          let got = taken.told p.0 (fs ++ gs) L in
          let there = rest_at taken L in
          let T = term_at a R.2 (lies_front s c.at fs gs there) in
          let ends : end ≡ c.at + width fs = S.told p.1 T in
          let rest = N.told ars a (c.value + 1) θ (omega arith) (subst (λ (y : ℕ). Rising ars (y + 1) θ) (sym got.0) R.3)
          (subst (λ (b : ℕ). Lies s b gs) (sym ends) (lies_back s c.at fs gs there)) in (
            subst (λ (y : ℕ). Noting book s fills least ((y, p.1) ∷ θ) w u) got.0
                (one_more book s fills least c.value c.at p.1 θ w u room (omega (arith, R.0, got.0)) small T rest.0),
            omega (arith, got.1, rest.1, width_append fs gs),
          )

-- ---- one pair after the other

-- k of the n pairs are noted: where the others are noted from here on, all are
pub record NotesRest (book s : List ℕ) (fills n at : ℕ) (w₀ : List ℕ) (k end : ℕ) (w : List ℕ) : Type 0 where
  pub all : (u : List ℕ) (r : ℕ) → NotesPairs book s fills (n - k) end w u r → NotesPairs book s fills n at w₀ u r

module _ (book s : List ℕ) (fills n at : ℕ) (w₀ : List ℕ) where
  pub rest_first : NotesRest book s fills n at w₀ 0 at w₀
  rest_first = let whole : n - 0 ≡ n = omega arith in record { all = λ u r N. rw whole at N }

  module _ {k here : ℕ} {w : List ℕ} (R : NotesRest book s fills n at w₀ k here w) where
    pub rest_pair : {c : Read} {end : ℕ} → fills + 64 ≤ length w → k < n → Takes s 6 here c → Skips book s c.at end
        → NotesRest book s fills n at w₀ (k + 1) end (set w (fills + c.value) (c.at + 1))
    rest_pair {c} {end} room more taken S =
        let left : n - (k + 1) ≡ n - k - 1 = omega arith in
        record {
          all = λ u r N. R.all u r
              (notes_pair book s fills (n - k) here w c end u r room (λ z. omega arith) taken S
              (subst (λ m. NotesPairs book s fills m end (set w (fills + c.value) (c.at + 1)) u r) left N));
        }

    pub rest_none : n ≤ k → NotesPairs book s fills n at w₀ w here
    rest_none l = R.all w here (notes_none book s fills (n - k) here w (omega arith))
