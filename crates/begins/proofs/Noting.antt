-- The begins of rules noted in the table are where the rules lie.
use Prim.Native.Nat.{ℕ, zero, suc, ◌+◌, ◌-◌, ◌*◌, ◌<◌}
use mathlib.Core.Path.{◌≡◌, refl, sym, subst, ap, ◌∙◌}
use mathlib.Core.Logic.{◌≢◌}
use mathlib.Core.List.{List, [], ◌∷◌, flat_map}
use mathlib.Core.Option.{some, some-injective}
use native.Mathlib.Omega.{arith}
use native.Mathlib.Nat.{zero-add}
use lib.ListN.{length, get_or, set, get_elem?, length-set}
use lib.Seq.{get_or-set_same, get_or-set_other}
use Rattle.bits.specs.Packed.{width}
use Rattle.patterns.specs.First.{Exp}
use Rattle.patterns.specs.Every.{Every}
use Rattle.patterns.specs.Derive.{Rule, Book}
use Rattle.grammar.specs.Listing.{arity_fields, signature_fields, rule_fields, book_fields}
use Rattle.grammar.specs.Limits.{RuleFits}
use Rattle.table.specs.Sides.{Kept}
use Rattle.table.proofs.Sides.{kept_wider}
use Rattle.table.proofs.Writes.{kept_self, kept_then}
use Rattle.instances.specs.declared.Read.{Read}
use Rattle.instances.specs.Lying.{Lies, KnownArities}
use Rattle.begins.specs.Placed.{RuleAt, PassesRule, NotesRules, Indexes}
use Rattle.instances.specs.Taking.{Takes}
use Rattle.instances.proofs.Lying.{lies_rest, lies_front, lies_back}

-- what `NotesRules` tells
abbrev NotesTold : List ℕ → (at k n : ℕ) → List ℕ → Type 0
NotesTold book at k n after =
    (ars : List ℕ) (rs : Book Exp) → KnownArities book ars → length rs ≡ n → Every (RuleFits ars) rs
    → Lies book at (flat_map rule_fields rs) → (i : ℕ) (r : Rule Exp) → get_elem? rs i ≡ some r → RuleAt book ars (get_or after (k + i) 0) r

pub notes_none : (book : List ℕ) (at k n : ℕ) (w : List ℕ) → n ≡ 0 → NotesRules book at k n w w
notes_none book at k n w e = record { told = go; kept = kept_self k n w }
  where
    go : NotesTold book at k n w
    go ars [] a l f p i r q = let z : ◌≡◌ {A = ℕ} 0 1 = cc in absurd (omega arith)
    go ars (r₀ ∷ rs) a l f p i r q = absurd (omega arith)

-- a word written at a place changes that word and nothing else
pub kept_word : (w : List ℕ) (k v : ℕ) → Kept k 1 w (set w k v)
kept_word w k v = record {
  size = length-set w k v;
  low = λ i h. get_or-set_other w k i v 0 (λ z. omega arith);
  high = λ i h. get_or-set_other w k i v 0 (λ z. omega arith);
}

pub notes_one : (book : List ℕ) (at k n next : ℕ) (w after : List ℕ) → n ≢ 0 → k < length w → PassesRule book at next
    → NotesRules book next (k + 1) (n - 1) (set w k at) after → NotesRules book at k n w after
unfolding flat_map Every
notes_one book at k n next w after ne room passes rest = record {
  told = go;
  kept = kept_then (kept_wider (omega arith) (omega arith) (kept_word w k at)) (kept_wider (omega arith) (omega arith) rest.kept);
}
  where
    here : get_or after (k + 0) 0 ≡ at
    here = ap (λ j. get_or after j 0) (omega arith) ∙ rest.kept.low k (omega arith) ∙ get_or-set_same w k at 0 room

    go : NotesTold book at k n after
    go ars [] a l f p i r q = absurd (ne (sym l))
    go ars (r₀ ∷ rs) a l f p zero r q =
        subst (λ j. RuleAt book ars j r) (sym here)
        (subst (λ u. RuleAt book ars at u) (some-injective r₀ r q)
        (record { lies = lies_front book at (rule_fields r₀) (flat_map rule_fields rs) p; fits = f.0 }))
    go ars (r₀ ∷ rs) a l f p (suc i) r q =
        let first = lies_front book at (rule_fields r₀) (flat_map rule_fields rs) p in
        let end = passes.told ars r₀ a (record { lies = first; fits = f.0 }) in
        let behind = subst (λ j. Lies book j (flat_map rule_fields rs)) (sym end) (lies_back book at (rule_fields r₀) (flat_map rule_fields rs) p) in
        subst (λ j. RuleAt book ars (get_or after j 0) r) (omega arith) (rest.told ars rs a (omega arith) f.1 behind i r q)

-- what the loop over rules keeps: whatever is noted of the m rules left, from row j on, is noted of all n
pub record NotesOn (book : List ℕ) (at k n : ℕ) (w : List ℕ) (here j m : ℕ) (v : List ℕ) : Type 0 where
  pub whole : {after : List ℕ} → NotesRules book here j m v after → NotesRules book at k n w after

pub rules_here : {book : List ℕ} {at k n m : ℕ} {w : List ℕ} → m ≡ n → NotesOn book at k n w at k m w
rules_here {book} {at} {k} {w = w} e = record { whole = λ {after} h. subst (λ i. NotesRules book at k i w after) e h }

module _ {book : List ℕ} {at k n here j m : ℕ} {w v : List ℕ} (N : NotesOn book at k n w here j m v) where
  pub rules_end : m ≡ 0 → NotesRules book at k n w v
  rules_end z = N.whole (notes_none book here j m v z)

  pub rules_on : {next less : ℕ} → m ≢ 0 → less ≡ m - 1 → j < length v → PassesRule book here next → NotesOn book at k n w next (j + 1) less (set v j here)
  rules_on {next} ne l room passes = record {
    whole = λ {after} h. N.whole (notes_one book here j m next v after ne room passes (subst (λ i. NotesRules book next (j + 1) i (set v j here) after) l h));
  }

-- ---- the whole book

width_arities : (ars : List ℕ) → width (flat_map arity_fields ars) ≡ 4 * length ars
unfolding flat_map arity_fields width
width_arities [] = refl
width_arities (a ∷ ars) = omega (arith, width_arities ars)

pub indexes : (book w after : List ℕ) (c d : Read) → Takes book 8 0 c → Takes book 8 (8 + 4 * c.value) d
    → NotesRules book d.at 0 d.value w after → Indexes book w after
unfolding book_fields signature_fields width
indexes book w after c d t u h = record {
  told = λ b a f l i r q.
      let symbols = t.told (length b.arities) _ l in
      let sized : width (signature_fields b.arities) ≡ 8 + 4 * c.value = omega (arith, width_arities b.arities, symbols.0) in
      let count = subst (λ j. Lies book j ((8, length b.rules) ∷ flat_map rule_fields b.rules)) (zero-add _ ∙ sized)
      (lies_back book 0 (signature_fields b.arities) ((8, length b.rules) ∷ flat_map rule_fields b.rules) l) in
      let rules = u.told (length b.rules) (flat_map rule_fields b.rules) count in
      subst (λ j. RuleAt book b.arities (get_or after j 0) r) (zero-add i)
      (h.told b.arities b.rules a (sym rules.0) f.rules
      (subst (λ j. Lies book j (flat_map rule_fields b.rules)) (sym rules.1)
      (lies_rest book (8 + 4 * c.value) 8 (length b.rules) (flat_map rule_fields b.rules) count)) i r q);
  kept = kept_wider (omega arith) (omega (arith, u.small)) h.kept;
}
