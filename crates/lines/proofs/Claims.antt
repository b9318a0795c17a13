-- A line's claim noted among those before it, and the checks behind it.
use Prim.Native.Nat.{ℕ, zero, suc, ◌+◌, ◌<◌}
use mathlib.Core.Path.{◌≡◌, refl, sym, subst, ap, ◌∙◌}
use mathlib.Core.Logic.{◌≢◌, ◌⊎◌, inl, inr}
use mathlib.Core.List.{List, [], ◌∷◌, ◌++◌}
use mathlib.Core.Option.{some, some-injective}
use native.Mathlib.Omega.{arith}
use lib.ListN.{length, get_or, get_elem?}
use Rattle.bits.specs.Packed.{width}
use Rattle.bits.proofs.Groups.{width_append}
use Rattle.patterns.specs.First.{Exp, Pair, one}
use Rattle.patterns.specs.Derive.{Book}
use Rattle.patterns.specs.Certificate.{Claim, LineKind, unfolds, descends}
use Rattle.patterns.specs.Judge.{Check, line_checks}
use Rattle.grammar.specs.Listing.{if_any, term_fields, claim_fields, kind_fields, kind_number, line_fields}
use Rattle.grammar.specs.Limits.{KindFits, call_counts}
use Rattle.table.specs.Places.{LEFTS, RIGHTS, EMPTY}
use Rattle.instances.specs.declared.Read.{Read}
use Rattle.instances.specs.Lying.{Lies, behind}
use Rattle.instances.specs.Instances.{Skips}
use Rattle.begins.specs.Placed.{RightAt, LeftAt, RuleAt, ClaimAt, PassesRight}
use Rattle.instances.specs.Taking.{Takes}
use Rattle.begins.specs.Known.{Known}
use Rattle.comparing.specs.Found.{Found, Finds}
use Rattle.unfolds.specs.Unfoldings.{UnfoldAt}
use Rattle.descents.specs.Descents.{DescentAt}
use Rattle.lines.specs.Certificates.{NotesLine, KindAt, LineAt}
use Rattle.instances.proofs.Lying.{lies_front, lies_back}
use Rattle.instances.proofs.Taking.{term_at, rest_at}
use Rattle.patterns.proofs.Earlier.{listed_below}
use Rattle.instances.proofs.Entries.{entry_same}
use Rattle.begins.proofs.Frames.{known_below}

-- ---- a line's claim among the others

found_more : {A : Type 0} (l : List A) (a b : A) (i : ℕ) → get_elem? (l ++ (a ∷ [])) i ≡ some b → (get_elem? l i ≡ some b) ⊎ ((i ≡ length l) × (a ≡ b))
found_more [] a b zero e = inr (refl, some-injective a b e)
found_more [] a b (suc i) e = let z : ◌≡◌ {A = ℕ} 0 1 = cc in absurd (omega arith)
found_more (c ∷ l) a b zero e = inl e
found_more (c ∷ l) a b (suc i) e = shift (found_more l a b i e)
  where
    shift : (get_elem? l i ≡ some b) ⊎ ((i ≡ length l) × (a ≡ b)) → (get_elem? l i ≡ some b) ⊎ ((suc i ≡ suc (length l)) × (a ≡ b))
    shift (inl p) = inl p
    shift (inr p) = inr (ap suc p.0, p.1)

pub length_more : {A : Type 0} (l : List A) (a : A) → length (l ++ (a ∷ [])) ≡ length l + 1
length_more [] a = refl
length_more (b ∷ l) a = omega (arith, length_more l a)

known_more : {book cert w v ars : List ℕ} {B : Book Exp} {es : List (Claim Exp)} {left right : ℕ} {c : Claim Exp} → NotesLine (length es) left right w v
    → length es < 255 → Known book cert w ars B es → ClaimAt cert ars left right c → Known book cert v ars B (es ++ (c ∷ []))
known_more {book} {cert} {w} {v} {ars} {B} {es} {left} {right} {c} n small k here = record {
  arity = k.arity;
  few_rules = k.few_rules;
  few_claims = omega (arith, length_more es c);
  rule = λ i r e.
      let l = listed_below B i r e in
      subst (λ j. RuleAt book ars j r) (sym (n.others i (λ z. omega (arith, k.few_rules)) (λ z. omega (arith, k.few_rules)))) (k.rule i r e);
  claim = λ i d e. go i d (found_more es c d i e);
  bare = λ x. entry_same EMPTY w v (λ i p q. n.others i (λ z. omega arith) (λ z. omega arith)) x ∙ k.bare x;
}
  where
    go : (i : ℕ) (d : Claim Exp) → (get_elem? es i ≡ some d) ⊎ ((i ≡ length es) × (c ≡ d)) → ClaimAt cert ars (get_or v (LEFTS + i) 0) (get_or v (RIGHTS + i) 0) d
    go i d (inl e) =
        let l = listed_below es i d e in
        let a = n.others (LEFTS + i) (λ z. omega arith) (λ z. omega arith) in
        let b = n.others (RIGHTS + i) (λ z. omega arith) (λ z. omega arith) in
        subst (λ j. ClaimAt cert ars j (get_or v (RIGHTS + i) 0) d) (sym a)
        (subst (λ j. ClaimAt cert ars (get_or w (LEFTS + i) 0) j d) (sym b) (k.claim i d e))
    go i d (inr e) =
        let a : left ≡ get_or v (LEFTS + i) 0 = sym n.left_word ∙ ap (λ j. get_or v (LEFTS + j) 0) (sym e.0) in
        let b : right ≡ get_or v (RIGHTS + i) 0 = sym n.right_word ∙ ap (λ j. get_or v (RIGHTS + j) 0) (sym e.0) in
        subst (λ x. ClaimAt cert ars (get_or v (LEFTS + i) 0) (get_or v (RIGHTS + i) 0) x) e.1
        (subst (λ j. ClaimAt cert ars j (get_or v (RIGHTS + i) 0) c) a (subst (λ j. ClaimAt cert ars left j c) b here))

-- the claims before a line, and the table that has its claim too
known_as_before : {book cert v ars : List ℕ} {B : Book Exp} (es : List (Claim Exp)) (c : Claim Exp) → Known book cert v ars B (es ++ (c ∷ [])) → Known book cert v ars B es
known_as_before es c k = record {
  arity = k.arity;
  few_rules = k.few_rules;
  few_claims = omega (arith, length_more es c, k.few_claims);
  rule = k.rule;
  claim = λ i d e. k.claim i d (earlier es c i d e);
  bare = k.bare;
}
  where
    earlier : (l : List (Claim Exp)) (a : Claim Exp) (i : ℕ) (d : Claim Exp) → get_elem? l i ≡ some d → get_elem? (l ++ (a ∷ [])) i ≡ some d
    earlier [] a i d e = let z : ◌≡◌ {A = ℕ} 0 1 = cc in absurd (omega arith)
    earlier (b ∷ l) a zero d e = e
    earlier (b ∷ l) a (suc i) d e = earlier l a i d e

-- ---- a line

module _ {book cert w after : List ℕ} {tag left right at : ℕ} {r : Found} where
  pub kind_unfold : tag ≡ 0 → UnfoldAt book cert left right at w after r → KindAt book cert tag left right at w after r
  unfolding kind_number
  kind_unfold z p = record { told = λ ars B es known l L R e fits lies. go ars B es known l.claim L R l.kind e fits lies; below = p.below }
    where
      go : (ars : List ℕ) (B : Book Exp) (es : List (Claim Exp)) → Known book cert w ars B es → (l : Claim Exp) → LeftAt cert ars left l.left
          → RightAt cert ars right l.right → (q : LineKind Exp Pair) → kind_number q ≡ tag → KindFits ars (call_counts B) (length es) q
          → Lies cert at (kind_fields q) → Finds (line_checks one es B l q) (at + width (kind_fields q)) r
      go ars B es known l L R (unfolds k θ s) e fits lies = p.told ars B es known l L R k θ s fits lies
      go ars B es known l L R (descends u k θ) e fits lies = absurd (omega arith)

  pub kind_descent : tag ≢ 0 → DescentAt book cert left right at w after r → KindAt book cert tag left right at w after r
  unfolding kind_number
  kind_descent ne p = record { told = λ ars B es known l L R e fits lies. go ars B es known l.claim L R l.kind e fits lies; below = p.below }
    where
      go : (ars : List ℕ) (B : Book Exp) (es : List (Claim Exp)) → Known book cert w ars B es → (l : Claim Exp) → LeftAt cert ars left l.left
          → RightAt cert ars right l.right → (q : LineKind Exp Pair) → kind_number q ≡ tag → KindFits ars (call_counts B) (length es) q
          → Lies cert at (kind_fields q) → Finds (line_checks one es B l q) (at + width (kind_fields q)) r
      go ars B es known l L R (unfolds k θ s) e fits lies = absurd (ne (sym e))
      go ars B es known l L R (descends u k θ) e fits lies = p.told ars B es known l L R u k θ fits lies

pub line_at : {book cert w v after : List ℕ} {at k right rest : ℕ} {t : Read} {r : Found} → Takes cert 1 at t → Skips book cert t.at right
    → PassesRight book cert right rest → NotesLine k t.at right w v → KindAt book cert t.value t.at right rest v after r
    → LineAt book cert at k w after r
unfolding line_fields claim_fields width
line_at {book} {cert} {w} {v} {after} {at} {k} {right} {rest} {t} {r} tt' skips passes notes kind = record {
  told = λ ars B es known len small l claim fits lies.
      let left-fields = term_fields l.claim.left in
      let right-fields = if_any term_fields l.claim.right in
      let behind_tag = rest_at tt' lies in
      let both = lies_front cert t.at (left-fields ++ right-fields) (kind_fields l.kind) behind_tag in
      let left-lies = lies_front cert t.at left-fields right-fields both in
      let to_right : right ≡ behind t.at l.claim.left = skips.told l.claim.left (term_at known.arity claim.left left-lies) in
      let right_at : RightAt cert ars right l.claim.right = record {
        lies = subst (λ j. Lies cert j right-fields) (sym to_right) (lies_back cert t.at left-fields right-fields both);
        fits = claim.right;
      } in
      let to_rest : rest ≡ right + width right-fields = passes.told ars l.claim.right known.arity right_at in
      let kind-lies = lies_back cert t.at (left-fields ++ right-fields) (kind_fields l.kind) behind_tag in
      let to_kind : t.at + width (left-fields ++ right-fields) ≡ rest = omega (arith, to_right, to_rest, width_append left-fields right-fields) in
      let left_at : LeftAt cert ars t.at l.claim.left = record { lies = left-lies; fits = claim.left } in
      let more : Known book cert v ars B (es ++ (l.claim ∷ [])) =
      known_more (subst (λ j. NotesLine j t.at right w v) (sym len) notes) (omega arith) known (record { left_at = left_at; right_at = right_at }) in
      let x = tt'.told (kind_number l.kind) _ lies in (
        finds_to (omega (arith, x.1, to_kind, width_append (left-fields ++ right-fields) (kind_fields l.kind)))
            (kind.told ars B es (known_as_before es l.claim more) l left_at right_at (sym x.0) (subst (λ j. KindFits ars (call_counts B) j l.kind) (sym len) fits)
            (subst (λ j. Lies cert j (kind_fields l.kind)) to_kind kind-lies)),
        known_below kind.below more,
      );
  size = kind.below.size ∙ notes.size;
}
  where
    finds_to : {ks : List (Check Exp)} {e end : ℕ} → e ≡ end → Finds ks e r → Finds ks end r
    finds_to {ks} q h = subst (λ x. Finds ks x r) q h
