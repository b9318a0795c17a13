-- What the table tells stays where no word of it has changed.
use Prim.Native.Nat.{ℕ, ◌+◌, ◌≤◌}
use mathlib.Core.Path.{refl, sym, subst, ◌∙◌}
use mathlib.Core.List.{List}
use native.Mathlib.Omega.{arith}
use lib.ListN.{get_or}
use Rattle.patterns.specs.Term.{var, Filling}
use Rattle.patterns.specs.First.{Exp, Pair}
use Rattle.patterns.specs.Derive.{Book}
use Rattle.patterns.specs.Certificate.{Fills, Claim, Use}
use Rattle.table.specs.Places.{LEFTS, RIGHTS, EMPTY, OWN, USED, FIRST}
use Rattle.patterns.proofs.Earlier.{listed_below}
use Rattle.table.specs.Sides.{Kept}
use Rattle.instances.proofs.Entries.{entry_same, fills_same}
use Rattle.begins.specs.declared.Instance.{Instance}
use Rattle.instances.specs.Fillings.{unlisted, FillsTold}
use Rattle.begins.specs.Placed.{RuleAt, ClaimAt}
use Rattle.begins.specs.Known.{Below, Known, Scene, Uses}

pub below_self : (n : ℕ) (w : List ℕ) → Below n w w
below_self n w = record { size = refl; low = λ k h. refl }

pub below_then : {n : ℕ} {w v u : List ℕ} → Below n w v → Below n v u → Below n w u
below_then p q = record { size = q.size ∙ p.size; low = λ k h. q.low k h ∙ p.low k h }

pub below_less : {n m : ℕ} {w v : List ℕ} → n ≤ m → Below m w v → Below n w v
below_less h p = record { size = p.size; low = λ k l. p.low k (omega arith) }

pub kept_below : {base room : ℕ} {w v : List ℕ} → Kept base room w v → Below base w v
kept_below c = record { size = c.size; low = c.low }

-- ---- fillings

pub tells_below : {n fills : ℕ} {book cert w v : List ℕ} {θ : Filling Exp} → fills + 64 ≤ n → Below n w v → FillsTold book cert w fills θ → FillsTold book cert v fills θ
tells_below h b t = fills_same _ _ _ (λ k p q. b.low k (omega arith)) t

pub tells_above : {base room fills : ℕ} {book cert w v : List ℕ} {θ : Filling Exp} → base + room ≤ fills → Kept base room w v → FillsTold book cert w fills θ
    → FillsTold book cert v fills θ
tells_above h c t = fills_same _ _ _ (λ k p q. c.high k (omega arith)) t

-- ---- rules and claims

pub known_below : {book cert w v ars : List ℕ} {B : Book Exp} {es : List (Claim Exp)} → Below OWN w v → Known book cert w ars B es → Known book cert v ars B es
known_below {book} {cert} {w} {v} {ars} {B} {es} b k = record {
  arity = k.arity;
  few_rules = k.few_rules;
  few_claims = k.few_claims;
  rule = λ i r e. let l = listed_below B i r e in subst (λ j. RuleAt book ars j r) (sym (b.low i (omega (arith, k.few_rules)))) (k.rule i r e);
  claim = λ i c e.
      let l = listed_below es i c e in
      let left = b.low (LEFTS + i) (omega (arith, k.few_claims)) in
      let right = b.low (RIGHTS + i) (omega (arith, k.few_claims)) in
      subst (λ j. ClaimAt cert ars j (get_or v (RIGHTS + i) 0) c) (sym left) (subst (λ j. ClaimAt cert ars (get_or w (LEFTS + i) 0) j c) (sym right) (k.claim i c e));
  bare = λ x. entry_same EMPTY w v (λ i p q. b.low i (omega arith)) x ∙ k.bare x;
}

pub scene_below : {book cert w v ars : List ℕ} {B : Book Exp} {es : List (Claim Exp)} {θ : Fills Exp} → Below USED w v → Scene book cert w ars B es θ
    → Scene book cert v ars B es θ
scene_below b s = record { known = known_below (below_less (omega arith) b) s.known; own = tells_below (omega arith) b s.own }

pub uses_below : {book cert w v ars : List ℕ} {u : Use Exp Pair} {c : Claim Exp} {r : Instance} → Below FIRST w v → Uses book cert w ars u c r
    → Uses book cert v ars u c r
uses_below b h = record { claim_at = h.claim_at; i = h.i; j = h.j; used = tells_below (omega arith) b h.used }

-- no filling is a table of zeros
pub bare_tells : {book cert w ars : List ℕ} {B : Book Exp} {es : List (Claim Exp)} → Known book cert w ars B es → FillsTold book cert w EMPTY var
bare_tells k = record { each = λ x. unlisted (k.bare x) }
