-- The subjects that the checks name, and the marks that they mean.
use Prim.Native.Nat.{ℕ}
use mathlib.Core.Path.{◌≡◌, refl, sym, subst, ap}
use mathlib.Core.Logic.{◌≢◌}
use mathlib.Core.List.{List, []}
use mathlib.Core.Option.{none, some, map}
use native.Mathlib.Omega.{arith}
use Rattle.patterns.specs.Term.{var, Filling, fill}
use Rattle.patterns.specs.Edition.{reindex}
use Rattle.patterns.specs.Derive.{Book}
use Rattle.patterns.specs.Certificate.{Fills, by, Mark, Use, Claim}
use Rattle.patterns.specs.First.{Exp, Pattern, Pair, one}
use Rattle.patterns.specs.Checks.{OnMark, instance, instance_mark, reindex_mark}
use Rattle.patterns.proofs.Term.{fill_var}
use Rattle.grammar.specs.Listing.{if_any, term_fields}
use Rattle.grammar.specs.Limits.{RootFits}
use Rattle.table.specs.Places.{USED}
use Rattle.instances.specs.declared.Read.{Read}
use Rattle.begins.specs.declared.Instance.{Instance}
use Rattle.comparing.specs.declared.Subject.TheVariants.{Empty, Call, Claimed}
use Rattle.comparing.specs.declared.Subject.{Subject}
use Rattle.comparing.specs.declared.Filled.{Filled}
use Rattle.comparing.specs.declared.Filled.TheVariants.{Bare, Used}
use Rattle.instances.specs.Lying.{Lies, KnownArities, behind}
use Rattle.instances.specs.Fillings.{FillsTold}
use Rattle.begins.specs.Placed.{RightAt, LeftAt}
use Rattle.instances.specs.Taking.{Takes}
use Rattle.begins.specs.Known.{Known, Scene, Uses}
use Rattle.comparing.specs.Subjects.{fills_of, Means, RightMeans}
use Rattle.instances.proofs.Lying.{lies_rest}
use Rattle.instances.proofs.Terms.{as_it_is}
use Rattle.instances.proofs.Taking.{term_at}
use Rattle.begins.proofs.Frames.{bare_tells}

-- a term of the certificate, reindexed and filled
claimed_means : {book cert w ars : List ℕ} {at : ℕ} {t : Pattern} (f : Filled) (θ : Filling Exp) (i j : ℕ) → KnownArities book ars
    → FillsTold book cert w (fills_of f) θ → LeftAt cert ars at t → Means book cert w (Claimed at i j f) (some (fill θ (reindex one (i, j) t))) (behind at t)
unfolding Means
claimed_means {t = t} f θ i j a g l = record { term = t; filling = θ; lies = term_at a l.fits l.lies; filled = g; mark = refl; ends = refl }

module _ {book cert w ars : List ℕ} {B : Book Exp} {es : List (Claim Exp)} where
  -- a head or call of a rule, filled by the line's own filling
  pub call_means : {θ : Fills Exp} {at : ℕ} {t : Pattern} → Scene book cert w ars B es θ → RootFits ars t → Lies book at (term_fields t)
      → Means book cert w (Call at) (some (fill (by θ) t)) (behind at t)
  unfolding Means
  call_means {θ} {at} {t} s f l = record {
    term = t;
    filling = by θ;
    lies = term_at s.known.arity f.fits l;
    filled = s.own;
    mark = ap (λ u. some (fill (by θ) u)) (sym (as_it_is t));
    ends = refl;
  }

  -- a left reindexed
  pub left_means : {at : ℕ} {t : Pattern} (i j : ℕ) → Known book cert w ars B es → LeftAt cert ars at t
      → Means book cert w (Claimed at i j Bare) (some (reindex one (i, j) t)) (behind at t)
  unfolding fills_of
  left_means {at} {t} i j k l =
      subst (λ u. Means book cert w (Claimed at i j Bare) (some u) (behind at t)) (fill_var (reindex one (i, j) t))
      (claimed_means Bare var i j k.arity (bare_tells k) l)

  -- and as it is
  pub left_itself : {at : ℕ} {t : Pattern} → Known book cert w ars B es → LeftAt cert ars at t → Means book cert w (Claimed at 1 0 Bare) (some t) (behind at t)
  left_itself {at} {t} k l = subst (λ u. Means book cert w (Claimed at 1 0 Bare) (some u) (behind at t)) (as_it_is t) (left_means 1 0 k l)

  -- a left reindexed and filled by a filling that stands in the table of uses
  pub filled_means : {at : ℕ} {t : Pattern} (θ : Fills Exp) (i j : ℕ) → Known book cert w ars B es → FillsTold book cert w USED (by θ) → LeftAt cert ars at t
      → Means book cert w (Claimed at i j Used) (some (fill (by θ) (reindex one (i, j) t))) (behind at t)
  unfolding fills_of
  filled_means θ i j k f l = claimed_means Used (by θ) i j k.arity f l

  -- the instance of a used left
  pub used_means : {u : Use Exp Pair} {c : Claim Exp} {r : Instance} → Known book cert w ars B es → Uses book cert w ars u c r
      → Means book cert w (Claimed r.left r.i r.j Used) (some (instance one u c.left)) (behind r.left c.left)
  unfolding instance
  used_means {u} {c} {r} k x =
      subst (λ i. Means book cert w (Claimed r.left i r.j Used) (some (instance one u c.left)) (behind r.left c.left)) (sym x.i)
      (subst (λ j. Means book cert w (Claimed r.left u.index.0 j Used) (some (instance one u c.left)) (behind r.left c.left)) (sym x.j)
      (filled_means u.fills u.index.0 u.index.1 k x.used x.claim_at.left_at))

-- ---- rights

pub right_itself : (m : Mark Exp) → reindex_mark one (1, 0) m ≡ m
right_itself none = refl
right_itself (some t) = ap some (as_it_is t)

module _ {cert : List ℕ} {at : ℕ} {c : Read} (t : Takes cert 1 at c) where
  pub right_none : {ars : List ℕ} {m : Mark Exp} → RightAt cert ars at m → c.value ≡ 0 → m ≡ none
  unfolding if_any
  right_none {m = none} r z = refl
  right_none {m = some u} r z = absurd (omega (arith, (t.told 1 (term_fields u) r.lies).0))

  pub right_left : {ars : List ℕ} {u : Pattern} → RightAt cert ars at (some u) → LeftAt cert ars c.at u
  unfolding if_any OnMark
  right_left {u = u} r = record {
    lies = subst (λ k. Lies cert k (term_fields u)) (sym (t.told 1 (term_fields u) r.lies).1) (lies_rest cert at 1 1 (term_fields u) r.lies);
    fits = r.fits;
  }

module _ {cert : List ℕ} {at : ℕ} {c : Read} (t : Takes cert 1 at c) (i j : ℕ) (f : Filled) where
  pub right_empty : c.value ≡ 0 → RightMeans cert at i j f Empty
  unfolding Means
  right_empty z = record { told = λ book w ars θ a g m r. (0, (ap (map (λ t. fill θ (reindex one (i, j) t))) (right_none t r z), refl)) }

  pub right_there : c.value ≢ 0 → RightMeans cert at i j f (Claimed c.at i j f)
  unfolding if_any
  right_there ne = record { told = go }
    where
      go : (book w ars : List ℕ) (θ : Filling Exp) → KnownArities book ars → FillsTold book cert w (fills_of f) θ → (m : Mark Exp) → RightAt cert ars at m
          → (end : ℕ) × Means book cert w (Claimed c.at i j f) (map (λ t. fill θ (reindex one (i, j) t)) m) end
      go book w ars θ a g none r = absurd (ne (t.told 0 [] r.lies).0)
      go book w ars θ a g (some u) r = (behind c.at u, claimed_means f θ i j a g (right_left t r))

-- a right reindexed
bare_mark : (i j : ℕ) (m : Mark Exp) → map (λ t. fill var (reindex one (i, j) t)) m ≡ reindex_mark one (i, j) m
bare_mark i j none = refl
bare_mark i j (some t) = ap some (fill_var (reindex one (i, j) t))

pub plain_right : {book cert w ars : List ℕ} {B : Book Exp} {es : List (Claim Exp)} {at i j : ℕ} {r : Subject} → RightMeans cert at i j Bare r
    → Known book cert w ars B es → (m : Mark Exp) → RightAt cert ars at m → (end : ℕ) × Means book cert w r (reindex_mark one (i, j) m) end
unfolding fills_of
plain_right {book} {cert} {w} {ars} {i = i} {j = j} {r = r} h k m a =
    let x = h.told book w ars var k.arity (bare_tells k) m a in
    (x.0, subst (λ n. Means book cert w r n x.0) (bare_mark i j m) x.1)

-- the instance of a used right
used_mark : (u : Use Exp Pair) (i j : ℕ) → u.index ≡ (i, j) → (m : Mark Exp) → map (λ t. fill (by u.fills) (reindex one (i, j) t)) m ≡ instance_mark one u m
unfolding instance
used_mark u i j e none = refl
used_mark u i j e (some t) = ap (λ q. some (fill (by u.fills) (reindex one q t))) (sym e)

pub used_right : {book cert w ars : List ℕ} {B : Book Exp} {es : List (Claim Exp)} {u : Use Exp Pair} {c : Claim Exp} {x : Instance} {r : Subject}
    → RightMeans cert x.right x.i x.j Used r → Known book cert w ars B es → Uses book cert w ars u c x
    → (end : ℕ) × Means book cert w r (instance_mark one u c.right) end
unfolding fills_of
used_right {book} {cert} {w} {ars} {u = u} {c = c} {x = x} {r = r} h k y =
    let z = h.told book w ars (by u.fills) k.arity y.used c.right y.claim_at.right_at in
    (z.0, subst (λ n. Means book cert w r n z.0) (used_mark u x.i x.j (λ i. (sym y.i i, sym y.j i)) c.right) z.1)
