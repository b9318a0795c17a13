-- The parts of a descent, from its base to its level right.
use Rattle.std.proofs.Common.{Ok, Err}
use Prim.Native.Nat.{ℕ}
use mathlib.Core.Path.{◌≡◌, refl, sym, subst, ap, ◌∙◌}
use mathlib.Core.List.{List, [], ◌∷◌, flat_map, append-nil}
use mathlib.Core.Option.{none, some}
use native.Mathlib.Omega.{arith}
use lib.ListN.{length, get_or}
use Rattle.bits.specs.Packed.{width}
use Rattle.bits.proofs.Groups.{width_append}
use Rattle.patterns.specs.Term.{fill}
use Rattle.patterns.specs.First.{Exp, Pattern, Pair, one}
use Rattle.patterns.specs.Every.{Every}
use Rattle.patterns.specs.Edition.{reindex}
use Rattle.patterns.specs.Derive.{Rule, Book}
use Rattle.patterns.specs.Certificate.{Fills, by, Claim, Mark, Use}
use Rattle.patterns.specs.Checks.{instance}
use Rattle.patterns.specs.Demand.{level}
use Rattle.patterns.specs.Judge.{check, compare, sole, line_checks}
use Rattle.grammar.specs.Listing.{term_fields, use_fields, kind_fields, filling_fields}
use Rattle.grammar.specs.Limits.{RootFits, KindFits, call_counts}
use Rattle.instances.specs.declared.Read.{Read}
use Rattle.comparing.specs.declared.Fault.{Fault}
use Rattle.comparing.specs.declared.Whole.TheVariants.{Descent}
use Rattle.begins.specs.declared.Instance.{Instance}
use Rattle.comparing.specs.declared.Subject.{Subject}
use Rattle.comparing.specs.declared.Subject.TheVariants.{Empty, Call, Claimed}
use Rattle.comparing.specs.declared.Filled.TheVariants.{Bare, Used}
use Rattle.comparing.specs.declared.Behind.TheVariants.{Nothing}
use Rattle.instances.specs.Lying.{Lies, behind, KnownArities}
use Rattle.instances.specs.Listings.{Lists}
use Rattle.begins.specs.Placed.{RightAt, RuleAt}
use Rattle.instances.specs.Taking.{Takes}
use Rattle.begins.specs.Known.{Below, ReadsUse}
use Rattle.comparing.specs.Subjects.{Means, RightMeans}
use Rattle.comparing.specs.Found.{Found, Finds}
use Rattle.comparing.specs.Asked.{asked_at, checks_of, end_of, Checks}
use Rattle.descents.specs.Descents.{Descending, base_checks, head_checks, call_checks, DescentBy, DescentOn, DescentAt}
use Rattle.instances.proofs.Lying.{lies_front, lies_back}
use Rattle.instances.proofs.Taking.{rest_at}
use Rattle.begins.proofs.Frames.{below_then, below_less, kept_below, known_below, scene_below, uses_below, tells_above}
use Rattle.comparing.proofs.Meanings.{call_means, left_means, left_itself, used_means, plain_right, used_right}
use Rattle.comparing.proofs.Finding.{finds_fault, finds_last, finds_stop, finds_then, finds_ending, finds_given}
use Rattle.patterns.proofs.Every.{below_listed, map_listed}
use Rattle.table.specs.Places.{OWN, FIRST}
use Rattle.begins.proofs.Calling.{head_lies, calls_at}

-- ---- what is found of the first parts

-- of parts 0 and 1
pub record DescentBase (book cert : List ℕ) (left right : ℕ) (base : Instance) (w after : List ℕ) (r : Found) : Type 0 where
  pub told : (ars : List ℕ) (B : Book Exp) (es : List (Claim Exp)) (θ : Fills Exp) (l : Claim Exp) (u : Use Exp Pair) (c : Claim Exp)
      → Descending book cert w ars B es θ left right l u c base → (e : ℕ) × Finds (base_checks u c l) e r
  pub below : Below FIRST w after

-- a rule's head lies at a bit of the book, with its only call behind it
pub record HeadAt (book ars : List ℕ) (at : ℕ) (h v : Pattern) : Type 0 where
  pub head : Lies book at (term_fields h)
  pub head_fits : RootFits ars h
  pub call : Lies book (behind at h) (term_fields v)
  pub call_fits : RootFits ars v

-- of parts 0 to 2
pub record DescentHead (book cert : List ℕ) (left right : ℕ) (base : Instance) (head : ℕ) (w after : List ℕ) (r : Found) : Type 0 where
  pub told : (ars : List ℕ) (B : Book Exp) (es : List (Claim Exp)) (θ : Fills Exp) (l : Claim Exp) (u : Use Exp Pair) (c : Claim Exp)
      → Descending book cert w ars B es θ left right l u c base → (h v : Pattern) → HeadAt book ars head h v
      → Finds (head_checks u c l θ h) (behind head h) r
  pub below : Below FIRST w after

-- of parts 0 to 3
pub record DescentCall (book cert : List ℕ) (left right : ℕ) (base : Instance) (head : ℕ) (w after : List ℕ) (r : Found) : Type 0 where
  pub told : (ars : List ℕ) (B : Book Exp) (es : List (Claim Exp)) (θ : Fills Exp) (l : Claim Exp) (u : Use Exp Pair) (c : Claim Exp)
      → Descending book cert w ars B es θ left right l u c base → (h v : Pattern) → HeadAt book ars head h v
      → (e : ℕ) × Finds (call_checks u c l θ h v) e r
  pub below : Below FIRST w after

-- 01, part 4: "right is empty or has a = 0 in every power"
pub record LevelRight (book cert : List ℕ) (right at : ℕ) (w after : List ℕ) (r : Found) : Type 0 where
  pub told : (ars : List ℕ) → KnownArities book ars → (m : Mark Exp) → RightAt cert ars right m → Finds (check 13 4 (level m) ∷ []) at r
  pub below : Below FIRST w after

-- ---- the parts of a descent

module _ {book cert w v : List ℕ} {left right : ℕ} {base : Instance} {r : Found} (first : Checks book cert Descent 0 right Nothing (Claimed base.left base.i base.j Used) (Claimed left 0 0 Bare) w v r) where
  first_found : {ars : List ℕ} {B : Book Exp} {es : List (Claim Exp)} {θ : Fills Exp} {l : Claim Exp} {u : Use Exp Pair} {c : Claim Exp}
      → Descending book cert w ars B es θ left right l u c base
      → Finds (compare 9 0 (some (instance one u c.left)) (some (reindex one (0, 0) l.left))) (behind base.left c.left) r
  unfolding asked_at checks_of end_of
  first_found {ars} D = first.told ars D.scene.known.arity _ D.right_at _ _ (used_means D.scene.known D.base_at) _ _ (left_means 0 0 D.scene.known D.left_at)

  pub base_fault : {f : Fault} → r ≡ Err f → DescentBase book cert left right base w v (Err f)
  base_fault q = record { told = λ ars B es θ l u c D. (0, finds_stop _ (first_found D) q); below = first.below }

  pub base_on : {x : ℕ} {theirs own : Subject} {after : List ℕ} {s : Found} → r ≡ Ok x → RightMeans cert base.right base.i base.j Used theirs
      → RightMeans cert right 0 0 Bare own → Checks book cert Descent 1 right Nothing theirs own v after s → DescentBase book cert left right base w after s
  unfolding asked_at checks_of end_of
  base_on {x} {theirs} {own} {after} {s} q t o second = record { told = go; below = below_then first.below second.below }
    where
      go : (ars : List ℕ) (B : Book Exp) (es : List (Claim Exp)) (θ : Fills Exp) (l : Claim Exp) (u : Use Exp Pair) (c : Claim Exp)
          → Descending book cert w ars B es θ left right l u c base → (e : ℕ) × Finds (base_checks u c l) e s
      go ars B es θ l u c D =
          let known = known_below (below_less (omega arith) first.below) D.scene.known in
          let a = used_right t known (uses_below first.below D.base_at) in
          let b = plain_right o known l.right D.right_at in
          (a.0, finds_then (first_found D) q (λ z. second.told ars known.arity _ D.right_at _ _ a.1 _ _ b.1))

descending_below : {book cert w v ars : List ℕ} {B : Book Exp} {es : List (Claim Exp)} {θ : Fills Exp} {left right : ℕ} {l : Claim Exp} {u : Use Exp Pair} {c : Claim Exp} {base : Instance}
    → Below FIRST w v → Descending book cert w ars B es θ left right l u c base → Descending book cert v ars B es θ left right l u c base
descending_below b D = record {
  scene = scene_below (below_less (omega arith) b) D.scene;
  left_at = D.left_at;
  right_at = D.right_at;
  base_at = uses_below b D.base_at;
}

module _ {book cert w v : List ℕ} {left right : ℕ} {base : Instance} {head : ℕ} {r : Found} where
  pub head_fault : {f : Fault} → DescentBase book cert left right base w v r → r ≡ Err f → DescentHead book cert left right base head w v (Err f)
  head_fault d q = record { told = λ ars B es θ l u c D h t H. finds_stop _ (d.told ars B es θ l u c D).1 q; below = d.below }

  pub head_on : {x : ℕ} {after : List ℕ} {s : Found} → DescentBase book cert left right base w v r → r ≡ Ok x
      → Checks book cert Descent 2 right Nothing (Call head) (Claimed left 1 1 Bare) v after s → DescentHead book cert left right base head w after s
  unfolding asked_at checks_of end_of
  head_on d q third = record {
    told = λ ars B es θ l u c D h t H.
        let E = descending_below d.below D in
        finds_then (d.told ars B es θ l u c D).1 q
        (λ z. third.told ars E.scene.known.arity _ E.right_at _ _ (call_means E.scene H.head_fits H.head) _ _ (left_means 1 1 E.scene.known E.left_at));
    below = below_then d.below third.below;
  }

  pub call_fault : {f : Fault} → DescentHead book cert left right base head w v r → r ≡ Err f → DescentCall book cert left right base head w v (Err f)
  call_fault d q = record { told = λ ars B es θ l u c D h t H. (0, finds_stop _ (d.told ars B es θ l u c D h t H) q); below = d.below }

  pub call_on : {x : ℕ} {after : List ℕ} {s : Found} → DescentHead book cert left right base head w v r → r ≡ Ok x
      → Checks book cert Descent 3 right Nothing (Call x) (Claimed left 1 0 Bare) v after s → DescentCall book cert left right base head w after s
  unfolding asked_at checks_of end_of
  call_on {x} d q fourth = record {
    told = λ ars B es θ l u c D h t H.
        let E = descending_below d.below D in (
          behind (behind head h) t,
          finds_then (d.told ars B es θ l u c D h t H) q
              (λ z. fourth.told ars E.scene.known.arity _ E.right_at _ _ (subst (λ a. Means book cert v (Call a) (some (fill (by θ) t)) (behind (behind head h) t)) (sym z) (call_means E.scene H.call_fits H.call)) _ _
              (left_itself E.scene.known E.left_at)),
        );
    below = below_then d.below fourth.below;
  }

-- ---- part 4

module _ {book cert w after : List ℕ} {right : ℕ} {r : Found} (c : Checks book cert Descent 4 right Nothing Empty Empty w after r) where
  level_found : (ars : List ℕ) → KnownArities book ars → (m : Mark Exp) → RightAt cert ars right m → Finds (check 13 4 (level m) ∷ []) 0 r
  unfolding asked_at checks_of end_of Means
  level_found ars k m a = c.told ars k m a none 0 (refl, refl) none 0 (refl, refl)

  pub level_fault : {at : ℕ} {f : Fault} → r ≡ Err f → LevelRight book cert right at w after (Err f)
  level_fault q = record { told = λ ars k m a. finds_fault (level_found ars k m a) q; below = c.below }

  pub level_good : {at x : ℕ} → r ≡ Ok x → LevelRight book cert right at w after (Ok at)
  level_good q = record { told = λ ars k m a. finds_last (level_found ars k m a) q; below = c.below }

-- ---- all parts

module _ {book cert w v : List ℕ} {left right rule : ℕ} {base : Instance} {c : Read} {r : Found} (t : Takes book 4 rule c) (d : DescentCall book cert left right base c.at w v r) where
  head_at : {ars : List ℕ} {h : Rule Exp} {p : Pattern} → RuleAt book ars rule h → h.calls ≡ p ∷ [] → HeadAt book ars c.at h.head p
  unfolding flat_map Every
  head_at {ars} {h} {p} R e =
      let C = calls_at t R refl in
      let one_call : Lies book (behind c.at h.head) (term_fields p) =
      subst (Lies book (behind c.at h.head)) (append-nil (term_fields p)) (subst (λ l. Lies book (behind c.at h.head) (flat_map term_fields l)) e C.lies) in
      let fits : Every (RootFits ars) (p ∷ []) = subst (Every (RootFits ars)) e C.fits in
      record { head = head_lies t R; head_fits = R.fits.head; call = one_call; call_fits = fits.0 }

  pub by_fault : {at : ℕ} {f : Fault} → r ≡ Err f → DescentBy book cert left right base rule at w v (Err f)
  by_fault q = record {
    told = λ ars B es θ l u b D h p R e. finds_stop _ (d.told ars B es θ l u b D h.head p (head_at R e)).1 q;
    below = d.below;
  }

  pub by_on : {at x : ℕ} {after : List ℕ} {s : Found} → r ≡ Ok x → LevelRight book cert right at v after s
      → DescentBy book cert left right base rule at w after s
  by_on q l = record {
    told = λ ars B es θ k u b D h p R e.
        finds_then (d.told ars B es θ k u b D h.head p (head_at R e)).1 q (λ z. l.told ars D.scene.known.arity k.right D.right_at);
    below = below_then d.below l.below;
  }

sole_call : (vs : List Pattern) → length vs ≡ 1 → (v : Pattern) × (vs ≡ v ∷ [])
sole_call [] e = absurd (omega arith)
sole_call (v ∷ []) e = (v, refl)
sole_call (v ∷ t ∷ vs) e = absurd (omega arith)

pub descent_on : {book cert w v after : List ℕ} {left right begin end : ℕ} {base : Instance} {c : Read} {r : Found} → Takes cert 8 base.end c
    → begin ≡ get_or w c.value 0 → Lists book cert OWN c.at w v end → DescentBy book cert left right base begin end v after r
    → DescentOn book cert left right base w after r
unfolding width line_checks sole call_counts
descent_on {book} {cert} {w} {v} {after} {left} {right} {begin} {end} {base} {c} {r} t e f p = record {
  told = λ ars B es known l L R u d U k θ n fits lies found.
      let x = t.told k _ lies in
      let g = f.told ars known.arity θ fits (rest_at t lies) in
      let N = map_listed (λ r. length r.calls) B k 1 n in
      let only_call = sole_call N.0.calls N.2 in
      let here : RuleAt book ars begin N.0 =
      subst (λ j. RuleAt book ars j N.0) (ap (λ j. get_or w j 0) (sym x.0) ∙ sym e) (known.rule k N.0 N.1) in
      let only : sole N.0.calls ≡ some only_call.0 = ap sole only_call.1 in
      let D : Descending book cert v ars B es θ left right l u d base = record {
        scene = record { known = known_below (kept_below f.kept) known; own = g.0 };
        left_at = L;
        right_at = R;
        base_at = record { claim_at = U.claim_at; i = U.i; j = U.j; used = tells_above (omega arith) f.kept U.used };
      } in
      finds_ending (omega (arith, x.1, g.1))
      (finds_given _ found (finds_given _ N.1 (finds_given _ only (p.told ars B es θ l u d D N.0 only_call.0 here only_call.1))));
  below = below_then (kept_below f.kept) (below_less (omega arith) p.below);
}

pub descent_at : {book cert w v after : List ℕ} {left right at : ℕ} {base : Instance} {r : Found} → ReadsUse book cert at w v base
    → DescentOn book cert left right base v after r → DescentAt book cert left right at w after r
unfolding kind_fields KindFits
descent_at {book} {cert} {w} {v} {after} {left} {right} {at} {base} {r} read p = record {
  told = λ ars B es known l L R u k θ fits lies.
      let n = below_listed es u.line fits.0.earlier in
      let x = read.told ars B es known (length es) u n.0 fits.0 (lies_front cert at (use_fields u) ((8, k) ∷ filling_fields θ) lies) n.1 in
      let rest = subst (λ j. Lies cert j ((8, k) ∷ filling_fields θ)) (sym x.1) (lies_back cert at (use_fields u) ((8, k) ∷ filling_fields θ) lies) in
      finds_ending (omega (arith, x.1, width_append (use_fields u) ((8, k) ∷ filling_fields θ)))
      (p.told ars B es (known_below (below_less (omega arith) read.below) known) l L R u n.0 x.0 k θ fits.1 fits.2 rest n.1);
  below = below_then (below_less (omega arith) read.below) p.below;
}
