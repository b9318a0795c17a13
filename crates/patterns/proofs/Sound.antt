-- Soundness, in every edition: the lines of a checked certificate hold, and the calls of an accepted family never get stuck.
use Prim.Native.Nat.{ℕ, zero, suc}
use mathlib.Core.Path.{◌≡◌, refl, sym, ◌∙◌, ap, ap₂, subst, subst₂}
use mathlib.Core.List.{List, [], ◌∷◌, ◌++◌, map, append-nil, append_assoc}
use mathlib.Core.Option
use mathlib.Core.Option.{Option, none, some, some-injective, none-ne-some}
use lib.ListN.{get_elem?}
use Rattle.patterns.specs.Term.{Term, Plain, fill, Filling, plain, All}
use Rattle.patterns.proofs.Term.{fill_fill, plain_fill, plain_exps, plain_agree, all_map}
use Rattle.patterns.proofs.Normal.{plain_norm}
use Rattle.patterns.specs.Every.{Every}
use Rattle.patterns.proofs.Every.{listed_map, every_listed}
use Rattle.patterns.specs.Derive.{Rule, Book, Query, Step, Steps, plain_rule}
use Rattle.patterns.specs.Edition.{Edition, at, reindex, form, Same, meant}
use Rattle.patterns.specs.Certificate.{Fills, by, Mark, Claim, Use, Stop, fact, call, LineKind, unfolds, descends, Line, Closing, Certificate, claim_of}
use Rattle.patterns.specs.Checks.{Pending, OnMark, SameMark, instance, instance_mark, reindex_mark, UsedAt, Stopped, Stops, Unfold, Descent, Checked, Lines, Closes, Good}
use Rattle.patterns.specs.Claims.{End, Reaches, Holds, FixedRule, FixedBook, program, Family}
use Rattle.patterns.proofs.Reaching.{solved, led, Comes, after, begins, comes, goes_on}

module _ {E I R S : Type 0} (𝓔 : Edition E I R S) where
  -- ---- meaning

  abbrev within : I → Filling (Unit {0}) → Filling E → Filling (Unit {0})
  within i σ θ x = meant 𝓔 i σ (θ x)

  -- meaning commutes with filling
  pub meant_fill : (i : I) (σ : Filling (Unit {0})) (θ : Filling E) (t : Term E)
      → meant 𝓔 i σ (fill θ t) ≡ meant 𝓔 i (λ x. meant 𝓔 i σ (θ x)) t
  unfolding at
  meant_fill i σ θ t = ap (fill σ) (plain_fill (𝓔.value i) θ t) ∙ fill_fill σ (λ x. at 𝓔 i (θ x)) (at 𝓔 i t)

  -- and with reindexing
  pub meant_reindex : (i : I) (σ : Filling (Unit {0})) (r : R) (t : Term E)
      → meant 𝓔 i σ (reindex 𝓔 r t) ≡ meant 𝓔 (𝓔.act r i) σ t
  unfolding at reindex
  meant_reindex i σ r t =
      ap (fill σ) (plain_exps (𝓔.value i) (𝓔.shift r) t ∙ ap (λ v. plain v t) (λ k e. 𝓔.value_shift r i e k))

  -- an instance: the pattern is reindexed, the terms of the filling are not
  pub meant_instance : (i : I) (σ : Filling (Unit {0})) (u : Use E R) (t : Term E)
      → meant 𝓔 i σ (instance 𝓔 u t) ≡ meant 𝓔 (𝓔.act u.index i) (λ x. meant 𝓔 i σ (by u.fills x)) t
  unfolding instance
  meant_instance i σ u t = meant_fill i σ (by u.fills) (reindex 𝓔 u.index t) ∙ meant_reindex i _ u.index t

  -- the normal form means the same
  pub meant_form : (i : I) (σ : Filling (Unit {0})) (t : Term E) → meant 𝓔 i σ (form 𝓔 t) ≡ meant 𝓔 i σ t
  unfolding at form
  meant_form i σ t = ap (fill σ) (plain_norm 𝓔.exponents (𝓔.value i) (𝓔.counts i) t)

  pub meant_same : (i : I) (σ : Filling (Unit {0})) (t u : Term E) → Same 𝓔 t u → meant 𝓔 i σ t ≡ meant 𝓔 i σ u
  unfolding Same
  meant_same i σ t u p = sym (meant_form i σ t) ∙ ap (meant 𝓔 i σ) p ∙ meant_form i σ u

  -- ---- the same of marks

  mark_form : (i : I) (σ : Filling (Unit {0})) (m : Mark E)
      → Option.map (meant 𝓔 i σ) (Option.map (form 𝓔) m) ≡ Option.map (meant 𝓔 i σ) m
  mark_form i σ none = refl
  mark_form i σ (some t) = ap {B = Option Plain} some (meant_form i σ t)

  mark_same : (i : I) (σ : Filling (Unit {0})) (m k : Mark E) → SameMark 𝓔 m k
      → Option.map (meant 𝓔 i σ) m ≡ Option.map (meant 𝓔 i σ) k
  unfolding SameMark
  mark_same i σ m k p = sym (mark_form i σ m) ∙ ap (Option.map (meant 𝓔 i σ)) p ∙ mark_form i σ k

  mark_instance : (i : I) (σ : Filling (Unit {0})) (u : Use E R) (m : Mark E)
      → Option.map (meant 𝓔 i σ) (instance_mark 𝓔 u m)
      ≡ Option.map (meant 𝓔 (𝓔.act u.index i) (within i σ (by u.fills))) m
  mark_instance i σ u none = refl
  mark_instance i σ u (some t) = ap {B = Option Plain} some (meant_instance i σ u t)

  mark_reindex : (i : I) (σ : Filling (Unit {0})) (r : R) (m : Mark E)
      → Option.map (meant 𝓔 i σ) (reindex_mark 𝓔 r m) ≡ Option.map (meant 𝓔 (𝓔.act r i) σ) m
  mark_reindex i σ r none = refl
  mark_reindex i σ r (some t) = ap {B = Option Plain} some (meant_reindex i σ r t)

  mark_level : (i : I) (σ : Filling (Unit {0})) (m : Mark E) → OnMark (All 𝓔.Level) m
      → Option.map (meant 𝓔 i σ) m ≡ Option.map (meant 𝓔 (𝓔.act 𝓔.up i) σ) m
  unfolding OnMark at
  mark_level i σ none h = refl
  mark_level i σ (some t) h =
      ap (λ u. some (fill σ u)) (plain_agree _ _ t (all_map (λ e p. 𝓔.level e p i) t h))

  instance_holds : (P : Book (Unit {0})) (c : Claim E) → Holds 𝓔 P c → (u : Use E R) (i : I) (σ : Filling (Unit {0}))
      → Reaches P (meant 𝓔 i σ (instance 𝓔 u c.left)) (Option.map (meant 𝓔 i σ) (instance_mark 𝓔 u c.right))
  unfolding Holds
  instance_holds P c h u i σ =
      rw (meant_instance i σ u c.left, mark_instance i σ u c.right)
      (h (𝓔.act u.index i) (within i σ (by u.fills)))

  -- ---- one step by a rule

  abbrev calls_at : I → Filling (Unit {0}) → Filling E → List (Term E) → Query
  calls_at i σ θ vs = map (λ v. meant 𝓔 i σ (fill θ v)) vs

  meant_rule : (i : I) (σ : Filling (Unit {0})) (θ : Filling E) (t : Term E) → All 𝓔.Fixed t
      → meant 𝓔 i σ (fill θ t) ≡ fill (within i σ θ) (plain (𝓔.value 𝓔.origin) t)
  unfolding at
  meant_rule i σ θ t h =
      meant_fill i σ θ t ∙ ap (fill (within i σ θ)) (plain_agree _ _ t (all_map (λ e p. 𝓔.fixed e p i) t h))

  meant_calls : (i : I) (σ : Filling (Unit {0})) (θ : Filling E) (ts : List (Term E)) → Every (All 𝓔.Fixed) ts
      → calls_at i σ θ ts ≡ map (fill (within i σ θ)) (map (plain (𝓔.value 𝓔.origin)) ts)
  unfolding Every
  meant_calls i σ θ [] h = refl
  meant_calls i σ θ (t ∷ ts) h = ap₂ ◌∷◌ (meant_rule i σ θ t h.0) (meant_calls i σ θ ts h.1)

  module _ (B : Book E) (fixed : FixedBook 𝓔 B) where
    abbrev P : Book (Unit {0})
    P = program 𝓔 B

    rule_step : (k : ℕ) (r : Rule E) → get_elem? B k ≡ some r → (i : I) (σ : Filling (Unit {0})) (θ : Filling E) (K : Query)
        → Step P (meant 𝓔 i σ (fill θ r.head) ∷ K) (calls_at i σ θ r.calls ++ K)
    unfolding program plain_rule FixedBook FixedRule
    rule_step k r p i σ θ K =
        let h = every_listed (FixedRule 𝓔) B fixed k r p in
        record {
          number = k;
          rule = plain_rule (𝓔.value 𝓔.origin) r;
          listed = listed_map (plain_rule (𝓔.value 𝓔.origin)) B k r p;
          filling = within i σ θ;
          rest = K;
          call = ap (λ t. t ∷ K) (meant_rule i σ θ r.head h.0);
          result = ap (λ q. q ++ K) (meant_calls i σ θ r.calls h.1);
        }

    -- ---- lines over earlier ones that hold

    module _ (es : List (Claim E)) (known : (k : ℕ) (c : Claim E) → get_elem? es k ≡ some c → Holds 𝓔 P c) where
      found : (i : I) (σ : Filling (Unit {0})) (t : Term E) (u : Use E R) (f : UsedAt 𝓔 es u t) (m : Mark E)
          → SameMark 𝓔 m (instance_mark 𝓔 u f.claim.right)
          → Reaches P (meant 𝓔 i σ t) (Option.map (meant 𝓔 i σ) m)
      found i σ t u f m q =
          rw (
            meant_same i σ t (instance 𝓔 u f.claim.left) f.left,
            mark_same i σ m (instance_mark 𝓔 u f.claim.right) q,
          )
          (instance_holds P f.claim (known u.line f.claim f.earlier) u i σ)

      -- calls that stand behind are still there, unless the right is empty and there are none
      stop_used : (i : I) (σ : Filling (Unit {0})) (t : Plain) (vs : List (Term E)) (θ : Filling E) (r m : Mark E) (u : Use E R)
          → Pending vs r → SameMark 𝓔 m (instance_mark 𝓔 u r) → Reaches P t (Option.map (meant 𝓔 i σ) m)
          → Comes P (t ∷ calls_at i σ θ vs) (Option.map (meant 𝓔 i σ) m)
      unfolding Pending SameMark End
      stop_used i σ t [] θ r m u a b h = comes h
      stop_used i σ t (v ∷ vs) θ none m u a b h = absurd (a refl)
      stop_used i σ t (v ∷ vs) θ (some r) none u a b h = absurd (none-ne-some _ b)
      stop_used i σ t (v ∷ vs) θ (some r) (some s) u a b h =
          let k = led P t (meant 𝓔 i σ s) h (calls_at i σ θ (v ∷ vs)) in
          record { number = suc k.0; query = meant 𝓔 i σ s ∷ k.1; steps = k.2; end = (k.1, refl) }

      stopped : (i : I) (σ : Filling (Unit {0})) (θ : Fills E) (vs : List (Term E)) (us : List (Use E R))
          (last : Option (Use E R)) (m : Mark E) → Stopped 𝓔 es θ vs us last m
          → Comes P (calls_at i σ (by θ) vs) (Option.map (meant 𝓔 i σ) m)
      unfolding Stopped SameMark End Steps
      stopped i σ θ [] us last m h = absurd h
      stopped i σ θ (v ∷ vs) [] none m h =
          rw (mark_same i σ m (some (fill (by θ) v)) h)
          (record { number = 0; query = calls_at i σ (by θ) (v ∷ vs); steps = refl; end = (calls_at i σ (by θ) vs, refl) })
      stopped i σ θ (v ∷ vs) [] (some u) m h =
          stop_used i σ _ vs (by θ) h.0.claim.right m u h.1 h.2
          (found i σ (fill (by θ) v) u h.0 m h.2)
      stopped i σ θ (v ∷ vs) (u ∷ us) last m h =
          let r = found i σ (fill (by θ) v) u h.0 none (rw h.1 refl) in
          let k = solved P (meant 𝓔 i σ (fill (by θ) v)) r (calls_at i σ (by θ) vs) in
          after (suc k.0) k.1 (stopped i σ θ vs us last m h.2)

      stops : (i : I) (σ : Filling (Unit {0})) (θ : Fills E) (vs : List (Term E)) (s : Stop E R) (m : Mark E)
          → Stops 𝓔 es θ vs s m → Comes P (calls_at i σ (by θ) vs) (Option.map (meant 𝓔 i σ) m)
      unfolding Stops End Steps
      stops i σ θ [] fact m h = rw h (record { number = 0; query = []; steps = refl; end = refl })
      stops i σ θ [] (call us last) m h = absurd h
      stops i σ θ (v ∷ vs) fact m h = absurd h
      stops i σ θ (v ∷ vs) (call us last) m h = stopped i σ θ (v ∷ vs) us last m h

      unfold_holds : (l : Claim E) (k : ℕ) (θ : Fills E) (s : Stop E R) → Unfold 𝓔 es B l k θ s → Holds 𝓔 P l
      unfolding Holds
      unfold_holds l k θ s h i σ =
          rw (← (meant_same i σ (fill (by θ) h.rule.head) l.left h.head))
          (begins (rule_step k h.rule h.listed i σ (by θ) [])
          (rw append-nil (stops i σ θ h.rule.calls s l.right h.stop)))

      -- by going up from the index at which the descent ends
      descent_holds : (l : Claim E) (u : Use E R) (k : ℕ) (θ : Fills E) → Descent 𝓔 es B l u k θ → Holds 𝓔 P l
      unfolding Holds
      descent_holds l u k θ h i σ = 𝓔.climb Q bottom higher i
        where
          Q : I → Type 0
          Q i = Reaches P (meant 𝓔 i σ l.left) (Option.map (meant 𝓔 i σ) l.right)

          bottom : (i : I) → Q (𝓔.act 𝓔.base i)
          bottom i =
              subst₂ (Reaches P)
              (meant_same i σ (instance 𝓔 u h.base.left) (reindex 𝓔 𝓔.base l.left) h.base_left
              ∙ meant_reindex i σ 𝓔.base l.left)
              (mark_same i σ _ (reindex_mark 𝓔 𝓔.base l.right) h.base_right
              ∙ mark_reindex i σ 𝓔.base l.right)
              (instance_holds P h.base (known u.line h.base h.earlier) u i σ)

          higher : (i : I) → Q i → Q (𝓔.act 𝓔.up i)
          higher i q =
              let s : Step P (meant 𝓔 i σ (fill (by θ) h.rule.head) ∷ []) (meant 𝓔 i σ (fill (by θ) h.only_call) ∷ []) =
              rw h.only at (rule_step k h.rule h.listed i σ (by θ) []) in
              subst₂ (Reaches P)
              (meant_same i σ _ (reindex 𝓔 𝓔.up l.left) h.head ∙ meant_reindex i σ 𝓔.up l.left)
              (mark_level i σ l.right h.level)
              (begins s (comes (rw (meant_same i σ (fill (by θ) h.only_call) l.left h.falls) q)))

      -- a line that meets its checks over lines that hold, holds
      pub checked_holds : (l : Claim E) (k : LineKind E R) → Checked 𝓔 es B l k → Holds 𝓔 P l
      unfolding Checked
      checked_holds l (unfolds k θ s) h = unfold_holds l k θ s h
      checked_holds l (descends u k θ) h = descent_holds l u k θ h

    -- ---- all lines

    one_more : (es : List (Claim E)) (c : Claim E) → ((k : ℕ) (d : Claim E) → get_elem? es k ≡ some d → Holds 𝓔 P d)
        → Holds 𝓔 P c → (k : ℕ) (d : Claim E) → get_elem? (es ++ (c ∷ [])) k ≡ some d → Holds 𝓔 P d
    one_more [] c h p zero d q = subst (Holds 𝓔 P) (some-injective c d q) p
    one_more [] c h p (suc k) d q = absurd (none-ne-some d q)
    one_more (e ∷ es) c h p zero d q = h 0 d q
    one_more (e ∷ es) c h p (suc k) d q = one_more es c (λ i x. h (suc i) x) p k d q

    lines_hold_from : (es : List (Claim E)) (ls : List (Line E R))
        → ((k : ℕ) (c : Claim E) → get_elem? es k ≡ some c → Holds 𝓔 P c) → Lines 𝓔 B es ls
        → (k : ℕ) (c : Claim E) → get_elem? (es ++ map claim_of ls) k ≡ some c → Holds 𝓔 P c
    unfolding Lines
    lines_hold_from es [] h a k c p = h k c (rw append-nil at p)
    lines_hold_from es (l ∷ ls) h a k c p =
        lines_hold_from (es ++ (l.claim ∷ [])) ls
        (one_more es l.claim h (checked_holds es h l.claim l.kind a.0)) a.1 k c (rw append_assoc p)

    -- Soundness of lines: each line of a checked certificate holds.
    pub lines_hold : (ls : List (Line E R)) → Lines 𝓔 B [] ls
        → (k : ℕ) (c : Claim E) → get_elem? (map claim_of ls) k ≡ some c → Holds 𝓔 P c
    lines_hold ls h k c p = lines_hold_from [] ls (λ k d q. absurd (none-ne-some d q)) h k c p

    -- a line that holds and closes leads from each index that `from` reaches to another such
    loops : (l : Claim E) (c : Closing E S) → Holds 𝓔 P l → Closes 𝓔 l c → (N : ℕ) (i : I) (σ : Filling (Unit {0})) (K : Query)
        → (Q : Query) × Steps P N (meant 𝓔 (𝓔.act (𝓔.from c.pace) i) σ l.left ∷ K) Q
    unfolding Steps Holds
    loops l c h d zero i σ K = (meant 𝓔 (𝓔.act (𝓔.from c.pace) i) σ l.left ∷ K, refl)
    loops l c h d (suc N) i σ K =
        let τ : Filling (Unit {0}) = within i σ (by c.fills) in
        let next = 𝓔.onward c.pace i in
        let p : meant 𝓔 (𝓔.act (𝓔.from c.pace) i) σ d.right
        ≡ meant 𝓔 (𝓔.act (𝓔.from c.pace) next.0) τ l.left =
        sym (meant_reindex i σ (𝓔.from c.pace) d.right) ∙ meant_same i σ _ _ d.loops
        ∙ meant_fill i σ (by c.fills) (reindex 𝓔 (𝓔.to c.pace) l.left)
        ∙ meant_reindex i τ (𝓔.to c.pace) l.left ∙ ap (λ k. meant 𝓔 k τ l.left) next.1 in
        goes_on P _ (meant 𝓔 (𝓔.act (𝓔.from c.pace) i) σ d.right) _ K N p
        (led P _ _ (rw d.not_empty at (h (𝓔.act (𝓔.from c.pace) i) σ)) K)
        (λ T. loops l c h d N next.0 τ T)

    -- Demand 3 for trees: a call of the accepted family has a derivation of exactly n steps, for every n.
    pub never_stuck : (K : Certificate E R S) (g : Good 𝓔 B K) (t : Plain) → Family 𝓔 g.claim K.closing.pace t
        → (n : ℕ) → (Q : Query) × Steps P n (t ∷ []) Q
    never_stuck K g t f n =
        let j = 𝓔.reached K.closing.pace f.index f.from in
        let q : t ≡ meant 𝓔 (𝓔.act (𝓔.from K.closing.pace) j.0) f.filling g.claim.left =
        f.call ∙ ap (λ i. meant 𝓔 i f.filling g.claim.left) j.1 in
        subst (λ s. (Q : Query) × Steps P n (s ∷ []) Q) (sym q)
        (loops g.claim K.closing (lines_hold K.lines g.lines K.closing.line g.claim g.named) g.closes
        n j.0 f.filling [])
