-- The checks of a line, and those of a closing, are all met exactly if it is checked and no side is too large.
use Prim.Native.Nat.{ℕ, suc}
use mathlib.Core.Path.{◌≡◌, refl, sym, ◌∙◌, ap, subst}
use mathlib.Core.Logic.{◌≢◌}
use mathlib.Core.List.{List, [], ◌∷◌, ◌++◌}
use mathlib.Core.Option.{Option, none, some, map, some-injective, none-ne-some, some-ne-none}
use lib.ListN.{get_elem?}
use Rattle.patterns.specs.Term.{Term, fill}
use Rattle.patterns.specs.Every.{Every}
use Rattle.patterns.proofs.Every.{every_first, every_rest, every_append}
use Rattle.patterns.specs.Derive.{Book}
use Rattle.patterns.specs.Edition.{Edition, reindex, form, Same}
use Rattle.patterns.specs.Certificate.{Fills, by, Mark, Claim, Use, Stop, fact, call, LineKind, unfolds, descends, Closing}
use Rattle.patterns.specs.Checks.{Pending, SameMark, instance, instance_mark, reindex_mark, Stopped, Stops, Checked, Closes}
use Rattle.patterns.specs.Demand.{Demand, small, same, empty, present, level, missing, Met, Fits}
use Rattle.patterns.specs.Judge.{Check, check, compare, given, pending, sole, parts, stops, line_checks, loop_checks, closing_checks}

sole_is : {E : Type 0} (vs : List (Term E)) (v : Term E) → sole vs ≡ some v → vs ≡ v ∷ []
unfolding sole
sole_is [] v h = cc
sole_is (w ∷ []) v h = cc
sole_is (w ∷ u ∷ vs) v h = cc

is_sole : {E : Type 0} (vs : List (Term E)) (v : Term E) → vs ≡ v ∷ [] → sole vs ≡ some v
unfolding sole
is_sole vs v h = rw h

module _ {E I R S : Type 0} (𝓔 : Edition E I R S) where
  -- a check that is met; one that names no side that is too large
  abbrev pub Meets : Check E → Type 0
  Meets k = Met 𝓔 k.demand

  abbrev pub FitsMet : Check E → Type 0
  FitsMet k = Fits 𝓔 k.demand

  pub met_fits : (d : Demand E) → Met 𝓔 d → Fits 𝓔 d
  unfolding Met Fits
  met_fits (small m) h = h
  met_fits (same m k) h = tt
  met_fits (empty m) h = tt
  met_fits (present m) h = tt
  met_fits (level m) h = tt
  met_fits missing h = tt

  -- ---- a comparison, and a thing that is named

  compared : (n p : ℕ) (m k : Mark E) → Every Meets (compare n p m k) → SameMark 𝓔 m k
  unfolding compare Every Met
  compared n p m k h = h.1.1.0

  compares : (n p : ℕ) (m k : Mark E) → SameMark 𝓔 m k → Every FitsMet (compare n p m k) → Every Meets (compare n p m k)
  unfolding compare Every Met Fits
  compares n p m k e f = (f.0, (f.1.0, (e, tt)))

  same_terms : (t u : Term E) → SameMark 𝓔 (some t) (some u) → Same 𝓔 t u
  unfolding SameMark Same
  same_terms t u h = some-injective (form 𝓔 t) (form 𝓔 u) h

  same_marks : (t u : Term E) → Same 𝓔 t u → SameMark 𝓔 (some t) (some u)
  unfolding SameMark Same
  same_marks t u h = ap {B = Mark E} some h

  empty_mark : (m : Mark E) → SameMark 𝓔 m none → m ≡ none
  unfolding SameMark
  empty_mark none h = refl
  empty_mark (some t) h = absurd (some-ne-none (form 𝓔 t) h)

  mark_empty : (m : Mark E) → m ≡ none → SameMark 𝓔 m none
  unfolding SameMark
  mark_empty m h = ap (map (form 𝓔)) h

  was_given : {A : Type 0} (o : Option A) (f : A → List (Check E)) → Every Meets (given o f)
      → (a : A) × (o ≡ some a) × Every Meets (f a)
  unfolding given Every Met
  was_given none f h = absurd h.0
  was_given (some a) f h = (a, refl, h)

  is_given : {A : Type 0} (o : Option A) (f : A → List (Check E)) (a : A) → o ≡ some a
      → (Every FitsMet (f a) → Every Meets (f a)) → Every FitsMet (given o f) → Every Meets (given o f)
  unfolding given
  is_given none f a e g h = absurd (none-ne-some a e)
  is_given (some b) f a e g h =
      subst (λ c. Every Meets (f c)) (sym (some-injective b a e))
      (g (subst (λ c. Every FitsMet (f c)) (some-injective b a e) h))

  -- joins the checks of two parts
  both : (ks ls : List (Check E)) → (Every FitsMet ks → Every Meets ks) → (Every FitsMet ls → Every Meets ls)
      → Every FitsMet (ks ++ ls) → Every Meets (ks ++ ls)
  both ks ls f g h =
      every_append Meets ks ls (f (every_first FitsMet ks ls h)) (g (every_rest FitsMet ks ls h))

  -- ---- checks that are met show what they check

  pending_met : (j : ℕ) (vs : List (Term E)) (m : Mark E) → Every Meets (pending j vs m) → Pending vs m
  unfolding pending Pending Every Met
  pending_met j [] m h = tt
  pending_met j (v ∷ vs) m h = h.0

  met_pending : (j : ℕ) (vs : List (Term E)) (m : Mark E) → Pending vs m → Every Meets (pending j vs m)
  unfolding pending Pending Every Met
  met_pending j [] m h = tt
  met_pending j (v ∷ vs) m h = (h, tt)

  module _ (es : List (Claim E)) where
    parts_met : (θ : Fills E) (j : ℕ) (vs : List (Term E)) (us : List (Use E R)) (last : Option (Use E R)) (m : Mark E)
        → Every Meets (parts 𝓔 es θ j vs us last m) → Stopped 𝓔 es θ vs us last m
    unfolding parts Stopped Every Met
    parts_met θ j [] us last m h = h.0
    parts_met θ j (v ∷ vs) [] none m h = compared 12 15 m (some (fill (by θ) v)) h
    parts_met θ j (v ∷ vs) [] (some u) m h =
        let c = was_given (get_elem? es u.line) _ h in
        let p = pending j vs c.0.right in
        let q = compare 10 j (some (fill (by θ) v)) (some (instance 𝓔 u c.0.left)) in
        let r = compare 12 15 m (instance_mark 𝓔 u c.0.right) in (
          record {
            claim = c.0;
            earlier = c.1;
            left = same_terms _ _ (compared 10 j _ _ (every_rest Meets p q (every_first Meets (p ++ q) r c.2)));
          },
          pending_met j vs c.0.right (every_first Meets p q (every_first Meets (p ++ q) r c.2)),
          compared 12 15 m _ (every_rest Meets (p ++ q) r c.2),
        )
    parts_met θ j (v ∷ vs) (u ∷ us) last m h =
        let c = was_given (get_elem? es u.line) _ h in
        let q = compare 10 j (some (fill (by θ) v)) (some (instance 𝓔 u c.0.left)) in
        let r = parts 𝓔 es θ (suc j) vs us last m in (
          record {
            claim = c.0;
            earlier = c.1;
            left = same_terms _ _ (compared 10 j _ _ (every_first Meets q r c.2.1));
          },
          c.2.0,
          parts_met θ (suc j) vs us last m (every_rest Meets q r c.2.1),
        )

    met_parts : (θ : Fills E) (j : ℕ) (vs : List (Term E)) (us : List (Use E R)) (last : Option (Use E R)) (m : Mark E)
        → Stopped 𝓔 es θ vs us last m → Every FitsMet (parts 𝓔 es θ j vs us last m)
        → Every Meets (parts 𝓔 es θ j vs us last m)
    unfolding parts Stopped Every Met
    met_parts θ j [] us last m h f = absurd h
    met_parts θ j (v ∷ vs) [] none m h f = compares 12 15 m (some (fill (by θ) v)) h f
    met_parts θ j (v ∷ vs) [] (some u) m h f =
        let c = h.0.claim in
        let p = pending j vs c.right in
        let q = compare 10 j (some (fill (by θ) v)) (some (instance 𝓔 u c.left)) in
        let r = compare 12 15 m (instance_mark 𝓔 u c.right) in
        is_given (get_elem? es u.line) _ c h.0.earlier
        (both (p ++ q) r
        (both p q (λ x. met_pending j vs c.right h.1) (compares 10 j _ _ (same_marks _ _ h.0.left)))
        (compares 12 15 m _ h.2)) f
    met_parts θ j (v ∷ vs) (u ∷ us) last m h f =
        let c = h.0.claim in
        let p : List (Check E) = check 11 j (empty c.right) ∷ [] in
        let q = compare 10 j (some (fill (by θ) v)) (some (instance 𝓔 u c.left)) in
        let r = parts 𝓔 es θ (suc j) vs us last m in
        is_given (get_elem? es u.line) _ c h.0.earlier
        (both (p ++ q) r
        (both p q (λ x. (h.1, tt)) (compares 10 j _ _ (same_marks _ _ h.0.left)))
        (met_parts θ (suc j) vs us last m h.2)) f

    stops_met : (θ : Fills E) (vs : List (Term E)) (s : Stop E R) (m : Mark E)
        → Every Meets (stops 𝓔 es θ vs s m) → Stops 𝓔 es θ vs s m
    unfolding stops Stops Every Met
    stops_met θ [] fact m h = empty_mark m (compared 12 15 m none h)
    stops_met θ [] (call us last) m h = h.0
    stops_met θ (v ∷ vs) fact m h = h.0
    stops_met θ (v ∷ vs) (call us last) m h = parts_met θ 1 (v ∷ vs) us last m h

    met_stops : (θ : Fills E) (vs : List (Term E)) (s : Stop E R) (m : Mark E) → Stops 𝓔 es θ vs s m
        → Every FitsMet (stops 𝓔 es θ vs s m) → Every Meets (stops 𝓔 es θ vs s m)
    unfolding stops Stops
    met_stops θ [] fact m h f = compares 12 15 m none (mark_empty m h) f
    met_stops θ [] (call us last) m h f = absurd h
    met_stops θ (v ∷ vs) fact m h f = absurd h
    met_stops θ (v ∷ vs) (call us last) m h f = met_parts θ 1 (v ∷ vs) us last m h f

    pub line_met : (B : Book E) (l : Claim E) (k : LineKind E R) → Every Meets (line_checks 𝓔 es B l k) → Checked 𝓔 es B l k
    unfolding line_checks Checked Every Met
    line_met B l (unfolds k θ s) h =
        let r = was_given (get_elem? B k) _ h in
        let p = compare 9 0 (some (fill (by θ) r.0.head)) (some l.left) in
        let q = stops 𝓔 es θ r.0.calls s l.right in
        record {
          rule = r.0;
          listed = r.1;
          head = same_terms _ _ (compared 9 0 _ _ (every_first Meets p q r.2));
          stop = stops_met θ r.0.calls s l.right (every_rest Meets p q r.2);
        }
    line_met B l (descends u k θ) h =
        let c = was_given (get_elem? es u.line) _ h in
        let r = was_given (get_elem? B k) _ c.2 in
        let v = was_given (sole r.0.calls) _ r.2 in
        let p0 = compare 9 0 (some (instance 𝓔 u c.0.left)) (some (reindex 𝓔 𝓔.base l.left)) in
        let p1 = compare 12 1 (instance_mark 𝓔 u c.0.right) (reindex_mark 𝓔 𝓔.base l.right) in
        let p2 = compare 9 2 (some (fill (by θ) r.0.head)) (some (reindex 𝓔 𝓔.up l.left)) in
        let p3 = compare 10 3 (some (fill (by θ) v.0)) (some l.left) in
        let p4 : List (Check E) = check 13 4 (level l.right) ∷ [] in
        let h3 = every_first Meets (p0 ++ p1 ++ p2 ++ p3) p4 v.2 in
        let h2 = every_first Meets (p0 ++ p1 ++ p2) p3 h3 in
        let h1 = every_first Meets (p0 ++ p1) p2 h2 in
        record {
          base = c.0;
          earlier = c.1;
          rule = r.0;
          listed = r.1;
          only_call = v.0;
          only = sole_is r.0.calls v.0 v.1;
          base_left = same_terms _ _ (compared 9 0 _ _ (every_first Meets p0 p1 h1));
          base_right = compared 12 1 _ _ (every_rest Meets p0 p1 h1);
          head = same_terms _ _ (compared 9 2 _ _ (every_rest Meets (p0 ++ p1) p2 h2));
          falls = same_terms _ _ (compared 10 3 _ _ (every_rest Meets (p0 ++ p1 ++ p2) p3 h3));
          level = (every_rest Meets (p0 ++ p1 ++ p2 ++ p3) p4 v.2).0;
        }

    pub met_line : (B : Book E) (l : Claim E) (k : LineKind E R) → Checked 𝓔 es B l k → Every FitsMet (line_checks 𝓔 es B l k)
        → Every Meets (line_checks 𝓔 es B l k)
    unfolding line_checks Checked Every Met
    met_line B l (unfolds k θ s) h f =
        is_given (get_elem? B k) _ h.rule h.listed
        (both (compare 9 0 (some (fill (by θ) h.rule.head)) (some l.left)) (stops 𝓔 es θ h.rule.calls s l.right)
        (compares 9 0 _ _ (same_marks _ _ h.head)) (met_stops θ h.rule.calls s l.right h.stop)) f
    met_line B l (descends u k θ) h f =
        let p0 = compare 9 0 (some (instance 𝓔 u h.base.left)) (some (reindex 𝓔 𝓔.base l.left)) in
        let p1 = compare 12 1 (instance_mark 𝓔 u h.base.right) (reindex_mark 𝓔 𝓔.base l.right) in
        let p2 = compare 9 2 (some (fill (by θ) h.rule.head)) (some (reindex 𝓔 𝓔.up l.left)) in
        let p3 = compare 10 3 (some (fill (by θ) h.only_call)) (some l.left) in
        let p4 : List (Check E) = check 13 4 (level l.right) ∷ [] in
        is_given (get_elem? es u.line) _ h.base h.earlier
        (is_given (get_elem? B k) _ h.rule h.listed
        (is_given (sole h.rule.calls) _ h.only_call (is_sole h.rule.calls h.only_call h.only)
        (both (p0 ++ p1 ++ p2 ++ p3) p4
        (both (p0 ++ p1 ++ p2) p3
        (both (p0 ++ p1) p2
        (both p0 p1 (compares 9 0 _ _ (same_marks _ _ h.base_left)) (compares 12 1 _ _ h.base_right))
        (compares 9 2 _ _ (same_marks _ _ h.head))) (compares 10 3 _ _ (same_marks _ _ h.falls)))
        (λ x. (h.level, tt))))) f

  -- ---- the closing

  loop_met : (l : Claim E) (c : Closing E S) (m : Mark E) → l.right ≡ m → m ≢ none → Every Meets (loop_checks 𝓔 l c m)
      → Closes 𝓔 l c
  unfolding loop_checks
  loop_met l c none e n h = absurd (n refl)
  loop_met l c (some r) e n h = record { right = r; not_empty = e; loops = same_terms _ _ (compared 15 1 _ _ h) }

  met_loop : (l : Claim E) (c : Closing E S) (m : Mark E) → l.right ≡ m → Closes 𝓔 l c → Every FitsMet (loop_checks 𝓔 l c m)
      → Every Meets (loop_checks 𝓔 l c m)
  unfolding loop_checks
  met_loop l c none e h f = absurd (none-ne-some h.right (sym e ∙ h.not_empty))
  met_loop l c (some r) e h f =
      let q : h.right ≡ r = some-injective h.right r (sym h.not_empty ∙ e) in
      compares 15 1 _ _ (same_marks _ _ (rw q at h.loops)) f

  -- the line that a closing names, and that it closes
  pub record Closed (es : List (Claim E)) (c : Closing E S) : Type 0 where
    pub claim : Claim E
    pub named : get_elem? es c.line ≡ some claim
    pub closes : Closes 𝓔 claim c

  pub closing_met : (es : List (Claim E)) (c : Closing E S) → Every Meets (closing_checks 𝓔 es c) → Closed es c
  unfolding closing_checks Every Met
  closing_met es c h =
      let l = was_given (get_elem? es c.line) _ h in
      record { claim = l.0; named = l.1; closes = loop_met l.0 c l.0.right refl l.2.0 l.2.1 }

  pub met_closing : (es : List (Claim E)) (c : Closing E S) → Closed es c → Every FitsMet (closing_checks 𝓔 es c)
      → Every Meets (closing_checks 𝓔 es c)
  unfolding closing_checks Every Met
  met_closing es c h f =
      let l = h.claim in
      is_given (get_elem? es c.line) _ l h.named
      (λ g. (
        (λ e. none-ne-some h.closes.right (sym e ∙ h.closes.not_empty)),
        met_loop l c l.right refl h.closes g.1,
      )) f
