-- Where book and certificate are within the limits, both sides of every comparison keep to the book's arity table.
use Prim.Native.Nat.{ℕ, suc, ◌+◌}
use mathlib.Core.Path.{◌≡◌, subst}
use mathlib.Core.Logic.{ite}
use mathlib.Core.List.{List, [], ◌∷◌, ◌++◌}
use mathlib.Core.Option.{Option, none, some, map, none-ne-some, some-injective}
use native.Mathlib.Decide.{ℕ_discrete}
use native.Mathlib.Omega.{arith}
use lib.ListN.{get_elem?}
use Rattle.patterns.specs.Term.{Term, fill}
use Rattle.patterns.specs.Formed.{Formed}
use Rattle.patterns.specs.Every.{Every}
use Rattle.patterns.specs.Derive.{Rule}
use Rattle.patterns.specs.Edition.{reindex}
use Rattle.patterns.specs.First.{Exp, Pattern, Pair, Pace, one}
use Rattle.patterns.specs.Certificate.{Fills, by, Mark, Claim, Use, Stop, fact, call, LineKind, unfolds, descends, Line, Closing, Certificate}
use Rattle.patterns.specs.Checks.{OnMark, instance}
use Rattle.patterns.specs.Reason.{line_place, closing_place}
use Rattle.patterns.specs.Demand.{Comparable, missing, empty, present, level}
use Rattle.patterns.specs.Judge.{Check, check, compare, given, pending, sole, parts, stops, line_checks, loop_checks, closing_checks, Placed, place, checks_from, checks}
use Rattle.patterns.proofs.Every.{every_listed, every_append, every_weaken, every_map}
use Rattle.patterns.proofs.Formed.{formed_fill, formed_exps}
use Rattle.grammar.specs.Books.{RuleBook, arity_in}
use Rattle.grammar.specs.Limits.{TermFits, RuleFits, BookFits, call_counts, Rising, FillsFit, UseFits, ClaimFits, LastFits, StopFits, KindFits, LinesFit, CertificateFits}

module _ (arities : List ℕ) where
  -- ---- what keeps to the table

  abbrev Keeps : Pattern → Type 0
  Keeps t = Formed (arity_in arities) t

  by_keeps : (least : ℕ) (θ : Fills Exp) → Rising arities least θ → (x : ℕ) → Keeps (by θ x)
  unfolding by Rising Formed
  by_keeps least [] h x = tt
  by_keeps least (p ∷ ps) h x = go (ℕ_discrete p.0 x) (by_keeps (p.0 + 1) ps h.3 x)
    where
      go : (d : Dec (p.0 ≡ x)) → Keeps (by ps x) → Keeps (ite d p.1 (by ps x))
      go (yes e) k = h.2.formed
      go (no e) k = k

  filled_keeps : (θ : Fills Exp) → FillsFit arities θ → (t : Pattern) → Keeps t → Keeps (fill (by θ) t)
  filled_keeps θ f t h = formed_fill (arity_in arities) (by θ) (by_keeps 0 θ f.rising) t h

  reindexed_keeps : (r : Pair) (t : Pattern) → Keeps t → Keeps (reindex one r t)
  unfolding reindex
  reindexed_keeps r t h = formed_exps (arity_in arities) _ t h

  instance_keeps : (u : Use Exp Pair) → FillsFit arities u.fills → (t : Pattern) → Keeps t → Keeps (instance one u t)
  unfolding instance
  instance_keeps u f t h = filled_keeps u.fills f _ (reindexed_keeps u.index t h)

  mark_keeps : (g : Pattern → Pattern) → ((t : Pattern) → Keeps t → Keeps (g t)) → (m : Mark Exp) → OnMark Keeps m
      → OnMark Keeps (map g m)
  unfolding OnMark
  mark_keeps g f none h = tt
  mark_keeps g f (some t) h = f t h

  some_keeps : (t : Pattern) → Keeps t → OnMark Keeps (some t)
  unfolding OnMark
  some_keeps t h = h

  -- a claim of a line before
  record ClaimKeeps (c : Claim Exp) : Type 0 where
    left : Keeps c.left
    right : OnMark Keeps c.right

  mark_fits : (m : Mark Exp) → OnMark (TermFits arities 4096) m → OnMark Keeps m
  unfolding OnMark
  mark_fits none h = tt
  mark_fits (some t) h = h.formed

  claim_keeps : (c : Claim Exp) → ClaimFits arities c → ClaimKeeps c
  claim_keeps c h = record { left = h.left.formed; right = mark_fits c.right h.right }

  -- ---- checks

  abbrev Fair : Check Exp → Type 0
  Fair k = Comparable (arity_in arities) k.demand

  fair_compare : (n p : ℕ) (m k : Mark Exp) → OnMark Keeps m → OnMark Keeps k → Every Fair (compare n p m k)
  unfolding compare Every Comparable
  fair_compare n p m k h j = (tt, (tt, ((h, j), tt)))

  -- two terms
  fair_terms : (n p : ℕ) (t u : Pattern) → Keeps t → Keeps u → Every Fair (compare n p (some t) (some u))
  fair_terms n p t u h j = fair_compare n p (some t) (some u) (some_keeps t h) (some_keeps u j)

  fair_missing : Every Fair (check 4 0 missing ∷ [])
  unfolding Every Comparable
  fair_missing = (tt, tt)

  fair_given : {A : Type 0} (o : Option A) (f : A → List (Check Exp)) → ((a : A) → o ≡ some a → Every Fair (f a)) → Every Fair (given o f)
  unfolding given
  fair_given none f h = fair_missing
  fair_given (some a) f h = h a (λ i. some a)

  fair_pending : (j : ℕ) (vs : List (Term Exp)) (m : Mark Exp) → Every Fair (pending j vs m)
  unfolding pending Every Comparable
  fair_pending j [] m = tt
  fair_pending j (v ∷ vs) m = (tt, tt)

  fair_empty : (j : ℕ) (m : Mark Exp) → Every Fair (check 11 j (empty m) ∷ [])
  unfolding Every Comparable
  fair_empty j m = (tt, tt)

  fair_level : (m : Mark Exp) → Every Fair (check 13 4 (level m) ∷ [])
  unfolding Every Comparable
  fair_level m = (tt, tt)

  fair_present : (m : Mark Exp) → Every Fair (check 14 0 (present m) ∷ [])
  unfolding Every Comparable
  fair_present m = (tt, tt)

  -- ---- a line over the claims before it

  module _ (es : List (Claim Exp)) (kept : Every ClaimKeeps es) where
    claimed : (k : ℕ) (c : Claim Exp) → get_elem? es k ≡ some c → ClaimKeeps c
    claimed k c e = every_listed ClaimKeeps es kept k c e

    module _ (line : ℕ) (θ : Fills Exp) (f : FillsFit arities θ) where
      -- the call v beside the left that a use names
      fair_call : (j : ℕ) (v : Pattern) → Keeps v → (u : Use Exp Pair) → FillsFit arities u.fills → (c : Claim Exp) → ClaimKeeps c
          → Every Fair (compare 10 j (some (fill (by θ) v)) (some (instance one u c.left)))
      fair_call j v h u g c q = fair_terms 10 j _ _ (filled_keeps θ f v h) (instance_keeps u g c.left q.left)

      fair_parts : (j : ℕ) (vs : List (Term Exp)) → Every Keeps vs → (us : List (Use Exp Pair)) → Every (UseFits arities line) us
          → (last : Option (Use Exp Pair)) → LastFits arities line last → (m : Mark Exp) → OnMark Keeps m
          → Every Fair (parts one es θ j vs us last m)
      unfolding parts LastFits
      fair_parts j [] vk us uk last lk m mk = fair_missing
      fair_parts j (v ∷ vs) vk [] uk none lk m mk =
          let h : Keeps v × Every Keeps vs = unfold Every in vk in
          fair_compare 12 15 m _ mk (some_keeps _ (filled_keeps θ f v h.0))
      fair_parts j (v ∷ vs) vk [] uk (some u) lk m mk =
          let h : Keeps v × Every Keeps vs = unfold Every in vk in
          fair_given (get_elem? es u.line) _ λ c e.
          let q = claimed u.line c e in
          every_append Fair _ _
          (every_append Fair _ _ (fair_pending j vs c.right) (fair_call j v h.0 u lk.fills c q))
          (fair_compare 12 15 m _ mk (mark_keeps (instance one u) (instance_keeps u lk.fills) c.right q.right))
      fair_parts j (v ∷ vs) vk (u ∷ us) uk last lk m mk =
          let h : Keeps v × Every Keeps vs = unfold Every in vk in
          let g : UseFits arities line u × Every (UseFits arities line) us = unfold Every in uk in
          let rest = fair_parts (suc j) vs h.1 us g.1 last lk m mk in
          fair_given (get_elem? es u.line) _ λ c e.
          every_append Fair _ _
          (every_append Fair _ _ (fair_empty j c.right) (fair_call j v h.0 u g.0.fills c (claimed u.line c e))) rest

      fair_stops : (vs : List (Term Exp)) → Every Keeps vs → (n : ℕ) (s : Stop Exp Pair) → StopFits arities line n s → (m : Mark Exp)
          → OnMark Keeps m → Every Fair (stops one es θ vs s m)
      unfolding stops StopFits
      fair_stops [] vk n fact sk m mk = fair_compare 12 15 m none mk (unfold OnMark in tt)
      fair_stops [] vk n (call us last) sk m mk = fair_missing
      fair_stops (v ∷ vs) vk n fact sk m mk = fair_missing
      fair_stops (v ∷ vs) vk n (call us last) sk m mk = fair_parts 1 (v ∷ vs) vk us sk.1 last sk.2 m mk

    sole_keeps : (vs : List (Term Exp)) → Every Keeps vs → (v : Term Exp) → sole vs ≡ some v → Keeps v
    unfolding sole Every
    sole_keeps [] h v e = absurd (none-ne-some v e)
    sole_keeps (w ∷ []) h v e = subst Keeps (some-injective w v e) h.0
    sole_keeps (w ∷ x ∷ vs) h v e = absurd (none-ne-some v e)

    fair_line : (rules : List (Rule Exp)) → Every (RuleFits arities) rules → (ms : List ℕ) (line : ℕ) (l : Claim Exp) → ClaimKeeps l
        → (k : LineKind Exp Pair) → KindFits arities ms line k → Every Fair (line_checks one es rules l k)
    unfolding line_checks KindFits
    fair_line rules rk ms line l lk (unfolds k θ s) h =
        fair_given (get_elem? rules k) _ λ r e.
        let q = every_listed (RuleFits arities) rules rk k r e in
        every_append Fair _ _ (fair_terms 9 0 _ _ (filled_keeps θ h.2 r.head q.head.fits.formed) lk.left)
        (fair_stops line θ h.2 r.calls (every_weaken (λ v p. p.fits.formed) r.calls q.calls) h.0 s h.3 l.right lk.right)
    fair_line rules rk ms line l lk (descends u k θ) h =
        fair_given (get_elem? es u.line) _ λ c e.
        fair_given (get_elem? rules k) _ λ r o.
        fair_given (sole r.calls) _ λ v w.
        let p = claimed u.line c e in
        let q = every_listed (RuleFits arities) rules rk k r o in
        let only = sole_keeps r.calls (every_weaken (λ v p. p.fits.formed) r.calls q.calls) v w in
        every_append Fair _ _
        (every_append Fair _ _
        (every_append Fair _ _
        (every_append Fair _ _
        (fair_terms 9 0 _ _ (instance_keeps u h.0.fills c.left p.left) (reindexed_keeps _ l.left lk.left))
        (fair_compare 12 1 _ _ (mark_keeps (instance one u) (instance_keeps u h.0.fills) c.right p.right)
        (mark_keeps (reindex one _) (reindexed_keeps _) l.right lk.right)))
        (fair_terms 9 2 _ _ (filled_keeps θ h.2 r.head q.head.fits.formed) (reindexed_keeps _ l.left lk.left)))
        (fair_terms 10 3 _ _ (filled_keeps θ h.2 v only) lk.left)) (fair_level l.right)

    -- ---- the closing

    fair_loop : (l : Claim Exp) → ClaimKeeps l → (c : Closing Exp Pace) → FillsFit arities c.fills → (m : Mark Exp) → OnMark Keeps m
        → Every Fair (loop_checks one l c m)
    unfolding loop_checks Every OnMark
    fair_loop l lk c f none mk = tt
    fair_loop l lk c f (some r) mk =
        fair_terms 15 1 _ _ (reindexed_keeps _ r mk) (filled_keeps c.fills f _ (reindexed_keeps _ l.left lk.left))

    fair_closing : (c : Closing Exp Pace) → FillsFit arities c.fills → Every Fair (closing_checks one es c)
    unfolding closing_checks
    fair_closing c f =
        fair_given (get_elem? es c.line) _ λ l e.
        let q = claimed c.line l e in
        every_append Fair _ _ (fair_present l.right) (fair_loop l q c f l.right q.right)

  -- ---- the certificate

  abbrev FairAt : Placed one → Type 0
  FairAt p = Comparable (arity_in arities) p.check.demand

  fair_from : (rules : List (Rule Exp)) → Every (RuleFits arities) rules → (ms : List ℕ) (es : List (Claim Exp)) → Every ClaimKeeps es → (a : ℕ)
      (ls : List (Line Exp Pair)) → LinesFit arities ms a ls → (c : Closing Exp Pace) → FillsFit arities c.fills
      → Every FairAt (checks_from one rules es a ls c)
  unfolding checks_from LinesFit
  fair_from rules rk ms es ek a [] lk c f = every_map FairAt (place one closing_place c.line) _ (fair_closing es ek c f)
  fair_from rules rk ms es ek a (l ∷ ls) lk c f =
      let q = claim_keeps l.claim lk.0 in
      every_append FairAt _ _ (every_map FairAt (place one line_place a) _ (fair_line es ek rules rk ms a l.claim q l.kind lk.1))
      (fair_from rules rk ms (es ++ (l.claim ∷ [])) (every_append ClaimKeeps es (l.claim ∷ []) ek (unfold Every in (q, tt))) (suc a) ls
      (subst (λ n. LinesFit arities ms n ls) next lk.2) c f)
    where
      next : a + 1 ≡ suc a
      next = omega arith

-- Both sides of every comparison of a certificate that was read keep to the arities of its book.
pub checks_comparable : (b : RuleBook) → BookFits b → (K : Certificate Exp Pair Pace) → CertificateFits b K
    → Every (λ p. Comparable (arity_in b.arities) p.check.demand) (checks one b.rules K)
unfolding checks Every
checks_comparable b book K h =
    fair_from b.arities b.rules book.rules (call_counts b.rules) [] tt 0 K.lines h.lines K.closing h.closing.fills
