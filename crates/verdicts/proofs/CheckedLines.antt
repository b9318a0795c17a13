-- The checks of a line within the limits: every refusal that they can give is one that 01 lists for its kind of line, and none of them
-- asks for what is missing.
use Prim.Native.Nat.{ℕ, suc, ◌+◌, ◌≤◌, ◌<◌}
use mathlib.Core.Path.{◌≡◌, refl, sym, subst}
use mathlib.Core.Logic.{◌≢◌}
use mathlib.Core.List.{List, [], ◌∷◌}
use mathlib.Core.Option.{Option, none, some}
use native.Mathlib.Omega.{arith}
use lib.ListN.{length, get_elem?}
use Rattle.patterns.specs.Term.{Term}
use Rattle.patterns.specs.Every.{Every}
use Rattle.patterns.specs.Certificate.{Fills, Mark, Claim, Use, Stop, fact, call, LineKind, unfolds, descends}
use Rattle.patterns.specs.Reason.{line_place}
use Rattle.patterns.specs.Demand.{Demand, small, same, empty, present, level, missing}
use Rattle.patterns.specs.Judge.{Check, check, compare, given, pending, sole, parts, stops, line_checks, place, reason}
use Rattle.patterns.specs.First.{Exp, Pair, one}
use Rattle.patterns.proofs.Every.{map_listed, below_listed, every_listed, every_append, every_weaken}
use Rattle.grammar.specs.Books.{RuleBook}
use Rattle.grammar.specs.Limits.{RuleFits, BookFits, call_counts, UseFits, LastFits, StopFits, KindFits}
use Rattle.answers.specs.InTable.{Column, only, Allows, Row, row, Among, line_number, at_line, unfold_rows, descent_rows, line_rows}
use Rattle.answers.proofs.InTable.{among_at}

-- ---- one check

-- a demand that asks for nothing that is missing
unfoldable pub Named : Demand Exp → Type 0
Named (small m) = Unit {0}
Named (same m k) = Unit {0}
Named (empty m) = Unit {0}
Named (present m) = Unit {0}
Named (level m) = Unit {0}
Named missing = ⊥

pub named_is_there : (d : Demand Exp) → Named d → d ≢ missing
unfolding Named
named_is_there d h e = subst Named e h

module _ (rows : List Row) (w a : ℕ) where
  -- a row allows this number and part
  abbrev pub At : ℕ → ℕ → Type 0
  At number part = Among rows (record { number = number; w = w; a = a; b = part })

  -- a row allows the refusal of a check, and what the check names is there
  pub record Fine (k : Check Exp) : Type 0 where
    pub listed : At k.number k.part
    pub there : Named k.demand

  -- the row with this number among them, at a line
  pub row_at : (k n : ℕ) (parts : Column) (p : ℕ) → a ≤ 254 → get_elem? rows k ≡ some (row (only n) (only w) line_number parts)
      → Allows parts p → At n p
  unfolding Allows
  row_at k n parts p few e h =
      among_at k rows _ _ e (record { number = refl; w = refl; a = (omega arith, few); b = h })

  pub fine_alone : (n p : ℕ) (d : Demand Exp) → At n p → Named d → Every Fine (check n p d ∷ [])
  unfolding Every
  fine_alone n p d h t = (record { listed = h; there = t }, tt)

  pub fine_compare : (n p : ℕ) (m k : Mark Exp) → At n p → At 16 p → Every Fine (compare n p m k)
  unfolding compare Every Named
  fine_compare n p m k h g =
      (record { listed = g; there = tt }, (record { listed = g; there = tt }, (record { listed = h; there = tt }, tt)))

  pub fine_given : {A : Type 0} (o : Option A) (f : A → List (Check Exp)) (x : A) → o ≡ some x → Every Fine (f x)
      → Every Fine (given o f)
  unfolding given
  fine_given o f x e h = rw e h

-- ---- an unfold

module _ (a : ℕ) (few : a ≤ 254) where
  abbrev UnfoldAt : ℕ → ℕ → Type 0
  UnfoldAt n p = At unfold_rows line_place a n p

  abbrev FineUnfold : Check Exp → Type 0
  FineUnfold k = Fine unfold_rows line_place a k

  -- the rows of 01, "Unfold"
  unfold_at : (k n : ℕ) (parts : Column) (p : ℕ) → get_elem? unfold_rows k ≡ some (at_line n parts) → Allows parts p → UnfoldAt n p
  unfold_at k n parts p e h = row_at unfold_rows line_place a k n parts p few e h

  fine_head : (m k : Mark Exp) → Every FineUnfold (compare 9 0 m k)
  unfolding Allows
  fine_head m k =
      fine_compare unfold_rows line_place a 9 0 m k (unfold_at 0 9 _ 0 refl refl)
      (unfold_at 4 16 _ 0 refl (omega arith, omega arith))

  fine_right : (m k : Mark Exp) → Every FineUnfold (compare 12 15 m k)
  unfolding Allows
  fine_right m k =
      fine_compare unfold_rows line_place a 12 15 m k (unfold_at 3 12 _ 15 refl refl) (unfold_at 5 16 _ 15 refl refl)

  module _ (j : ℕ) (from : 1 ≤ j) (to : j ≤ 8) where
    fine_call : (m k : Mark Exp) → Every FineUnfold (compare 10 j m k)
    unfolding Allows
    fine_call m k =
        fine_compare unfold_rows line_place a 10 j m k (unfold_at 2 10 _ j refl (from, to))
        (unfold_at 4 16 _ j refl (omega arith, to))

    -- where a call stands behind it
    fine_use : j ≤ 7 → (d : Demand Exp) → Named d → Every FineUnfold (check 11 j d ∷ [])
    unfolding Allows
    fine_use early d t = fine_alone unfold_rows line_place a 11 j d (unfold_at 1 11 _ j refl (from, early)) t

    fine_pending : (vs : List (Term Exp)) (m : Mark Exp) → j + length vs ≤ 8 → Every FineUnfold (pending j vs m)
    unfolding pending Every Named
    fine_pending [] m n = tt
    fine_pending (v ∷ vs) m n = fine_use (omega arith) (present m) tt

  -- over the claims of the lines before this one
  module _ (arities : List ℕ) (es : List (Claim Exp)) (before : a ≡ length es) where
    fine_parts : (θ : Fills Exp) (j : ℕ) (vs : List (Term Exp)) (us : List (Use Exp Pair)) (last : Option (Use Exp Pair))
        (m : Mark Exp) → 1 ≤ j → j + length vs ≤ 9 → length us < length vs → Every (UseFits arities a) us
        → LastFits arities a last → Every FineUnfold (parts one es θ j vs us last m)
    unfolding parts LastFits Named
    fine_parts θ j [] us last m l n h f g = absurd (omega arith)
    fine_parts θ j (v ∷ vs) [] none m l n h f g = fine_right m _
    fine_parts θ j (v ∷ vs) [] (some u) m l n h f g =
        let c = below_listed es u.line (omega (arith, g.earlier)) in
        fine_given unfold_rows line_place a (get_elem? es u.line) _ c.0 c.1
        (every_append FineUnfold _ _
        (every_append FineUnfold _ _ (fine_pending j l (omega arith) vs c.0.right (omega arith)) (fine_call j l (omega arith) _ _))
        (fine_right m _))
    fine_parts θ j (v ∷ vs) (u ∷ us) last m l n h f g =
        let fits : UseFits arities a u × Every (UseFits arities a) us = unfold Every in f in
        let c = below_listed es u.line (omega (arith, fits.0.earlier)) in
        fine_given unfold_rows line_place a (get_elem? es u.line) _ c.0 c.1
        (every_append FineUnfold _ _
        (every_append FineUnfold _ _ (fine_use j l (omega arith) (omega arith) (empty c.0.right) tt) (fine_call j l (omega arith) _ _))
        (fine_parts θ (suc j) vs us last m (omega arith) (omega arith) (omega arith) fits.1 g))

    fine_stops : (θ : Fills Exp) (vs : List (Term Exp)) (s : Stop Exp Pair) (m : Mark Exp) → length vs ≤ 8
        → StopFits arities a (length vs) s → Every FineUnfold (stops one es θ vs s m)
    unfolding stops StopFits
    fine_stops θ [] fact m n f = fine_right m none
    fine_stops θ [] (call us last) m n f = absurd (omega (arith, f.0))
    fine_stops θ (v ∷ vs) fact m n f = absurd (omega arith)
    fine_stops θ (v ∷ vs) (call us last) m n f =
        fine_parts θ 1 (v ∷ vs) us last m (omega arith) (omega arith) f.0 f.1 f.2

-- ---- a descent

-- the only call of a rule with one
sole_one : (vs : List (Term Exp)) → length vs ≡ 1 → (v : Term Exp) × (sole vs ≡ some v)
unfolding sole
sole_one [] e = absurd (omega arith)
sole_one (v ∷ []) e = (v, refl)
sole_one (v ∷ w ∷ vs) e = absurd (omega arith)

module _ (a : ℕ) (few : a ≤ 254) where
  abbrev FineDescent : Check Exp → Type 0
  FineDescent k = Fine descent_rows line_place a k

  -- the rows of 01, "Descent"
  descent_at : (k n : ℕ) (parts : Column) (p : ℕ) → get_elem? descent_rows k ≡ some (at_line n parts) → Allows parts p
      → At descent_rows line_place a n p
  descent_at k n parts p e h = row_at descent_rows line_place a k n parts p few e h

  fine_sides : (k n p : ℕ) (m j : Mark Exp) → get_elem? descent_rows k ≡ some (at_line n (only p)) → p ≤ 3
      → Every FineDescent (compare n p m j)
  unfolding Allows
  fine_sides k n p m j e h =
      fine_compare descent_rows line_place a n p m j (descent_at k n (only p) p e refl)
      (descent_at 5 16 _ p refl (omega arith, h))

  fine_level : (m : Mark Exp) → Every FineDescent (check 13 4 (level m) ∷ [])
  unfolding Allows Named
  fine_level m = fine_alone descent_rows line_place a 13 4 (level m) (descent_at 4 13 _ 4 refl refl) tt

-- ---- a line of either kind

module _ (b : RuleBook) (book : BookFits b) (es : List (Claim Exp)) (a : ℕ) (before : a ≡ length es) (few : a ≤ 254) where
  pub line_checks_fine : (l : Claim Exp) (k : LineKind Exp Pair) → KindFits b.arities (call_counts b.rules) a k
      → Every (Fine (line_rows k) line_place a) (line_checks one es b.rules l k)
  unfolding line_checks KindFits line_rows call_counts
  line_checks_fine l (unfolds k θ s) f =
      let r = map_listed _ b.rules k _ f.1 in
      fine_given unfold_rows line_place a (get_elem? b.rules k) _ r.0 r.1
      (every_append _ _ _ (fine_head a few _ _)
      (fine_stops a few b.arities es before θ r.0.calls s l.right
      (every_listed (RuleFits b.arities) b.rules book.rules k r.0 r.1).count
      (subst (λ m. StopFits b.arities a m s) (sym r.2) f.3)))
  line_checks_fine l (descends u k θ) f =
      let c = below_listed es u.line (omega (arith, f.0.earlier)) in
      let r = map_listed _ b.rules k _ f.1 in
      let v = sole_one r.0.calls r.2 in
      fine_given descent_rows line_place a (get_elem? es u.line) _ c.0 c.1
      (fine_given descent_rows line_place a (get_elem? b.rules k) _ r.0 r.1
      (fine_given descent_rows line_place a (sole r.0.calls) _ v.0 v.1
      (every_append _ _ _
      (every_append _ _ _
      (every_append _ _ _
      (every_append _ _ _ (fine_sides a few 0 9 0 _ _ refl (omega arith)) (fine_sides a few 1 12 1 _ _ refl (omega arith)))
      (fine_sides a few 2 9 2 _ _ refl (omega arith))) (fine_sides a few 3 10 3 _ _ refl (omega arith))) (fine_level a few l.right))))

  -- A line's checks give only what 01 lists for its kind.
  pub line_checks_listed : (l : Claim Exp) (k : LineKind Exp Pair) → KindFits b.arities (call_counts b.rules) a k
      → Every (λ c. Among (line_rows k) (reason one (place one line_place a c))) (line_checks one es b.rules l k)
  line_checks_listed l k f = every_weaken (λ c q. q.listed) _ (line_checks_fine l k f)
