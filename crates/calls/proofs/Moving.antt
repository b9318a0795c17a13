-- The ways to go on from a place: behind a term, behind a symbol, behind so many applications.
use Prim.Native.Nat.{ℕ, zero, suc, ◌+◌, ◌*◌, ◌-◌, ◌≤◌, ◌<◌}
use mathlib.Core.Path.{◌≡◌, refl, sym, ◌∙◌, ap}
use mathlib.Core.Logic.{◌≢◌, if_pos, if_neg}
use mathlib.Core.List.{List, [], ◌∷◌}
use mathlib.Core.Option.{none, some}
use native.Mathlib.Decide.{ℕ_discrete, dec_le}
use native.Mathlib.Omega.{arith}
use lib.ListN.{get_or}
use Rattle.patterns.specs.Term.{Node, nfun, npow}
use Rattle.patterns.specs.First.{Exp}
use Rattle.covering.specs.Left.{behind, under, upon, below}
use Rattle.table.specs.Places.{FIRST}
use Rattle.table.specs.Nodes.{node_of, node_at}
use Rattle.table.proofs.Nodes.{TellsNode, is_var, is_fun, is_pow, tells, fun_told, pow_told}
use Rattle.calls.specs.Standing.{counted, counted_node, rest, less, lessened, left_at, end_of, Spans}
use Rattle.calls.specs.Moving.{Behind, moved, Inside, Goes}
use Rattle.calls.specs.declared.Place.{Place}
use Rattle.std.specs.Prelude.{Some, None}
use Rattle.calls.proofs.Standing.{rest_node, rest_end, lessened_none, behind_lessened}

abbrev at_node : ℕ → Place
at_node j = record { node = j; used = 0 }

module _ (w : List ℕ) (k : ℕ) (p : Place) where
  -- a node with nothing used up
  whole : (j : ℕ) → left_at w k (at_node j) ≡ rest w k j
  unfolding left_at
  whole j = lessened_none (rest w k j)

  at_end : p.node ≡ k → left_at w k p ≡ []
  unfolding left_at lessened
  at_end e = ap (lessened p.used) (rest_end w k p.node (omega arith))

  -- ---- behind a term

  pub behind_gone : p.node ≡ k → Behind w k p p
  unfolding behind
  behind_gone e = record { told = λ ar x. at_end e ∙ ap (λ ms. behind ar ms 1) (sym (at_end e)); inside = omega arith }

  module _ (spans : Spans w k 0) (fits : p.node ≤ k) (ne : p.node ≢ k) where
    pub behind_term : Behind w k p (at_node (end_of w p.node))
    unfolding left_at
    behind_term = record {
      told = λ ar x.
          whole (end_of w p.node)
          ∙ sym (x.each p.node (omega arith) (omega arith))
          ∙ sym (behind_lessened ar p.used (rest w k p.node));
      inside = spans.within p.node (omega arith) (omega arith);
    }

    -- ---- behind the first node

    shown : left_at w k p ≡ less p.used (counted_node w p.node) ∷ rest w k (p.node + 1)
    unfolding left_at lessened
    shown = ap (lessened p.used) (rest_node w k p.node (omega arith))

    abbrev code : ℕ
    code = get_or w (FIRST + 3 * p.node) 0

    abbrev b : ℕ
    b = get_or w (FIRST + 3 * p.node + 2) 0

    -- no symbol f
    pub under_other : (f : ℕ) → code ≢ 3 * f + 1 → Goes w k (under f (left_at w k p)) None
    unfolding moved Inside counted_node node_at under less counted
    under_other f h = record { is = sym (ap (under f) shown ∙ go (tells _ _ _)); inside = tt }
      where
        go : {a c : ℕ} {m : Node Exp} → TellsNode code a c m → under f (less p.used (counted m) ∷ rest w k (p.node + 1)) ≡ none
        go (is_var x e) = refl
        go (is_fun g e) = if_neg (ℕ_discrete f g) (λ z. h (omega arith)) _ _
        go (is_pow g e) = refl

    pub under_like : (f : ℕ) → code ≡ 3 * f + 1 → Goes w k (under f (left_at w k p)) (Some (at_node (p.node + 1)))
    unfolding moved Inside counted_node node_at under less counted
    under_like f h = record {
      is =
          ap (λ ms. some ms) (whole (p.node + 1))
          ∙ sym (if_pos (ℕ_discrete f f) refl _ _)
          ∙ ap (λ m. under f (less p.used m ∷ rest w k (p.node + 1))) (sym own_symbol)
          ∙ ap (under f) (sym shown);
      inside = omega arith;
    }
      where
        own_symbol : counted_node w p.node ≡ nfun f
        own_symbol =
            let a : ℕ = get_or w (FIRST + 3 * p.node + 1) 0 in
            ap (λ c. counted (node_of c a b)) h ∙ ap counted (fun_told f a b)

    -- no power of s
    pub below_other : (s n : ℕ) → n ≢ 0 → code ≢ 3 * s + 2 → Goes w k (below s n (left_at w k p)) None
    unfolding moved Inside counted_node node_at below less counted
    below_other s n z h = record { is = sym (ap (below s n) shown ∙ go n z (tells _ _ _)); inside = tt }
      where
        go : {a c : ℕ} {m : Node Exp} (i : ℕ) → i ≢ 0 → TellsNode code a c m
            → below s i (less p.used (counted m) ∷ rest w k (p.node + 1)) ≡ none
        go zero y t = absurd (y refl)
        go (suc i) y (is_var x e) = refl
        go (suc i) y (is_fun g e) = refl
        go (suc i) y (is_pow g e) = if_neg (ℕ_discrete s g) (λ q. h (omega arith)) _ _

    module _ (s : ℕ) (h : code ≡ 3 * s + 2) where
      own : counted_node w p.node ≡ npow s b
      unfolding counted_node node_at counted
      own =
          let a : ℕ = get_or w (FIRST + 3 * p.node + 1) 0 in
          ap (λ c. counted (node_of c a b)) h ∙ ap counted (pow_told s a b)

      power : left_at w k p ≡ npow s (b - p.used) ∷ rest w k (p.node + 1)
      unfolding less
      power = shown ∙ ap (λ m. less p.used m ∷ rest w k (p.node + 1)) own

      -- the power is so long
      taken_off : (n : ℕ) → n ≢ 0 → n ≤ b - p.used → below s n (left_at w k p) ≡ some (upon s (b - p.used - n) (rest w k (p.node + 1)))
      unfolding below
      taken_off zero z l = absurd (z refl)
      taken_off (suc n) z l = ap (below s (suc n)) power ∙ if_pos (ℕ_discrete s s) refl _ _ ∙ if_pos (dec_le (suc n) (b - p.used)) l _ _

      module _ (n left : ℕ) (z : n ≢ 0) (e : left ≡ b - p.used) where
        pub below_short : left < n → Goes w k (below s n (left_at w k p)) None
        unfolding moved Inside below
        below_short l = record { is = sym (go n z (omega arith)); inside = tt }
          where
            go : (m : ℕ) → m ≢ 0 → b - p.used < m → below s m (left_at w k p) ≡ none
            go zero y x = absurd (y refl)
            go (suc m) y x =
                ap (below s (suc m)) power ∙ if_pos (ℕ_discrete s s) refl _ _ ∙ if_neg (dec_le (suc m) (b - p.used)) (λ q. omega arith) _ _

        -- and no longer
        pub below_whole : n ≡ left → Goes w k (below s n (left_at w k p)) (Some (at_node (p.node + 1)))
        unfolding moved Inside upon
        below_whole q =
            let zeroth : b - p.used - n ≡ 0 = omega arith in
            record {
              is =
                  ap (λ ms. some ms) (whole (p.node + 1) ∙ ap (λ i. upon s i (rest w k (p.node + 1))) (sym zeroth))
                  ∙ sym (taken_off n z (omega arith));
              inside = omega arith;
            }

        -- the rest of it stands
        pub below_part : n < left → Goes w k (below s n (left_at w k p)) (Some (record { node = p.node; used = p.used + n }))
        unfolding moved Inside upon left_at lessened less
        below_part q = record {
          is = ap (λ ms. some ms) (standing ∙ sym (stays (b - p.used - n) (omega arith))) ∙ sym (taken_off n z (omega arith));
          inside = fits;
        }
          where
            stays : (i : ℕ) → i ≢ 0 → upon s i (rest w k (p.node + 1)) ≡ npow s i ∷ rest w k (p.node + 1)
            stays zero y = absurd (y refl)
            stays (suc i) y = refl

            standing : left_at w k (record { node = p.node; used = p.used + n }) ≡ npow s (b - p.used - n) ∷ rest w k (p.node + 1)
            standing =
                let fewer : b - (p.used + n) ≡ b - p.used - n = omega arith in
                ap (lessened (p.used + n)) (rest_node w k p.node (omega arith))
                ∙ ap (λ m. less (p.used + n) m ∷ rest w k (p.node + 1)) own
                ∙ ap (λ i. npow s i ∷ rest w k (p.node + 1)) fewer

  -- ---- at the call's end, and without a step

  pub under_gone : (f : ℕ) → p.node ≡ k → Goes w k (under f (left_at w k p)) None
  unfolding moved Inside under
  under_gone f e = record { is = sym (ap (under f) (at_end e)); inside = tt }

  pub below_gone : (s n : ℕ) → n ≢ 0 → p.node ≡ k → Goes w k (below s n (left_at w k p)) None
  unfolding moved Inside below
  below_gone s n z e = record { is = sym (ap (below s n) (at_end e) ∙ go n z); inside = tt }
    where
      go : (i : ℕ) → i ≢ 0 → below s i [] ≡ none
      go zero y = absurd (y refl)
      go (suc i) y = refl

  pub below_none : (s n : ℕ) → n ≡ 0 → p.node ≤ k → Goes w k (below s n (left_at w k p)) (Some p)
  unfolding moved Inside below
  below_none s n z l = record { is = go n z; inside = l }
    where
      go : (i : ℕ) → i ≡ 0 → some (left_at w k p) ≡ below s i (left_at w k p)
      go zero y = refl
      go (suc i) y = absurd (omega arith)
