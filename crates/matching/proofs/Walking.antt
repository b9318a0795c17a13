-- The walk over a packed pattern against the call: what the nodes met so far have come to.
use Prim.Native.Nat.{ℕ, ◌-◌, ◌≤◌}
use mathlib.Core.Path.{◌≡◌, sym, ◌∙◌, ap, ap₂, subst}
use mathlib.Core.List.{List, ◌++◌}
use mathlib.Core.Bool.{Bool, true, false}
use mathlib.Core.Option.{none, some, bind}
use native.Mathlib.Omega.{arith}
use Rattle.std.specs.Prelude.{Option, Some, None}
use Rattle.patterns.specs.Term.{Node}
use Rattle.patterns.specs.First.{Exp, value}
use Rattle.patterns.specs.Push.{retag}
use Rattle.covering.specs.Left.{Left}
use Rattle.covering.specs.Walk.{Bindings, State, walk}
use Rattle.covering.specs.Search.{number, found, fits}
use Rattle.covering.proofs.Matching.{walk_append}
use Rattle.table.specs.Places.{NODES, FIRST, BOUND}
use Rattle.table.specs.Nodes.{side}
use Rattle.table.specs.Sides.{Kept}
use Rattle.table.proofs.Writes.{kept_then}
use Rattle.table.proofs.Sides.{kept_wider}
use Rattle.instances.specs.Lying.{arities}
use Rattle.instances.specs.Listings.{Forgets}
use Rattle.instances.specs.Walks.{single, Passage, walked}
use Rattle.instances.specs.Turns.{Begins, Turns}
use Rattle.instances.specs.Walks.{walk as passage}
use Rattle.instances.specs.declared.Header.{Header}
use Rattle.instances.specs.declared.nodes.Walk.{Walk}
use Rattle.instances.proofs.Goings.{Going, going_start, going_over, going_more, going_on}
use Rattle.calls.specs.Standing.{nodes_from, rest, left_at, Spans, Ends}
use Rattle.calls.specs.Moving.{Inside}
use Rattle.calls.specs.declared.Place.{Place}
use Rattle.calls.proofs.Standing.{lessened_none, retag_append, side_nodes, spans_kept, ends_kept}
use Rattle.matching.specs.Bound.{bindings, state_at, arrived}
use Rattle.matching.specs.Matching.{Matches, FitsAt}
use Rattle.matching.proofs.Bound.{left_kept, side_kept, unbound}

-- a call of which nothing is matched yet
abbrev begin : List ℕ → ℕ → State
begin w k = record { rest = retag number (side w FIRST k); bound = λ x. none }

-- what the nodes met so far come to
abbrev Came : List ℕ → ℕ → ℕ → List ℕ → List ℕ → Place → List (Node Exp) → Type 0
Came book k i w₀ w place met =
    Ends (arities book) w₀ k 0 → walk (arities book) (retag (value i) met) (begin w₀ k) ≡ some (state_at (arities book) w k place)

-- a walk under way: it came to a place, with the table w
pub record Walking (book s : List ℕ) (k at i : ℕ) (w₀ w : List ℕ) (place : Place) (t : Walk) : Type 0 where
  pub going : Going (Came book k i w₀ w place) book s at t
  pub inside : place.node ≤ k
  pub kept : Kept BOUND 128 w₀ w

abbrev start : Place
start = record { node = 0; used = 0 }

module _ (book s : List ℕ) (k at i : ℕ) (w₀ : List ℕ) (spans : Spans w₀ k 0) where
  -- nothing is bound, and the whole call is left
  begins : (ar : ℕ → ℕ) (w : List ℕ) → Kept BOUND 128 w₀ w → bindings ar w k ≡ (λ x. none) → ◌≡◌ {A = State} (begin w₀ k) (state_at ar w k start)
  unfolding left_at rest
  begins ar w kept e =
      let all : k - 0 ≡ k = omega arith in
      ap₂ (λ (ms : Left) (β : Bindings). record { rest = ms; bound = β })
      (side_nodes w₀ k
      ∙ ap (nodes_from w₀ 0) (sym all)
      ∙ sym (lessened_none (nodes_from w₀ 0 (k - 0)))
      ∙ sym (left_kept kept spans.few start))
      (sym e)

  -- all bindings are forgotten first
  pub walking_start : {w : List ℕ} {t : Walk} → Forgets BOUND w₀ w → Begins book s at t → Walking book s k at i w₀ w start t
  unfolding walk retag
  walking_start {w} f b =
      let kept : Kept BOUND 128 w₀ w = kept_wider (omega arith) (omega arith) f.kept in
      record {
        going = going_start b (λ E. ap (λ (z : State). some z) (begins (arities book) w kept (unbound (arities book) w k f.none)));
        inside = omega arith;
        kept = kept;
      }

  module _ {w : List ℕ} {place : Place} {t : Walk} (g : Walking book s k at i w₀ w place t) where
    pub walking_spans : Spans w k 0
    walking_spans = spans_kept w₀ w g.kept.size (λ n h. g.kept.low n h) spans

    ends_now : Ends (arities book) w₀ k 0 → Ends (arities book) w k 0
    ends_now E = ends_kept w₀ w g.kept.size (λ n h. g.kept.low n h) spans.few E

    -- the pattern is over: it fits
    pub walking_over : {u : Walk} → Turns t u None → FitsAt book s k at i w₀ w true
    unfolding fits found
    walking_over n = record {
      told = λ E.
          ap found
          (sym
          (ap (λ (v : Passage). walk (arities book) (retag (value i) v.met) (begin w₀ k)) (going_over g.going n)
          ∙ g.going.holds E));
      kept = g.kept;
    }

    module _ {u : Walk} {h : Header} (here : Turns t u (Some h)) {v : List ℕ} {r : Option Place} (m : Matches k place (retag (value i) (single h)) w v r) where
      -- one node more
      stepped : Ends (arities book) w₀ k 0
          → walk (arities book) (retag (value i) (g.going.met ++ single h)) (begin w₀ k) ≡ arrived (arities book) v k r
      unfolding bind
      stepped E =
          ap (λ ns. walk (arities book) ns (begin w₀ k)) (retag_append (value i) g.going.met (single h))
          ∙ walk_append (arities book) (retag (value i) g.going.met) (retag (value i) (single h)) (begin w₀ k)
          ∙ ap (λ o. bind o (walk (arities book) (retag (value i) (single h)))) (g.going.holds E)
          ∙ sym (m.told (arities book) (ends_now E))

      pub walking_off : r ≡ None → FitsAt book s k at i w₀ v false
      unfolding fits found bind arrived
      walking_off z = record {
        told = λ E.
            ap found
            (sym
            (ap (λ (o : Passage). walk (arities book) (retag (value i) o.met) (begin w₀ k)) (going_more g.going here)
            ∙ ap (λ ns. walk (arities book) ns (begin w₀ k)) (retag_append (value i) (g.going.met ++ single h) more)
            ∙ walk_append (arities book) (retag (value i) (g.going.met ++ single h)) (retag (value i) more) (begin w₀ k)
            ∙ ap (λ o. bind o (walk (arities book) (retag (value i) more))) (stepped E ∙ ap (arrived (arities book) v k) z)));
        kept = kept_then g.kept m.kept;
      }
        where
          more : List (Node Exp)
          more = (passage book s u.left u.stand).met

      pub walking_on : {next : Place} → r ≡ Some next → Walking book s k at i w₀ v next u
      unfolding arrived Inside
      walking_on z = record {
        going = going_on g.going here (λ E. stepped E ∙ ap (arrived (arities book) v k) z);
        inside = subst (Inside k) z m.inside;
        kept = kept_then g.kept m.kept;
      }

-- ---- the bindings forgotten first

module _ {w u : List ℕ} (f : Forgets BOUND w u) where
  forgot : Kept BOUND 128 w u
  forgot = kept_wider (omega arith) (omega arith) f.kept

  pub forgot_spans : {k : ℕ} → Spans w k 0 → Spans u k 0
  forgot_spans s = spans_kept w u f.kept.size (λ n h. f.kept.low n h) s

  pub forgot_fits : {book s v : List ℕ} {k at i : ℕ} {r : Bool} → k ≤ NODES → FitsAt book s k at i u v r → FitsAt book s k at i w v r
  forgot_fits {book} {s} {v} {k} {at} {i} few h = record {
    told = λ E.
        h.told (ends_kept w u f.kept.size (λ n l. f.kept.low n l) few E)
        ∙ ap (λ ms. fits (arities book) (walked book s at).met ms i) (side_kept w u k few (λ n l. f.kept.low n (omega arith)));
    kept = kept_then forgot h.kept;
  }
