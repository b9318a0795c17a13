-- The search: the first index that fits, how many are worth a try, and the call that was built.
use Prim.Native.Nat.{ℕ, suc, ◌+◌, ◌-◌, ◌≤◌, ◌<◌}
use mathlib.Core.Path.{◌≡◌, sym, ◌∙◌, ap, subst}
use mathlib.Core.Logic.{if_pos, if_neg}
use mathlib.Core.List.{List}
use mathlib.Core.Bool.{Bool, true, false, cond}
use mathlib.Core.Option.{some}
use native.Mathlib.Omega.{arith}
use lib.ListN.{length}
use Rattle.std.specs.Prelude.{Option, Some, None}
use Rattle.patterns.specs.Term.{var, fill, nodes}
use Rattle.patterns.specs.Edition.{reindex, form}
use Rattle.patterns.specs.First.{Pattern, one}
use Rattle.patterns.specs.Demand.{level?}
use Rattle.patterns.proofs.Term.{fill_var, length_nodes}
use Rattle.patterns.proofs.First.{normal_is_its_own_form}
use Rattle.covering.specs.Covers.{Call}
use Rattle.covering.specs.Search.{first_from, fits, largest, tries, covering}
use Rattle.covering.proofs.Largest.{largest_small}
use Rattle.table.specs.Places.{NODES, FIRST, BOUND, EMPTY}
use Rattle.table.specs.Nodes.{side}
use Rattle.table.specs.Sides.{Kept}
use Rattle.table.specs.Marks.{Built, mark_nodes}
use Rattle.table.proofs.Writes.{kept_self, kept_then}
use Rattle.table.proofs.Answer.{says_true, says_false}
use Rattle.instances.specs.Lying.{arities, TermAt, behind}
use Rattle.instances.specs.Fillings.{unlisted, FillsTold}
use Rattle.instances.specs.Instances.{Levels, Stored, Builds}
use Rattle.instances.specs.Listings.{Forgets}
use Rattle.instances.specs.Walks.{Passage, walked}
use Rattle.instances.specs.declared.Side.{Side}
use Rattle.instances.proofs.Walks.{walked_term}
use Rattle.instances.proofs.Terms.{as_it_is}
use Rattle.calls.specs.Standing.{Spans, Ends}
use Rattle.calls.specs.Moving.{NotesEnds}
use Rattle.calls.proofs.Standing.{spans_kept, ends_kept}
use Rattle.matching.specs.Matching.{FitsAt, index_found, FirstFit, LastIndex, Tries, SearchesNodes, Searches}
use Rattle.matching.proofs.Bound.{side_kept}

-- ---- one index after the other

-- of n indices from i on those before `index` were tried, and none of them fits
pub record Trying (book s : List ℕ) (k at i n : ℕ) (w₀ w : List ℕ) (index : ℕ) : Type 0 where
  pub told : Ends (arities book) w₀ k 0
      → first_from (fits (arities book) (walked book s at).met (side w₀ FIRST k)) (i + n - index) index
      ≡ first_from (fits (arities book) (walked book s at).met (side w₀ FIRST k)) n i
  pub kept : Kept BOUND 128 w₀ w

module _ (book s : List ℕ) (k at i n : ℕ) (w₀ : List ℕ) where
  abbrev test : ℕ → Bool
  test j = fits (arities book) (walked book s at).met (side w₀ FIRST k) j

  pub trying_start : Trying book s k at i n w₀ w₀ i
  trying_start = record {
    told = λ E. let all : i + n - i ≡ n = omega arith in ap (λ m. first_from test m i) all;
    kept = kept_self BOUND 128 w₀;
  }

  module _ (spans : Spans w₀ k 0) {w : List ℕ} {index : ℕ} (t : Trying book s k at i n w₀ w index) where
    pub trying_spans : Spans w k 0
    trying_spans = spans_kept w₀ w t.kept.size (λ j h. t.kept.low j h) spans

    pub trying_over : i + n ≤ index → FirstFit book s k at i n w₀ w None
    unfolding index_found first_from
    trying_over z = record {
      told = λ E. let none_left : 0 ≡ i + n - index = omega arith in ap (λ m. first_from test m index) none_left ∙ t.told E;
      kept = t.kept;
    }

    module _ (some_left : index < i + n) {v : List ℕ} {r : Bool} (f : FitsAt book s k at index w v r) where
      -- the next index is tried
      next : Ends (arities book) w₀ k 0 → cond r (some index) (first_from test (i + n - (index + 1)) (index + 1)) ≡ first_from test n i
      unfolding first_from
      next E =
          let down : i + n - index ≡ suc (i + n - (index + 1)) = omega arith in
          let up : suc index ≡ index + 1 = omega arith in
          ap (λ b. cond b (some index) (first_from test (i + n - (index + 1)) (index + 1))) tested
          ∙ sym (ap (λ m. first_from test m index) down ∙ ap (λ j. cond (test index) (some index) (first_from test (i + n - (index + 1)) j)) up)
          ∙ t.told E
        where
          tested : r ≡ test index
          tested =
              f.told (ends_kept w₀ w t.kept.size (λ j h. t.kept.low j h) spans.few E)
              ∙ ap (λ ms. fits (arities book) (walked book s at).met ms index) (side_kept w₀ w k spans.few (λ j h. t.kept.low j (omega arith)))

      pub trying_hit : r ≡ true → FirstFit book s k at i n w₀ v (Some index)
      unfolding index_found
      trying_hit e = record {
        told = λ E. rw e at (next E);
        kept = kept_then t.kept f.kept;
      }

      pub trying_on : r ≡ false → Trying book s k at i n w₀ v (index + 1)
      trying_on e = record {
        told = λ E. rw e at (next E);
        kept = kept_then t.kept f.kept;
      }

-- ---- how many indices are worth a try

pub last_large : {k : ℕ} {w : List ℕ} {most : ℕ} → most ≡ largest (side w FIRST k) → 4095 < most → LastIndex k w 4095
last_large e h = record { told = λ l. absurd (omega arith); small = omega arith }

pub last_small : {k : ℕ} {w : List ℕ} {most : ℕ} → most ≡ largest (side w FIRST k) → most ≤ 4095 → LastIndex k w most
last_small e h = record { told = λ l. e; small = h }

module _ (book s : List ℕ) (k at α : ℕ) (w : List ℕ) (start : α ≤ 4095) {r : Bool} (L : Levels book s at r) where
  pub tries_level : r ≡ true → Tries book s k at α w 1
  unfolding tries
  tries_level e = record {
    told = λ t c T N C. sym (if_pos (level? one t) (says_true r (L.told t T) e) _ _);
    few = omega arith;
  }

  pub tries_more : {last many : ℕ} → r ≡ false → LastIndex k w last → many ≡ last + 1 - α → Tries book s k at α w many
  unfolding tries
  tries_more {last} {many} e l m = record {
    told = λ t c T N C.
        let small = largest_small c C.small in
        let up : many ≡ suc last - α = omega arith in
        up
        ∙ ap (λ n. suc n - α) (l.told (subst (λ ns. largest ns ≤ 4095) (sym N) small) ∙ ap largest N)
        ∙ sym (if_neg (level? one t) (says_false r (L.told t T) e) _ _);
    few = omega (arith, l.small);
  }

-- ---- the whole search

pub searched_nodes : {book s : List ℕ} {k at α n : ℕ} {w v after : List ℕ} {r : Option ℕ} → k ≤ NODES → NotesEnds (arities book) k w v
    → Tries book s k at α v n → FirstFit book s k at α n v after r → SearchesNodes book s k at α w after r
unfolding covering
searched_nodes {book} {s} {k} {at} {α} {n} {w} {v} {after} {r} few N T F = record {
  told = λ t c h e C.
      let stands : side v FIRST k ≡ side w FIRST k = side_kept w v k few (λ i l. N.kept.low i l) in
      F.told N.ends
      ∙ ap (λ (u : Passage). first_from (fits (arities book) u.met (side v FIRST k)) n α) (walked_term book s at t h)
      ∙ ap (λ ms. first_from (fits (arities book) (nodes t) ms) n α) (stands ∙ e)
      ∙ ap (λ m. first_from (fits (arities book) (nodes t) (nodes c)) m α) (T.told t c h (stands ∙ e) C);
  size = F.kept.size ∙ N.kept.size;
}

-- a normal call is its own instance
own_form : (c : Pattern) → Call c → form one (fill var (reindex one (1, 0) c)) ≡ c
own_form c C = ap (form one) (fill_var (reindex one (1, 0) c) ∙ as_it_is c) ∙ normal_is_its_own_form c C.normal

module _ {book call w u v : List ℕ} {built : Option Side} (f : Forgets EMPTY w u) (b : Builds book call call FIRST 0 1 0 EMPTY u v built) where
  unfilled : FillsTold book call u EMPTY var
  unfilled = record { each = λ x. unlisted (f.none x) }

  stored : (c : Pattern) → TermAt book call 0 c → Stored FIRST (some (fill var (reindex one (1, 0) c))) (behind 0 c) v built
  stored c h = b.told c var h unfilled

  pub search_full : {cert : List ℕ} {at α : ℕ} {r : Option ℕ} → built ≡ None → r ≡ None → Searches book cert call at α w v r
  unfolding Stored Built mark_nodes
  search_full e none = rw none (record {
    told = λ t c T C K.
        let s : NODES < length (nodes (form one (fill var (reindex one (1, 0) c)))) = subst (Stored FIRST (some (fill var (reindex one (1, 0) c))) (behind 0 c) v) e (stored c C) in
        absurd (omega (arith, s, ap (λ d. length (nodes d)) (own_form c K), length_nodes c, C.small));
    size = b.kept.size ∙ f.kept.size;
  })

  pub search_done : {cert : List ℕ} {at α : ℕ} {a : Side} {after : List ℕ} {r : Option ℕ} → built ≡ Some a → SearchesNodes book cert a.nodes at α v after r
      → Searches book cert call at α w after r
  unfolding Stored Built mark_nodes
  search_done {a = a} e S = record {
    told = λ t c T C K.
        let s : Stored FIRST (some (fill var (reindex one (1, 0) c))) (behind 0 c) v (Some a) = subst (Stored FIRST (some (fill var (reindex one (1, 0) c))) (behind 0 c) v) e (stored c C) in
        S.told t c T (s.0.1 ∙ ap nodes (own_form c K)) K;
    size = S.size ∙ b.kept.size ∙ f.kept.size;
  }
