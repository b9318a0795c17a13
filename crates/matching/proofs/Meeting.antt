-- A node of the pattern met at a place of the call.
use Prim.Native.Nat.{ℕ, ◌+◌, ◌*◌, ◌-◌, ◌≤◌, ◌<◌}
use mathlib.Core.Path.{◌≡◌, refl, sym, ◌∙◌, ap, ap₂, subst}
use mathlib.Core.Logic.{◌≢◌, ite, if_pos, if_neg}
use mathlib.Core.List.{List, [], ◌∷◌}
use mathlib.Core.Bool.{Bool, true, false}
use mathlib.Core.Option.{none, some}
use lib.ListN.{length, get_or}
use borrow.Author.Tests.{lt-ltb}
use Rattle.std.specs.Prelude.{Option, Some, None}
use Rattle.std.specs.Bool.{then_some}
use Rattle.patterns.specs.Term.{Node, nvar, nfun, npow}
use Rattle.patterns.specs.First.{value}
use Rattle.patterns.specs.Push.{retag}
use Rattle.covering.specs.Left.{Left, left?, taken, behind, under, below}
use Rattle.covering.specs.Walk.{State, on_at, meet, step, walk}
use Rattle.covering.proofs.Matching.{bind_some}
use Rattle.table.specs.Places.{WORDS, NODES, BOUND, OFF}
use Rattle.table.proofs.Writes.{kept_self}
use Rattle.table.proofs.Answer.{says_true, says_false}
use Rattle.instances.specs.Fillings.{entry}
use Rattle.instances.specs.Walks.{single, Named}
use Rattle.bits.specs.declared.Cursor.{Cursor}
use Rattle.instances.specs.declared.Header.{Header}
use Rattle.instances.specs.declared.Header.TheVariants.{Variable, Symbol, Power, Missing}
use Rattle.calls.specs.Standing.{left_at}
use Rattle.calls.specs.Moving.{Behind, SameTerms, moved, Inside, Goes}
use Rattle.calls.specs.declared.Place.{Place}
use Rattle.matching.specs.Bound.{bindings, state_at, arrived}
use Rattle.matching.specs.Matching.{Matches}
use Rattle.matching.proofs.Bound.{left_kept, unbound_term, bound_term, taking, taking_kept, taking_bound}

-- one node is one step
single_step : (ar : ℕ → ℕ) (n : Node ℕ) (z : State) → walk ar (n ∷ []) z ≡ step ar n z
unfolding walk
single_step ar n z = bind_some (step ar n z)

-- ---- a variable

-- the word of a variable
pub own_word : (w : List ℕ) (fills x : ℕ) → x < 64 → get_or w (fills + x) 0 ≡ entry w fills x
unfolding entry
own_word w fills x h = rw (lt-ltb x 64 h)

-- a variable that a header tells
pub low_variable : {h : Header} {x : ℕ} {c : Cursor} → h ≡ Variable x c → Named h → x < 64
unfolding Named
low_variable e n = subst Named e n

module _ (w : List ℕ) (k x : ℕ) (p : Place) where
  -- the words of x
  module _ {word off : ℕ} (e : word ≡ entry w BOUND x) (f : off ≡ entry w OFF x) where
    not_met : (ar : ℕ → ℕ) → word ≡ 0 → bindings ar w k x ≡ none
    unfolding bindings
    not_met ar z = unbound_term ar w k (entry w BOUND x) (entry w OFF x) (sym e ∙ z)

    met : (ar : ℕ → ℕ) → word ≢ 0 → bindings ar w k x ≡ some (taken ar (left_at w k (record { node = word - 1; used = off })) 1)
    unfolding bindings
    met ar z =
        bound_term ar w k (entry w BOUND x) (entry w OFF x) (λ q. z (e ∙ q))
        ∙ ap₂ (λ (a b : ℕ). some (taken ar (left_at w k (record { node = a - 1; used = b })) 1)) (sym e) (sym f)

    module _ {next : Place} (b : Behind w k p next) where
      pub meet_first : WORDS ≤ length w → k ≤ NODES → x < 64 → word ≡ 0 → Matches k p (nvar x ∷ []) w (taking w x p) (Some next)
      unfolding arrived step meet Inside
      meet_first long few low z = record {
        told = λ ar E.
            ap₂ (λ (ms : Left) β. some (record { rest = ms; bound = β }))
            (left_kept (taking_kept w k x p long few low) few next ∙ b.told ar E) (taking_bound w k x p long few low ar)
            ∙ sym (single_step ar (nvar x) (state_at ar w k p) ∙ ap (λ o. meet ar x o (state_at ar w k p)) (not_met ar z));
        inside = b.inside;
        kept = taking_kept w k x p long few low;
      }

      module _ (z : word ≢ 0) {r : Bool} (s : SameTerms w k (record { node = word - 1; used = off }) p r) where
        again : (ar : ℕ → ℕ) → walk ar (nvar x ∷ []) (state_at ar w k p)
            ≡ ite (left? (taken ar (left_at w k (record { node = word - 1; used = off })) 1) (taken ar (left_at w k p) 1))
            (some (record { rest = behind ar (left_at w k p) 1; bound = bindings ar w k })) none
        unfolding step meet
        again ar = single_step ar (nvar x) (state_at ar w k p) ∙ ap (λ o. meet ar x o (state_at ar w k p)) (met ar z)

        -- met again, it asks for the same term
        pub meet_own : Matches k p (nvar x ∷ []) w w (then_some r next)
        unfolding arrived Inside
        meet_own = go r refl
          where
            go : (v : Bool) → r ≡ v → Matches k p (nvar x ∷ []) w w (then_some v next)
            go true e = record {
              told = λ ar E.
                  ap (λ (ms : Left). some (record { rest = ms; bound = bindings ar w k })) (b.told ar E)
                  ∙ sym (again ar ∙ if_pos (left? _ _) (says_true r (s.told ar E) e) _ _);
              inside = b.inside;
              kept = kept_self BOUND 128 w;
            }
            go false e = record {
              told = λ ar E. sym (again ar ∙ if_neg (left? _ _) (says_false r (s.told ar E) e) _ _);
              inside = tt;
              kept = kept_self BOUND 128 w;
            }

-- ---- a symbol, a power, nothing

-- a move that leaves the bindings alone
on_goes : (ar : ℕ → ℕ) (w : List ℕ) (k : ℕ) (r : Option Place) → arrived ar w k r ≡ on_at (bindings ar w k) (moved w k r)
unfolding arrived moved
on_goes ar w k (Some p) = refl
on_goes ar w k None = refl

module _ {w : List ℕ} {k : ℕ} {p : Place} {r : Option Place} where
  pub meets_symbol : (f : ℕ) → Goes w k (under f (left_at w k p)) r → Matches k p (nfun f ∷ []) w w r
  unfolding step
  meets_symbol f g = record {
    told = λ ar E. on_goes ar w k r ∙ ap (on_at (bindings ar w k)) g.is ∙ sym (single_step ar (nfun f) (state_at ar w k p));
    inside = g.inside;
    kept = kept_self BOUND 128 w;
  }

  pub meets_power : (s n : ℕ) → Goes w k (below s n (left_at w k p)) r → Matches k p (npow s n ∷ []) w w r
  unfolding step
  meets_power s n g = record {
    told = λ ar E. on_goes ar w k r ∙ ap (on_at (bindings ar w k)) g.is ∙ sym (single_step ar (npow s n) (state_at ar w k p));
    inside = g.inside;
    kept = kept_self BOUND 128 w;
  }

pub meets_nothing : (w : List ℕ) (k : ℕ) (p : Place) → p.node ≤ k → Matches k p [] w w (Some p)
unfolding arrived walk Inside
meets_nothing w k p h = record { told = λ ar E. refl; inside = h; kept = kept_self BOUND 128 w }

-- ---- a header

module _ (w v : List ℕ) (k : ℕ) (p : Place) (r : Option Place) (i : ℕ) where
  abbrev Meets : List (Node ℕ) → Type 0
  Meets ns = Matches k p ns w v r

  pub header_variable : {h : Header} {x : ℕ} {c : Cursor} → h ≡ Variable x c → Meets (nvar x ∷ []) → Meets (retag (value i) (single h))
  unfolding retag single
  header_variable e m = subst (λ h. Meets (retag (value i) (single h))) (sym e) m

  pub header_symbol : {h : Header} {f n : ℕ} {c : Cursor} → h ≡ Symbol f n c → Meets (nfun f ∷ []) → Meets (retag (value i) (single h))
  unfolding retag single
  header_symbol e m = subst (λ h. Meets (retag (value i) (single h))) (sym e) m

  pub header_power : {h : Header} {s a b n m : ℕ} {c : Cursor} → h ≡ Power s a b c → m ≡ a * i → n ≡ m + b → Meets (npow s n ∷ [])
      → Meets (retag (value i) (single h))
  unfolding retag single value
  header_power {s = s} {b = b} e f g m =
      subst (λ h. Meets (retag (value i) (single h))) (sym e) (subst (λ n. Meets (npow s n ∷ [])) (g ∙ ap (λ m. m + b) f) m)

  pub header_missing : {h : Header} → h ≡ Missing → Meets [] → Meets (retag (value i) (single h))
  unfolding retag single
  header_missing e m = subst (λ h. Meets (retag (value i) (single h))) (sym e) m
