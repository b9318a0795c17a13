-- The term that was spelled last is remembered over every push, and copied it is what it would be spelled.
use Prim.Native.Nat.{ℕ, ◌+◌, ◌-◌, ◌≤◌}
use mathlib.Core.Path.{◌≡◌, refl, sym, ap, subst, ◌∙◌}
use mathlib.Core.Bool.{Bool, true, false, not, false≢true}
use mathlib.Core.List.{List, [], ◌++◌}
use Rattle.std.proofs.lemmas.Option.{none-some}
use native.Mathlib.Omega.{arith}
use Rattle.patterns.specs.Term.{Node}
use Rattle.patterns.specs.First.{Exp, exponents}
use Rattle.patterns.specs.Push.{pushes}
use Rattle.table.specs.Nodes.{stack}
use Rattle.table.specs.Sides.{Room, Stacked, Became, Pushes}
use Rattle.table.specs.Answer.{Assures}
use Rattle.table.specs.Repeats.{Closed, part}
use Rattle.std.specs.Prelude.{Option, Some, None}
use Rattle.table.proofs.Nodes.{stack_length}
use Rattle.table.proofs.Sides.{took_room}
use Rattle.table.proofs.Repeats.{part_same, part_pushed}
use Rattle.table.proofs.Copies.{copied_pushed, pushed_more, stays_below}
use Rattle.instances.specs.Walks.{walked}
use Rattle.instances.specs.Repeats.{Spelled, Remembers, Notes, pushed, Recalls, Grows}
use Rattle.instances.specs.declared.Spelt.{Spelt}
use Rattle.instances.specs.declared.Grown.{Grown}
use Rattle.instances.proofs.Pushings.{took_as}

module _ {book cert w : List ℕ} {base n : ℕ} where
  pub remembers_none : Remembers book cert w base n None
  remembers_none = record { told = λ s e. absurd (none-some s e) }

  pub remembers_some : {s : Spelt} → Spelled book cert w base n s → Remembers book cert w base n (Some s)
  remembers_some {s} m = record { told = λ t e. let q : s ≡ t = cc in subst (Spelled book cert w base n) q m }

  -- over any push
  spelled_kept : {v : List ℕ} {k : ℕ} {s : Spelt} (ms : List (Node Exp)) → Pushes base n ms w v (Some k) → Spelled book cert w base n s → Spelled book cert v base k s
  spelled_kept {v} {k} {s} ms g r =
      let m = s.from + s.count in
      let same : stack v base m ≡ stack w base m = stays_below n ms g m r.within r.closed in
      record {
        within = omega (arith, r.within, pushed_more n ms g);
        nodes = part_same v w base m s.from s.count same (omega arith) ∙ r.nodes;
        closed = subst Closed (sym same) r.closed;
      }

  pub remembers_kept : {v : List ℕ} {k : ℕ} {last : Option Spelt} (ms : List (Node Exp)) → Pushes base n ms w v (Some k) → Remembers book cert w base n last
      → Remembers book cert v base k last
  remembers_kept ms g r = record { told = λ s e. spelled_kept ms g (r.told s e) }

-- of the term that is pushed
remembers_new : {book cert w v : List ℕ} {base n k : ℕ} (word : ℕ) → Pushes base n (walked book cert (word - 1)).met w v (Some k) → Closed (stack w base n)
    → Closed (stack v base k) → Remembers book cert v base k (Some (record { word = word; from = n; count = k - n }))
unfolding Stacked
remembers_new {book} {cert} {w} {v} {base} {n} {k} word g c d =
    let up = pushed_more n (walked book cert (word - 1)).met g in
    let all : k ≡ n + (k - n) = omega (arith, up) in
    remembers_some (record {
      within = omega (arith, up);
      nodes = part_pushed v base n k (stack w base n) (walked book cert (word - 1)).met (sym (stack_length w base n)) c g.holds.1;
      closed = subst (λ i. Closed (stack v base i)) all d;
    })

-- ---- which one is remembered

pub no_yes : (b : Bool) → not b ≡ false → b ≡ true
no_yes true e = refl
no_yes false e = absurd (false≢true (sym e))

module _ {base n k word : ℕ} {closed : Bool} {last : Option Spelt} {v : List ℕ} where
  pub notes_last : Notes base n k word closed last v last
  notes_last = record { told = λ book cert w g a r. remembers_kept (walked book cert (word - 1)).met g r }

  pub notes_new : {b : Bool} → closed ≡ true → Assures (Closed (stack v base k)) b → b ≡ true
      → Notes base n k word closed last v (Some (record { word = word; from = n; count = k - n }))
  notes_new {b} e x f = record { told = λ book cert w g a r. remembers_new word g (a.so e) (x.so f) }

-- ---- a term that comes again

pub copied_again : {book cert w v : List ℕ} {base : ℕ} {r : Option ℕ} {word : ℕ} {s : Spelt} (n : ℕ) → word ≡ s.word → Closed (stack w base n)
    → Spelled book cert w base n s → Became base (part w base s.from s.count ++ stack w base n) w v r
    → Pushes base n (walked book cert (word - 1)).met w v r
copied_again {book} {cert} {word = word} {s} n e c m g =
    copied_pushed n s.from s.count (walked book cert (word - 1)).met c
    (m.nodes ∙ ap (λ k. pushes exponents [] (walked book cert (k - 1)).met) (sym e)) g

-- the side is ready to be looked at
pub noting_fits : {base k : ℕ} {w v : List ℕ} {r : Option ℕ} (n : ℕ) (ms : List (Node Exp)) → Room base n w → Pushes base n ms w v r → r ≡ Some k → Room base k v × (n ≤ k)
noting_fits {base} {k} {w} {v} n ms room g e =
    let t = subst (Pushes base n ms w v) e g in
    (took_room base n k ms w v room t, pushed_more n ms t)

-- ---- what a node of an instance does

module _ {book cert w v : List ℕ} {base : ℕ} (n : ℕ) (ms : List (Node Exp)) where
  pub grows_as : {ks : List (Node Exp)} {r : Option Grown} → ms ≡ ks → Grows book cert base n ms w v r → Grows book cert base n ks w v r
  grows_as e g = record { took = took_as n e g.took; recalls = g.recalls }

  module _ {r : Option ℕ} (g : Pushes base n ms w v r) where
    pub grows_full : {o : Option Grown} → r ≡ None → o ≡ None → Grows book cert base n ms w v o
    unfolding pushed Recalls
    grows_full e answer = rw answer (record { took = subst (Pushes base n ms w v) e g; recalls = tt })

    pub grows_kept : {k : ℕ} {last : Option Spelt} → r ≡ Some k → Remembers book cert w base n last → Grows book cert base n ms w v (Some (record { nodes = k; last = last }))
    unfolding pushed Recalls
    grows_kept e m = let t = subst (Pushes base n ms w v) e g in record { took = t; recalls = remembers_kept ms t m }

    pub grows_noted : {k word : ℕ} {closed : Bool} {last next : Option Spelt} → ms ≡ (walked book cert (word - 1)).met → r ≡ Some k
        → Assures (Closed (stack w base n)) closed → Remembers book cert w base n last → Notes base n k word closed last v next
        → Grows book cert base n ms w v (Some (record { nodes = k; last = next }))
    unfolding pushed Recalls
    grows_noted q e a m x =
        let t = subst (Pushes base n ms w v) e g in
        record { took = t; recalls = x.told book cert w (took_as n q t) a m }

-- ---- its answer

pub grown_full : {r : Option Grown} → r ≡ None → pushed r ≡ None
unfolding pushed
grown_full e = rw e

pub grown_to : {r : Option Grown} {g : Grown} → r ≡ Some g → pushed r ≡ Some g.nodes
unfolding pushed
grown_to e = rw e

pub recalled : {book cert v : List ℕ} {base : ℕ} {r : Option Grown} {g : Grown} → r ≡ Some g → Recalls book cert base v r → Remembers book cert v base g.nodes g.last
unfolding Recalls
recalled e m = rw e at m
