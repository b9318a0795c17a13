-- A walk under way: the nodes met so far, with those that the rest of the walk meets, are the whole walk's. One law for every loop over a term:
-- what each keeps of the nodes met so far, `P`, is its own.
use Prim.Native.Nat.{ℕ, suc, ◌+◌, ◌*◌, ◌-◌, ◌≤◌, ◌^◌}
use Rattle.std.specs.Prelude.{Option, Some, None}
use mathlib.Core.Path.{◌≡◌, refl, sym, subst, ap, ap₂, ◌∙◌}
use mathlib.Core.Logic.{inl, inr, ⊎_elim}
use mathlib.Core.Bool.{Bool, true, false, not, false≢true}
use mathlib.Core.List.{List, [], ◌++◌, append_assoc, append-nil}
use native.Mathlib.Omega.{arith}
use lib.Dec.{eqb}
use borrow.Author.Tests.{eqb-true, eqb-false, eq-eqb}
use Rattle.patterns.specs.Term.{Node}
use Rattle.patterns.specs.First.{Exp}
use Rattle.table.specs.Answer.{Says}
use Rattle.table.proofs.Answer.{says_true, says_false}
use Rattle.bits.specs.Bits.{room_of}
use Rattle.bits.specs.View.{Views}
use Rattle.instances.specs.Headers.{header_at, Heads}
use Rattle.instances.specs.Walks.{single, next_stand, Next, Passage, ahead, walk, Named, Ended, walked}
use Rattle.instances.specs.Turns.{Begins, Meets, Turned, Turns}
use Rattle.instances.specs.Instances.{Skips}
use Rattle.instances.specs.declared.Header.{Header}
use Rattle.instances.specs.declared.Stand.{Stand}
use Rattle.instances.specs.declared.nodes.Walk.{Walk}
use Rattle.instances.proofs.Headers.{header_named}
use Rattle.instances.proofs.Walks.{walk_step, walk_none, walked_term}

-- ---- one turn

pub over_spent : (left pending : ℕ) → left ≡ 0 → Says (Ended left pending) (eqb left 0)
unfolding Says
over_spent left pending z = rw (eq-eqb left 0 z) (inl z)

pub over_pending : (left pending : ℕ) → ¬ (left ≡ 0) → Says (Ended left pending) (eqb pending 0)
unfolding Says
over_pending left pending some = go (eqb pending 0) refl
  where
    go : (b : Bool) → eqb pending 0 ≡ b → Says (Ended left pending) b
    go true e = inr (eqb-true pending 0 e)
    go false e = ⊎_elim some (eqb-false pending 0 e)

-- what its test tells
pub is_ended : {left pending : ℕ} (b : Bool) → Says (Ended left pending) b → b ≡ true → Ended left pending
is_ended b so z = says_true b so z

pub under_way : {left pending : ℕ} (b : Bool) → Says (Ended left pending) b → b ≡ false → (1 ≤ left) × (1 ≤ pending)
under_way {left} {pending} b so z =
    let on = says_false b so z in (above left (λ e. on (inl e)), above pending (λ e. on (inr e)))
  where
    above : (n : ℕ) → ¬ (n ≡ 0) → 1 ≤ n
    above n h = omega arith

pub some_pending : (left pending : ℕ) (b : Bool) → Says (Ended left pending) b → not b ≡ true → pending + 65536 * left ≤ 2 ^ 32 → (1 ≤ pending) × (pending ≤ 2 ^ 32)
some_pending left pending true so z few = absurd (false≢true z)
some_pending left pending false so z few = ((under_way false so refl).1, omega arith)

pub turn_over : (book s : List ℕ) (left : ℕ) (p : Stand) → Ended left p.pending → Turned book s left p left p None
unfolding Turned walk
turn_over book s left p = ⊎_elim (λ z. ap (λ k. walk book s k p) z) (walk_none book s left p)

pub turn_met : (book s : List ℕ) (left : ℕ) (p : Stand) {q : Stand} {h : Header} {x room : ℕ} → 1 ≤ left → 1 ≤ p.pending
    → Views s p.at x → room ≡ room_of s → Heads book x p.at room h → Next p.pending h q → Turned book s left p (left - 1) q (Some h)
unfolding Turned
turn_met book s left p {q} {h} some on v e k n =
    let is : h ≡ header_at book s p.at = k.is s v e in
    let down : left ≡ suc (left - 1) = omega arith in
    record {
      some = omega arith;
      named = subst Named (sym is) (header_named book s p.at);
      more = ap (λ k. walk book s k p) down
          ∙ walk_step book s (left - 1) p (λ z. omega arith)
          ∙ ap (λ k. ahead (single k) (walk book s (left - 1) (next_stand p.pending k))) (sym is)
          ∙ ap (λ k. ahead (single h) (walk book s (left - 1) k)) (sym n.is);
    }

-- ---- a walk under way

pub record Going (P : List (Node Exp) → Type 0) (book s : List ℕ) (at : ℕ) (t : Walk) : Type 0 where
  pub met : List (Node Exp)
  pub book_is : t.book.now ≡ book
  pub s_is : t.s.now ≡ s
  pub whole : walked book s at ≡ ahead met (walk book s t.left t.stand)
  pub holds : P met

pub going_start : {P : List (Node Exp) → Type 0} {book s : List ℕ} {at : ℕ} {t : Walk} → Begins book s at t → P [] → Going P book s at t
unfolding walked
going_start {book = book} {s} b h = record {
  met = [];
  book_is = b.book_is;
  s_is = b.s_is;
  whole = sym (ap₂ (walk book s) b.left_is b.stand_is);
  holds = h;
}

-- a turn from where it stands
pub record Turn (book s : List ℕ) (t u : Walk) (r : Option Header) : Type 0 where
  pub book_is : u.book.now ≡ book
  pub s_is : u.s.now ≡ s
  pub turned : Turned book s t.left t.stand u.left u.stand r

module _ {P : List (Node Exp) → Type 0} {book s : List ℕ} {at : ℕ} {t : Walk} (g : Going P book s at t) where
  going_turn : {u : Walk} {r : Option Header} → Turns t u r → Turn book s t u r
  going_turn {u} {r} n = record {
    book_is = n.book_is ∙ g.book_is;
    s_is = n.s_is ∙ g.s_is;
    turned = subst (λ k. Turned book k t.left t.stand u.left u.stand r) g.s_is
        (subst (λ k. Turned k t.s.now t.left t.stand u.left u.stand r) g.book_is n.turned);
  }

  -- it is over: these are its nodes
  pub going_over : {u : Walk} → Turns t u None → walked book s at ≡ record { met = g.met; end = u.stand.at }
  unfolding Turned
  going_over {u} n =
      g.whole
      ∙ ap (ahead g.met) (going_turn n).turned
      ∙ ap (λ ns. record { met = ns; end = u.stand.at }) (append-nil g.met)

  -- the next node
  pub meets : {u : Walk} {h : Header} → Turns t u (Some h) → Meets book s t.left t.stand h u.left u.stand
  unfolding Turned
  meets n = (going_turn n).turned

  module _ {u : Walk} {h : Header} (n : Turns t u (Some h)) where
    -- one node more
    pub going_more : walked book s at ≡ ahead (g.met ++ single h) (walk book s u.left u.stand)
    going_more =
        g.whole
        ∙ ap (ahead g.met) (meets n).more
        ∙ ap (λ ns. record { met = ns; end = (walk book s u.left u.stand).end }) (sym (append_assoc g.met (single h) _))

    pub going_on : {Q : List (Node Exp) → Type 0} → Q (g.met ++ single h) → Going Q book s at u
    going_on holds = record {
      met = g.met ++ single h;
      book_is = (going_turn n).book_is;
      s_is = (going_turn n).s_is;
      whole = going_more;
      holds = holds;
    }

-- ---- where the term ends

pub skipped : (book s : List ℕ) (at r : ℕ) (ns : List (Node Exp)) → walked book s at ≡ record { met = ns; end = r } → Skips book s at r
skipped book s at r ns e = record { told = λ t h. ap (λ (v : Passage). v.end) (sym e ∙ walked_term book s at t h) }
