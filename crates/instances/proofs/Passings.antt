-- The term that was spelled last is remembered by the stored nodes that it became, and where they stand again it has come again.
use Prim.Native.Nat.{ℕ, ◌+◌, ◌-◌, ◌≤◌}
use mathlib.Core.Path.{◌≡◌, sym, ap, subst, ◌∙◌}
use mathlib.Core.Bool.{Bool}
use mathlib.Core.List.{List, []}
use Rattle.std.specs.Prelude.{Option, Some, None}
use native.Mathlib.Omega.{arith}
use Rattle.patterns.specs.Term.{Node}
use Rattle.patterns.specs.First.{Exp, exponents}
use Rattle.patterns.specs.Push.{pushes}
use Rattle.patterns.proofs.Push.{pushes_grow}
use Rattle.table.specs.Places.{NODES}
use Rattle.table.specs.Nodes.{stack}
use Rattle.table.specs.Answer.{Assures}
use Rattle.table.specs.Repeats.{Closed, part}
use Rattle.table.specs.Second.{Came}
use Rattle.table.specs.declared.Held.{Held}
use Rattle.table.proofs.Holding.{came_as}
use Rattle.table.proofs.Repeats.{closed_top, stack_part, part_pushed}
use Rattle.table.proofs.Copies.{came_again, tracks_stored, tracks_closed}
use Rattle.instances.specs.Walks.{walked}
use Rattle.instances.specs.Repeats.{Spelled, Remembers, Tracked, Repeated, Onward, NotesHeld, Passes}
use Rattle.instances.specs.declared.Spelt.{Spelt}
use Rattle.instances.specs.declared.Passed.{Passed}
use Rattle.instances.proofs.Repeats.{remembers_some}

-- ---- which one is remembered

pub onward : {w : List ℕ} {base : ℕ} {h k : Held} (ms : List (Node Exp)) → Tracked w base h → Came w base ms h k → Onward h k
onward {h = h} {k} ms t c = record {
  grew = λ z q. omega
      (arith, (tracks_closed h z t.tracks).1, (tracks_closed k q (c.told t.n t.ns t.tracks)).1, pushes_grow exponents t.ns ms);
}

module _ {h k : Held} {word : ℕ} {last : Option Spelt} where
  pub held_last : NotesHeld h k word last last
  held_last = record { told = λ book cert w base few t c m. m }

  pub held_new : h.power ≡ None → k.power ≡ None → k.nodes ≤ k.parts → NotesHeld h k word last (Some (record { word = word; from = h.nodes; count = k.nodes - h.nodes }))
  held_new z q l = record { told = go }
    where
      go : (book cert w : List ℕ) (base : ℕ) → h.parts ≤ NODES → Tracked w base h → Came w base (walked book cert (word - 1)).met h k
          → Remembers book cert w base NODES last
          → Remembers book cert w base NODES (Some (record { word = word; from = h.nodes; count = k.nodes - h.nodes }))
      go book cert w base few t c m =
          let ms = (walked book cert (word - 1)).met in
          let x = c.told t.n t.ns t.tracks in
          let stored = tracks_stored k q l x in
          let up = (onward ms t c).grew z q in
          let all : k.nodes ≡ h.nodes + (k.nodes - h.nodes) = omega (arith, up) in
          remembers_some (record {
            within = omega (arith, up, c.low);
            nodes = part_pushed w base h.nodes k.nodes t.ns ms (tracks_closed h z t.tracks).1 (tracks_closed h z t.tracks).0 stored;
            closed = subst (λ i. Closed (stack w base i)) all (subst Closed (sym stored) (tracks_closed k q x).0);
          })

-- ---- a term that comes again

pub repeated : {w : List ℕ} {base word : ℕ} {r : Bool} (h : Held) (last : Spelt) → word ≡ last.word → h.power ≡ None → h.nodes + last.count ≤ h.parts
    → Assures (part w base h.nodes last.count ≡ part w base last.from last.count) r → Assures (Repeated w base h word last) r
repeated h last e z l a = record { so = λ y. record { word_same = e; none = z; few = l; same = a.so y } }

pub came_repeated : {book cert w : List ℕ} {base word : ℕ} {h : Held} {s : Spelt} → Spelled book cert w base NODES s → Repeated w base h word s
    → Came w base (walked book cert (word - 1)).met h (record { nodes = h.nodes + s.count; parts = h.parts; power = h.power })
came_repeated {book} {cert} {w} {base} {word} {h} {s} m r =
    let ms = (walked book cert (word - 1)).met in
    let old = part w base s.from s.count in
    let became : old ≡ pushes exponents [] ms = m.nodes ∙ ap (λ k. pushes exponents [] (walked book cert (k - 1)).met) (sym r.word_same) in
    let closed : Closed old = closed_top old (stack w base s.from) (subst Closed (stack_part w base s.from s.count) m.closed) in
    came_again h s.count ms r.none r.few (subst Closed became closed) (r.same ∙ became)

-- ---- what a node of an instance does

module _ {book cert w : List ℕ} {base : ℕ} {h : Held} where
  pub passes_as : {ms ks : List (Node Exp)} {r : Passed} → ms ≡ ks → Passes book cert w base ms h r → Passes book cert w base ks h r
  passes_as e p = record { came = came_as e p.came; remembers = p.remembers }

  pub passes : {ms : List (Node Exp)} {k : Held} {last : Option Spelt} → Came w base ms h k → Remembers book cert w base NODES last
      → Passes book cert w base ms h (record { held = k; last = last })
  passes c m = record { came = c; remembers = m }

  pub passes_noted : {k : Held} {word : ℕ} {last next : Option Spelt} → h.parts ≤ NODES → Tracked w base h → Came w base (walked book cert (word - 1)).met h k
      → Remembers book cert w base NODES last → NotesHeld h k word last next
      → Passes book cert w base (walked book cert (word - 1)).met h (record { held = k; last = next })
  passes_noted few t c m x = passes c (x.told book cert w base few t c m)
