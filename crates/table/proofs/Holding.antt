-- A second side that is held against the stored first: what one node more does to its state, and what it amounts to.
use Prim.Native.Nat.{ℕ, ◌+◌, ◌*◌, ◌%◌, ◌≤◌, ◌<◌}
use mathlib.Core.Path.{◌≡◌, refl, sym, ap, subst, ◌∙◌}
use Rattle.std.specs.Prelude.{Option, Some, None}
use Rattle.std.proofs.lemmas.Option.{none-some}
use mathlib.Core.List.{List, [], ◌∷◌, ◌++◌, reverse, reverse-reverse}
use native.Mathlib.Omega.{arith}
use lib.ListN.{length, length-reverse}
use Rattle.patterns.specs.Term.{Node, npow}
use Rattle.patterns.specs.First.{Exp, exponents}
use Rattle.patterns.specs.Push.{put, push, pushes}
use Rattle.patterns.proofs.Push.{pushes_append}
use Rattle.table.specs.Places.{NODES}
use Rattle.table.specs.Nodes.{node_of, stack, side, load}
use Rattle.table.specs.Sides.{node_told, Coded}
use Rattle.table.specs.Second.{none, PartsNext, PowerPartsNext, Parts, weight, Tallied, Tracks, rests, waits, AtRest, Came, CameOne, Amounts, Concludes}
use Rattle.table.specs.declared.Held.{Held}
use Rattle.table.specs.declared.Triple.{Triple}
use Rattle.table.specs.declared.Item.{Item}
use Rattle.table.specs.declared.Item.TheVariants.{Plain, Power}
use Rattle.table.specs.declared.Outcome.{Outcome}
use Rattle.table.specs.declared.Outcome.TheVariants.{Same, Other, Full}
use Rattle.table.proofs.Nodes.{is_pow, tells, stack_length}
use Rattle.table.proofs.Loads.{load_append}
use Rattle.table.proofs.Pushing.{push_none, push_some, put_other, put_like, plain_pushed, plain_rests}
use Rattle.table.proofs.Parting.{parts_low, parts_none, parts_some}

-- ---- none has come

pub held_none : (w : List ℕ) (base n : ℕ) {h : Held} → h.nodes ≡ 0 → h.parts ≡ n → h.power ≡ None → Tracks w base n h []
unfolding put
held_none w base n few all rest = rests rest (λ s e. refl) (record { nodes = few; parts = none all })

-- ---- a power is settled

module _ {w : List ℕ} {base : ℕ} {h : Held} where
  pub rest_power : {p : ℕ} {v : Triple} → h.power ≡ Some v → PowerPartsNext w base h.nodes h.parts v.code v.a v.b p
      → AtRest w base h (record { nodes = h.nodes + 1; parts = p; power = None })
  unfolding weight
  rest_power {p} {v} z k = record { told = go; none = refl; low = k.low; few = omega arith; light = omega arith }
    where
      go : (n : ℕ) (ns : List (Node Exp)) → Tracks w base n h ns → Tallied w base n ns (record { nodes = h.nodes + 1; parts = p; power = None })
      go n ns (rests e f c) = absurd (none-some v (sym e ∙ z))
      go n ns (waits {ms = ms} {power = u} s e d q c) =
          let like : u ≡ v = cc in
          let top : ns ≡ npow s (v.a, v.b) ∷ ms = subst (λ t. ns ≡ npow s (t.a, t.b) ∷ ms) like q in
          record {
            nodes = omega (arith, c.nodes, ap length top);
            parts = subst (λ l. Parts w base n l p) (sym top) ((k.told s (subst (λ t. t.code ≡ 3 * s + 2) like d)).told n ms c.nodes c.parts);
          }

  pub rest_none : h.power ≡ None → AtRest w base h h
  rest_none z = record { told = go; none = z; low = omega arith; few = omega arith; light = omega arith }
    where
      go : (n : ℕ) (ns : List (Node Exp)) → Tracks w base n h ns → Tallied w base n ns h
      go n ns (rests e f c) = c
      go n ns (waits s e d q c) = absurd (none-some _ (sym z ∙ e))

pub weight_some : {o : Option Triple} {v : Triple} → o ≡ Some v → weight o ≡ v.a + v.b
unfolding weight
weight_some e = rw e

-- ---- one node more

module _ {w : List ℕ} {base : ℕ} {h : Held} where
  pub comes_plain : (code : ℕ) {k : Held} {p : ℕ} → AtRest w base h k → ¬ (code % 3 ≡ 2) → PartsNext w base k.nodes k.parts (node_of code 0 0) p
      → CameOne w base (node_of code 0 0) h (record { nodes = k.nodes + 1; parts = p; power = k.power })
  unfolding pushes
  comes_plain code {k} {p} z c g = record {
    came = record {
      told = λ n ns x.
          subst (Tracks w base n _) (sym (plain_pushed ns (tells code 0 0) c))
          (rests z.none (plain_rests ns (tells code 0 0) c)
          (record { nodes = omega (arith, (z.told n ns x).nodes); parts = g.told n ns (z.told n ns x).nodes (z.told n ns x).parts }));
      low = omega (arith, g.low, z.low);
      light = omega (arith, z.light);
    };
    few = omega (arith, z.few);
  }

  module _ (s a b : ℕ) where
    pub comes_dropped : a + b ≡ 0 → CameOne w base (npow s (a, b)) h h
    unfolding pushes
    comes_dropped z = record {
      came = record {
        told = λ n ns x. subst (Tracks w base n h) (sym (push_none ns s a b z)) x;
        low = omega arith;
        light = omega arith;
      };
      few = omega arith;
    }

    module _ (some : ¬ (a + b ≡ 0)) where
      added : (n : ℕ) (ns : List (Node Exp)) {v : Triple} → h.power ≡ Some v → v.code ≡ 3 * s + 2 → Tracks w base n h ns
          → Tracks w base n (record { nodes = h.nodes; parts = h.parts; power = Some (record { code = 3 * s + 2; a = v.a + a; b = v.b + b }) }) (push exponents ns (npow s (a, b)))
      added n ns {v} z q (rests e f c) = absurd (none-some v (sym e ∙ z))
      added n ns {v} z q (waits {ms = ms} {power = u} r e d o c) =
          let same : u ≡ v = cc in
          let like : 3 * r + 2 ≡ 3 * s + 2 = sym (subst (λ t. t.code ≡ 3 * r + 2) same d) ∙ q in
          let top : ns ≡ npow r (v.a, v.b) ∷ ms = subst (λ t. ns ≡ npow r (t.a, t.b) ∷ ms) same o in
          waits s refl refl
          (push_some ns s a b some ∙ ap (put exponents s (a, b)) top ∙ put_like s a b ms (is_pow r refl) like)
          (record { nodes = c.nodes; parts = c.parts })

      pub comes_added : {v : Triple} → h.power ≡ Some v → v.code ≡ 3 * s + 2
          → CameOne w base (npow s (a, b)) h (record { nodes = h.nodes; parts = h.parts; power = Some (record { code = 3 * s + 2; a = v.a + a; b = v.b + b }) })
      unfolding pushes load weight
      comes_added z q = record {
        came = record { told = λ n ns x. added n ns z q x; low = omega arith; light = omega (arith, weight_some z) };
        few = omega arith;
      }

      apart : (n : ℕ) (ns : List (Node Exp)) → ((v : Triple) → h.power ≡ Some v → ¬ (v.code ≡ 3 * s + 2)) → Tracks w base n h ns → push exponents ns (npow s (a, b)) ≡ npow s (a, b) ∷ ns
      apart n ns d (rests e f c) = push_some ns s a b some ∙ f s (a, b)
      apart n ns d (waits {ms = ms} {power = u} r z e o c) =
          push_some ns s a b some
          ∙ ap (put exponents s (a, b)) o
          ∙ put_other s (a, b) ms (is_pow r refl) (λ q. d u z (e ∙ q))
          ∙ ap (λ l. npow s (a, b) ∷ l) (sym o)

      pub comes_kept : {k : Held} → ((v : Triple) → h.power ≡ Some v → ¬ (v.code ≡ 3 * s + 2)) → AtRest w base h k
          → CameOne w base (npow s (a, b)) h (record { nodes = k.nodes; parts = k.parts; power = Some (record { code = 3 * s + 2; a = a; b = b }) })
      unfolding pushes load weight
      comes_kept {k} d z = record {
        came = record {
          told = λ n ns x. waits s refl refl (apart n ns d x) (record { nodes = (z.told n ns x).nodes; parts = (z.told n ns x).parts });
          low = z.low;
          light = omega arith;
        };
        few = omega (arith, z.few);
      }

module _ {w : List ℕ} {base : ℕ} {h r : Held} {m : Item} where
  pub comes_as_plain : {code : ℕ} → m ≡ Plain code → CameOne w base (node_of code 0 0) h r → CameOne w base (node_told m) h r
  unfolding node_told
  comes_as_plain e g = rw e g

  pub comes_as_power : {s a b : ℕ} → m ≡ Power s a b → CameOne w base (npow s (a, b)) h r → CameOne w base (node_told m) h r
  unfolding node_told
  comes_as_power e g = rw e g

pub plain_code : {m : Item} {code : ℕ} → m ≡ Plain code → Coded m → ¬ (code % 3 ≡ 2)
unfolding Coded
plain_code e h = rw e at h

pub power_fits_in : {m : Item} {s a b : ℕ} (x bound : ℕ) → m ≡ Power s a b → x + load (node_told m ∷ []) < bound → x + (a + b) < bound
unfolding node_told load
power_fits_in {a = a} {b = b} x bound e l = let k : x + (a + b + 0) < bound = rw e at l in omega arith

-- ---- many nodes

pub came_none : {w : List ℕ} {base : ℕ} {h : Held} → Came w base [] h h
unfolding pushes
came_none = record { told = λ n ns x. x; low = omega arith; light = omega arith }

pub came_then : {w : List ℕ} {base : ℕ} {ms ks : List (Node Exp)} {h k r : Held} → Came w base ms h k → Came w base ks k r → Came w base (ms ++ ks) h r
came_then {w} {base} {ms} {ks} {h} {k} {r} x y = record {
  told = λ n ns z. subst (Tracks w base n r) (sym (pushes_append exponents ns ms ks)) (y.told n (pushes exponents ns ms) (x.told n ns z));
  low = omega (arith, x.low, y.low);
  light = omega (arith, x.light, y.light, load_append ms ks);
}

pub came_as : {w : List ℕ} {base : ℕ} {ms ks : List (Node Exp)} {h r : Held} → ms ≡ ks → Came w base ms h r → Came w base ks h r
came_as {w} {base} {ms} {ks} {h} {r} e x = subst (λ l. Came w base l h r) e x

-- ---- what it amounts to

pub tracks_many : {w : List ℕ} {base n : ℕ} {h : Held} {ns : List (Node Exp)} → Tracks w base n h ns → h.nodes ≤ length ns
tracks_many (rests e f c) = omega (arith, c.nodes)
tracks_many (waits s e d q c) = omega (arith, c.nodes, ap length q)

side_of : (w : List ℕ) (base n : ℕ) {ns : List (Node Exp)} → side w base n ≡ reverse ns → stack w base n ≡ ns
unfolding side
side_of w base n {ns} e = sym (reverse-reverse (stack w base n)) ∙ ap reverse e ∙ reverse-reverse ns

module _ {w : List ℕ} {base n : ℕ} {h k : Held} (z : AtRest w base h k) where
  pub concludes_full : NODES < k.nodes → Concludes w base n h Full
  unfolding Amounts
  concludes_full l = record { told = λ ns x. omega (arith, length-reverse ns, (z.told n ns x).nodes) }

  module _ (few : k.nodes ≤ NODES) where
    fits : (ns : List (Node Exp)) → Tracks w base n h ns → length (reverse ns) ≤ NODES
    fits ns x = omega (arith, length-reverse ns, (z.told n ns x).nodes)

    pub concludes_count : ¬ (k.nodes ≡ n) → Concludes w base n h Other
    unfolding Amounts
    concludes_count d = record {
      told = λ ns x. (fits ns x, λ e. d (omega (arith, (z.told n ns x).nodes, ap length (side_of w base n {ns = ns} e), stack_length w base n)));
    }

    module _ (all : k.nodes ≡ n) where
      whole : (ns : List (Node Exp)) → Tracks w base n h ns → length ns ≡ n
      whole ns x = sym (z.told n ns x).nodes ∙ all

      pub concludes_parted : ¬ (k.parts ≡ n) → Concludes w base n h Other
      unfolding Amounts
      concludes_parted d = record {
        told = λ ns x. (
          fits ns x,
          λ e. parts_some (z.told n ns x).parts (omega (arith, parts_low (z.told n ns x).parts)) (ap (stack w base) (whole ns x) ∙ side_of w base n e),
        );
      }

      pub concludes_same : k.parts ≡ n → Concludes w base n h Same
      unfolding Amounts side
      concludes_same q = record {
        told = λ ns x. (
          fits ns x,
          ap (λ i. reverse (stack w base i)) (sym (whole ns x))
              ∙ ap reverse (parts_none (z.told n ns x).parts (omega (arith, whole ns x))),
        );
      }

-- no second answer fits
pub one_outcome : (stored ms : List (Node Exp)) (r s : Outcome) → Amounts stored ms r → Amounts stored ms s → r ≡ s
unfolding Amounts
one_outcome stored ms Same Same p q = refl
one_outcome stored ms Same Other p q = absurd (q.1 p.1)
one_outcome stored ms Same Full p q = absurd (omega (arith, p.0))
one_outcome stored ms Other Same p q = absurd (p.1 q.1)
one_outcome stored ms Other Other p q = refl
one_outcome stored ms Other Full p q = absurd (omega (arith, p.0))
one_outcome stored ms Full Same p q = absurd (omega (arith, q.0))
one_outcome stored ms Full Other p q = absurd (omega (arith, q.0))
one_outcome stored ms Full Full p q = refl
