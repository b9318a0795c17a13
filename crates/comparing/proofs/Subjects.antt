-- What a subject means is built and compared; and which marks the subjects of rights mean.
use Prim.Native.Nat.{ℕ, ◌+◌, ◌≤◌}
use mathlib.Core.Path.{◌≡◌, sym, subst}
use mathlib.Core.List.{List}
use native.Mathlib.Omega.{arith}
use lib.ListN.{length}
use Rattle.patterns.specs.Formed.{Formed}
use Rattle.patterns.specs.Certificate.{Mark}
use Rattle.patterns.specs.First.{Exp}
use Rattle.patterns.specs.Checks.{OnMark}
use Rattle.table.specs.Places.{WORDS, OWN, USED, FIRST, SIDE}
use Rattle.table.specs.Nodes.{side}
use Rattle.table.specs.Sides.{Room}
use Rattle.table.specs.Marks.{mark_nodes, form_nodes, Built}
use Rattle.table.specs.Second.{Amounts}
use Rattle.std.specs.Prelude.{Option, Some, None}
use Rattle.table.specs.declared.Outcome.{Outcome}
use Rattle.table.specs.declared.Outcome.TheVariants.{Same, Other, Full as Many}
use Rattle.table.proofs.Writes.{kept_self}
use Rattle.table.proofs.Marks.{built_empty, built_small, built_large, amounts_same, amounts_other, amounts_full}
use Rattle.comparing.specs.declared.Subject.{Subject}
use Rattle.comparing.specs.declared.Subject.TheVariants.{Empty, Call, Claimed}
use Rattle.comparing.specs.declared.Filled.{Filled}
use Rattle.comparing.specs.declared.Filled.TheVariants.{Bare, Used}
use Rattle.comparing.specs.declared.Compared.TheVariants.{Equal, Unequal, TooBig}
use Rattle.instances.specs.declared.Side.{Side}
use Rattle.instances.specs.Lying.{arities, behind}
use Rattle.instances.specs.Instances.{Stored, FewNodes, Builds, Against}
use Rattle.begins.specs.Known.{Below}
use Rattle.comparing.specs.Subjects.{InstanceAt, fills_of, Means, Sided, AmountsEmpty, Seconded, Settles, Compares}
use Rattle.instances.proofs.Instances.{few_done}
use Rattle.instances.proofs.Comings.{against_form}
use Rattle.instances.proofs.Terms.{formed_instance}
use Rattle.begins.proofs.Frames.{kept_below, tells_below}

-- ---- what is meant

instance_below : {book s cert w v : List ℕ} {at i j fills : ℕ} {m : Mark Exp} {end : ℕ} → fills + 64 ≤ FIRST → Below FIRST w v
    → InstanceAt book s cert w at i j fills m end → InstanceAt book s cert v at i j fills m end
instance_below h b x = record {
  term = x.term;
  filling = x.filling;
  lies = x.lies;
  filled = tells_below h b x.filled;
  mark = x.mark;
  ends = x.ends;
}

-- the words of a filling lie below the sides
low_table : (f : Filled) → fills_of f ≤ USED
unfolding fills_of
low_table Bare = omega arith
low_table Used = omega arith

pub means_below : (book cert w v : List ℕ) (a : Subject) (m : Mark Exp) (end : ℕ) → Below FIRST w v → Means book cert w a m end → Means book cert v a m end
unfolding Means
means_below book cert w v Empty m end b x = x
means_below book cert w v (Call at) m end b x = instance_below (omega arith) b x
means_below book cert w v (Claimed at i j f) m end b x = instance_below (omega (arith, low_table f)) b x

instance_formed : {book s cert w : List ℕ} {at i j fills : ℕ} {m : Mark Exp} {end : ℕ} → InstanceAt book s cert w at i j fills m end
    → OnMark (Formed (arities book)) m
unfolding OnMark
instance_formed {book} {s} {cert} {w} {at} {i} {j} {fills} x =
    subst (OnMark (Formed (arities book))) (sym x.mark) (formed_instance book s cert w at fills (i, j) x.term x.filling x.lies x.filled)

means_formed : (book cert w : List ℕ) (a : Subject) (m : Mark Exp) (end : ℕ) → Means book cert w a m end → OnMark (Formed (arities book)) m
unfolding Means OnMark
means_formed book cert w Empty m end x = subst (OnMark (Formed (arities book))) (sym x.0) tt
means_formed book cert w (Call at) m end x = instance_formed x
means_formed book cert w (Claimed at i j f) m end x = instance_formed x

-- ---- the first side

pub sided_empty : (book cert w : List ℕ) → Sided book cert Empty w w (Some (record { nodes = 0; end = 0 }))
unfolding Means Stored FewNodes
sided_empty book cert w = record {
  told = λ m end x. subst (λ k. Stored FIRST k end w (Some (record { nodes = 0; end = 0 }))) (sym x.0) (built_empty FIRST w, sym x.1);
  few = omega arith;
  kept = kept_self FIRST SIDE w;
}

stored_instance : {book s cert w after : List ℕ} {at i j fills : ℕ} {r : Option Side} → Builds book s cert FIRST at i j fills w after r
    → (m : Mark Exp) (end : ℕ) → InstanceAt book s cert w at i j fills m end → Stored FIRST m end after r
stored_instance {after = after} {at = at} {r = r} b m end x =
    subst (λ e. Stored FIRST m e after r) (sym x.ends)
    (subst (λ k. Stored FIRST k (behind at x.term) after r) (sym x.mark) (b.told x.term x.filling x.lies x.filled))

module _ {book cert w after : List ℕ} {at : ℕ} {r : Option Side} where
  pub sided_call : Builds book book cert FIRST at 1 0 OWN w after r → Sided book cert (Call at) w after r
  unfolding Means
  sided_call b = record { told = stored_instance b; few = b.few; kept = b.kept }

  pub sided_claimed : (i j : ℕ) (f : Filled) {fills : ℕ} → fills ≡ fills_of f → Builds book cert cert FIRST at i j fills w after r
      → Sided book cert (Claimed at i j f) w after r
  unfolding Means
  sided_claimed i j f e b =
      let here = subst (λ k. Builds book cert cert FIRST at i j k w after r) e b in
      record { told = stored_instance here; few = here.few; kept = here.kept }

pub sided_as : {book cert w after : List ℕ} {a b : Subject} {r : Option Side} → a ≡ b → Sided book cert b w after r → Sided book cert a w after r
sided_as {book} {cert} {w} {after} {r = r} e s = subst (λ x. Sided book cert x w after r) (sym e) s

-- ---- the second side

pub seconded_empty : {book cert w : List ℕ} {n : ℕ} {r : Outcome} → AmountsEmpty n r → Seconded book cert n Empty w r
unfolding Means mark_nodes
seconded_empty {w = w} {n = n} {r = r} c = record { told = λ k end x. subst (λ m. Amounts (side w FIRST n) (form_nodes m) r) (sym x.0) (c.told w) }

second_instance : {book s cert w : List ℕ} {n at i j fills : ℕ} {r : Outcome} → Against book s cert FIRST n at i j fills w r
    → (k : Mark Exp) (end : ℕ) → InstanceAt book s cert w at i j fills k end → Amounts (side w FIRST n) (form_nodes k) r
second_instance {w = w} {n = n} {r = r} a k end x =
    subst (λ m. Amounts (side w FIRST n) (form_nodes m) r) (sym x.mark) (against_form a x.term x.filling x.lies x.filled)

module _ {book cert w : List ℕ} {n at : ℕ} {r : Outcome} where
  pub seconded_call : Against book book cert FIRST n at 1 0 OWN w r → Seconded book cert n (Call at) w r
  unfolding Means
  seconded_call a = record { told = second_instance a }

  pub seconded_claimed : (i j : ℕ) (f : Filled) {fills : ℕ} → fills ≡ fills_of f → Against book cert cert FIRST n at i j fills w r
      → Seconded book cert n (Claimed at i j f) w r
  unfolding Means
  seconded_claimed i j f e a = record { told = second_instance (subst (λ k. Against book cert cert FIRST n at i j k w r) e a) }

pub seconded_as : {book cert w : List ℕ} {n : ℕ} {a b : Subject} {r : Outcome} → a ≡ b → Seconded book cert n b w r → Seconded book cert n a w r
seconded_as {book} {cert} {w} {n} {r = r} e s = subst (λ x. Seconded book cert n x w r) (sym e) s

-- ---- two sides compared

stored_done : (end : ℕ) (m : Mark Exp) (after : List ℕ) {side-built : Side} {r : Option Side} → Stored FIRST m end after r → r ≡ Some side-built
    → Built FIRST m after (Some side-built.nodes) × (side-built.end ≡ end)
unfolding Stored
stored_done end m after s q = rw q at s

stored_full : (end : ℕ) (m : Mark Exp) (after : List ℕ) {r : Option Side} → Stored FIRST m end after r → r ≡ None → Built FIRST m after None
unfolding Stored
stored_full end m after s q = rw q at s

module _ {book cert w v : List ℕ} {a : Subject} {r : Option Side} (first : Sided book cert a w v r) where
  pub first_full : {b : Subject} → r ≡ None → Compares book cert a b w v TooBig
  unfolding Settles
  first_full q = record {
    told = λ m e x k f y. λ h. built_large FIRST m v (stored_full e m v (first.told m e x) q) h.0;
    below = kept_below first.kept;
  }

  module _ {n e : ℕ} (p : r ≡ Some (record { nodes = n; end = e })) where
    pub second_room : WORDS ≤ length w → Room FIRST n v
    second_room h = record { within = omega (arith, first.kept.size); few = few_done first.few p }

    module _ {b : Subject} {o : Outcome} (second : Seconded book cert n b v o) where
      -- the first side as it was stored, and what the second amounts to beside it
      one : (c : Mark Exp) (end : ℕ) → Means book cert w a c end → Built FIRST c v (Some n) × (e ≡ end)
      one c end x = stored_done end c v (first.told c end x) p

      two : (d : Mark Exp) (end : ℕ) → Means book cert w b d end → Amounts (side v FIRST n) (form_nodes d) o
      two d end x = second.told d end (means_below book cert w v b d end (kept_below first.kept) x)

      pub second_full : o ≡ Many → Compares book cert a b w v TooBig
      unfolding Settles
      second_full q = record {
        told = λ c x g d y h. λ z. amounts_full (side v FIRST n) d (subst (Amounts (side v FIRST n) (form_nodes d)) q (two d y h)) z.1;
        below = kept_below first.kept;
      }

      pub second_same : o ≡ Same → Compares book cert a b w v (Equal e)
      unfolding Settles
      second_same q = record {
        told = λ c x g d y h.
            let met = amounts_same (arities book) FIRST n c d v (means_formed book cert w a c x g) (means_formed book cert w b d y h) (one c x g).0
            (subst (Amounts (side v FIRST n) (form_nodes d)) q (two d y h)) in
            (built_small FIRST n c v (one c x g).0, met.0, met.1, (one c x g).1);
        below = kept_below first.kept;
      }

      pub second_other : o ≡ Other → Compares book cert a b w v Unequal
      unfolding Settles
      second_other q = record {
        told = λ c x g d y h.
            let met = amounts_other (arities book) FIRST n c d v (means_formed book cert w a c x g) (means_formed book cert w b d y h) (one c x g).0
            (subst (Amounts (side v FIRST n) (form_nodes d)) q (two d y h)) in
            (built_small FIRST n c v (one c x g).0, met.0, met.1);
        below = kept_below first.kept;
      }
