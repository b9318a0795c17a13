-- A call of an unfold with its use, and the call where it stops.
use Rattle.std.proofs.Common.{Ok, Err}
use Prim.Native.Nat.{ℕ, ◌+◌, ◌≤◌, ◌<◌}
use mathlib.Core.Path.{◌≡◌, refl, subst, ◌∙◌}
use mathlib.Core.Logic.{◌≢◌}
use mathlib.Core.List.{List, [], ◌∷◌, ◌++◌, flat_map}
use mathlib.Core.Option.{Option, none, some}
use native.Mathlib.Omega.{arith}
use borrow.Author.Tests.{ne_eqb}
use lib.ListN.{length}
use Rattle.bits.specs.Packed.{width}
use Rattle.patterns.specs.Term.{fill}
use Rattle.patterns.specs.First.{Exp, Pattern, Pair, one}
use Rattle.patterns.specs.Every.{Every}
use Rattle.patterns.specs.Derive.{Book}
use Rattle.patterns.specs.Certificate.{Fills, by, Mark, Claim, Use}
use Rattle.patterns.specs.Checks.{instance, instance_mark}
use Rattle.patterns.specs.Judge.{Check, compare, pending, parts}
use Rattle.grammar.specs.Listing.{if_any, term_fields, use_fields}
use Rattle.grammar.specs.Limits.{RootFits, LastFits}
use Rattle.instances.specs.declared.Read.{Read}
use Rattle.comparing.specs.declared.Fault.{Fault}
use Rattle.comparing.specs.declared.Whole.TheVariants.{Unfold}
use Rattle.comparing.specs.declared.Behind.{Behind}
use Rattle.comparing.specs.declared.Behind.TheVariants.{Pending, Nothing}
use Rattle.comparing.specs.declared.Asked.TheVariants.{Led}
use Rattle.begins.specs.declared.Instance.{Instance}
use Rattle.comparing.specs.declared.Subject.{Subject}
use Rattle.comparing.specs.declared.Subject.TheVariants.{Call, Claimed}
use Rattle.comparing.specs.declared.Filled.TheVariants.{Bare, Used}
use Rattle.instances.specs.Lying.{Lies, behind}
use Rattle.instances.specs.Taking.{Takes}
use Rattle.begins.specs.Known.{Known, Uses, ReadsUse}
use Rattle.comparing.specs.Subjects.{Means, RightMeans}
use Rattle.comparing.specs.Found.{Found, Finds}
use Rattle.comparing.specs.Rights.{lead}
use Rattle.comparing.specs.Asked.{asked_at, checks_of, end_of, Checks}
use Rattle.begins.specs.Placed.{RightAt, CallsAt}
use Rattle.unfolds.specs.Unfoldings.{BehindStop, Unfolding, StopsBy, PartBy, EndsBy, EndsUsed, Ends}
use Rattle.instances.proofs.Lying.{lies_front}
use Rattle.instances.proofs.Taking.{rest_at}
use Rattle.begins.proofs.Frames.{below_then, below_less, known_below, scene_below, uses_below}
use Rattle.comparing.proofs.Meanings.{call_means, used_means, right_itself, plain_right, used_right}
use Rattle.comparing.proofs.Finding.{finds_fault, finds_last, finds_stop, finds_then, finds_ending, finds_given}
use Rattle.patterns.proofs.Every.{below_listed}

-- ---- what stands behind the call where an unfold stops

pub stays_pending : {j count : ℕ} → j < count → BehindStop j count Pending
unfolding lead pending
stays_pending {j} {count} l = record { told = go }
  where
    go : (vs : List Pattern) → count ≡ j + length vs → (m : Mark Exp) → lead Pending 11 j m ≡ pending j vs m
    go [] e m = absurd (omega arith)
    go (v ∷ vs) e m = refl

pub stays_none : {j count : ℕ} → count ≤ j → BehindStop j count Nothing
unfolding lead pending
stays_none {j} {count} l = record { told = go }
  where
    go : (vs : List Pattern) → count ≡ j + length vs → (m : Mark Exp) → lead Nothing 11 j m ≡ pending j vs m
    go [] e m = refl
    go (v ∷ vs) e m = absurd (omega arith)

-- ---- the end of a line

module _ {book cert w after : List ℕ} {right : ℕ} {own theirs : Subject} {r : Found} (p : RightMeans cert right 1 0 Bare own) (c : Checks book cert Unfold 15 right Nothing own theirs w after r) where
  rights_found : (ars : List ℕ) (B : Book Exp) (es : List (Claim Exp)) (m : Mark Exp) → Known book cert w ars B es → RightAt cert ars right m
      → (k : Mark Exp) (e : ℕ) → Means book cert w theirs k e → (end : ℕ) × Finds (compare 12 15 m k) end r
  unfolding asked_at checks_of end_of
  rights_found ars B es m known a k f x =
      let o = plain_right p known m a in
      (o.0, c.told ars known.arity m a m o.0 (subst (λ n. Means book cert w own n o.0) (right_itself m) o.1) k f x)

  pub stops_fault : {at : ℕ} {f : Fault} → r ≡ Err f → StopsBy book cert right theirs at w after (Err f)
  stops_fault q = record {
    told = λ ars B es m known a k f x. finds_fault (rights_found ars B es m known a k f x).1 q;
    below = below_less (omega arith) c.below;
  }

  pub stops_good : {at x : ℕ} → r ≡ Ok x → StopsBy book cert right theirs at w after (Ok at)
  stops_good q = record {
    told = λ ars B es m known a k f x. finds_last (rights_found ars B es m known a k f x).1 q;
    below = below_less (omega arith) c.below;
  }

-- ---- a call with a use

first_lies : {book ars : List ℕ} {at : ℕ} {v : Pattern} {vs : List Pattern} {j count : ℕ} → CallsAt book ars at (v ∷ vs) j count
    → Lies book at (term_fields v)
unfolding flat_map
first_lies {book} {at = at} {v} {vs} c = lies_front book at (term_fields v) (flat_map term_fields vs) c.lies

first_fits : {book ars : List ℕ} {at : ℕ} {v : Pattern} {vs : List Pattern} {j count : ℕ} → CallsAt book ars at (v ∷ vs) j count → RootFits ars v
unfolding Every
first_fits c = c.fits.0

-- at the parts of calls
at_call : (j : ℕ) → 1 ≤ j → j ≤ 8 → asked_at Unfold j ≡ Led 11 10
unfolding asked_at
at_call j l h = rw (ne_eqb j 0 (λ z. omega arith), ne_eqb j 15 (λ z. omega arith))

pub part_by : {book cert w after : List ℕ} {j at : ℕ} {q : Behind} {used : Instance} {r : Found}
    → Checks book cert Unfold j used.right q (Call at) (Claimed used.left used.i used.j Used) w after r → PartBy book cert j q at used w after r
unfolding checks_of end_of
part_by {book} {cert} {w} {after} {j} {at} {q} {used} {r} c = record {
  told = λ ars B es θ s v vs count a u d x.
      subst (λ n. Finds (checks_of n j q d.right (some (fill (by θ) v)) (some (instance one u d.left))) (end_of n (behind at v)) r)
      (at_call j a.first (omega (arith, a.counted, a.few)))
      (c.told ars s.known.arity _ x.claim_at.right_at _ _ (call_means s (first_fits a) (first_lies a)) _ _ (used_means s.known x));
  below = c.below;
}

-- ---- the last call

module _ {book cert w after : List ℕ} {right j count at : ℕ} {q : Behind} {used : Instance} {r : Found} (stays : BehindStop j count q) (part : PartBy book cert j q at used w after r) where
  last_part : {ars : List ℕ} {B : Book Exp} {es : List (Claim Exp)} {θ : Fills Exp} {m : Mark Exp} {v : Pattern} {vs : List Pattern}
      → Unfolding book cert w ars B es θ right m at (v ∷ vs) j count → {u : Use Exp Pair} {c : Claim Exp} → Uses book cert w ars u c used
      → Finds (pending j vs c.right ++ compare 10 j (some (fill (by θ) v)) (some (instance one u c.left))) (behind at v) r
  last_part {ars} {B} {es} {θ} {m} {v} {vs} U {u} {c} x =
      subst (λ (ks : List (Check Exp)). Finds (ks ++ compare 10 j (some (fill (by θ) v)) (some (instance one u c.left))) (behind at v) r)
      (stays.told vs (omega (arith, U.calls_at.counted)) c.right) (part.told ars B es θ U.scene v vs count U.calls_at u c x)

  pub ends_early : {f : Fault} → r ≡ Err f → EndsBy book cert right j count at used w after (Err f)
  ends_early e = record {
    told = λ ars B es θ m v vs U u c x. finds_stop _ (last_part U x) e;
    below = below_less (omega arith) part.below;
  }

  pub ends_by : {x : ℕ} {theirs : Subject} {end : List ℕ} {s : Found} → r ≡ Ok x → RightMeans cert used.right used.i used.j Used theirs
      → StopsBy book cert right theirs used.end after end s → EndsBy book cert right j count at used w end s
  ends_by {x} {theirs} {end} {s} e t stopped = record {
    told = λ ars B es θ m v vs U u c y.
        let known = known_below (below_less (omega arith) part.below) U.scene.known in
        let o = used_right t known (uses_below part.below y) in
        finds_then (last_part U y) e
        (λ z. stopped.told ars B es m known U.right_at (instance_mark one u c.right) o.0 o.1);
    below = below_then (below_less (omega arith) part.below) stopped.below;
  }

-- ---- the call where an unfold stops, with a use or none

pub ends_used : {book cert w v after : List ℕ} {right j count call at : ℕ} {used : Instance} {r : Found} → ReadsUse book cert at w v used
    → EndsBy book cert right j count call used v after r → EndsUsed book cert right j count call at w after r
unfolding parts
ends_used {book} {cert} {w} {v} {after} {right} {j} {count} {call} {at} {used} {r} read ends = record {
  told = λ ars B es θ m t ts U u fits lies.
      let n = below_listed es u.line fits.earlier in
      let x = read.told ars B es U.scene.known (length es) u n.0 fits lies n.1 in
      finds_given _ n.1
      (finds_ending x.1
      (ends.told ars B es θ m t ts (record { scene = scene_below read.below U.scene; right_at = U.right_at; calls_at = U.calls_at }) u n.0 x.0));
  below = below_then read.below ends.below;
}

module _ {book cert : List ℕ} {right j count call at : ℕ} {c : Read} {w after : List ℕ} {r : Found} (t : Takes cert 1 at c) where
  pub ends_here : c.value ≡ 0 → StopsBy book cert right (Call call) c.at w after r → Ends book cert right j count call at w after r
  unfolding parts if_any width
  ends_here z s = record { told = go; below = s.below }
    where
      go : (ars : List ℕ) (B : Book Exp) (es : List (Claim Exp)) (θ : Fills Exp) (m : Mark Exp) (v : Pattern) (vs : List Pattern)
          → Unfolding book cert w ars B es θ right m call (v ∷ vs) j count → (last : Option (Use Exp Pair)) → LastFits ars (length es) last
          → Lies cert at (if_any use_fields last) → Finds (parts one es θ j (v ∷ vs) [] last m) (at + width (if_any use_fields last)) r
      go ars B es θ m v vs U none fits lies =
          subst (λ e. Finds (compare 12 15 m (some (fill (by θ) v))) e r) ((t.told 0 [] lies).1 ∙ omega arith)
          (s.told ars B es m U.scene.known U.right_at _ _ (call_means U.scene (first_fits U.calls_at) (first_lies U.calls_at)))
      go ars B es θ m v vs U (some u) fits lies = absurd (omega (arith, (t.told 1 (use_fields u) lies).0))

  pub ends_there : c.value ≢ 0 → EndsUsed book cert right j count call c.at w after r → Ends book cert right j count call at w after r
  unfolding if_any width LastFits
  ends_there ne s = record { told = go; below = s.below }
    where
      go : (ars : List ℕ) (B : Book Exp) (es : List (Claim Exp)) (θ : Fills Exp) (m : Mark Exp) (v : Pattern) (vs : List Pattern)
          → Unfolding book cert w ars B es θ right m call (v ∷ vs) j count → (last : Option (Use Exp Pair)) → LastFits ars (length es) last
          → Lies cert at (if_any use_fields last) → Finds (parts one es θ j (v ∷ vs) [] last m) (at + width (if_any use_fields last)) r
      go ars B es θ m v vs U none fits lies = absurd (ne (t.told 0 [] lies).0)
      go ars B es θ m v vs U (some u) fits lies =
          subst (λ e. Finds (parts one es θ j (v ∷ vs) [] (some u) m) e r) (omega (arith, (t.told 1 (use_fields u) lies).1))
          (s.told ars B es θ m v vs U u fits (rest_at t lies))
