-- The parts of an unfold from j on, where it stops, and the whole.
use Rattle.std.proofs.Common.{Ok, Err}
use Prim.Native.Nat.{ℕ, suc, ◌+◌, ◌-◌, ◌<◌}
use mathlib.Core.Path.{◌≡◌, refl, sym, subst, ap}
use mathlib.Core.Logic.{◌≢◌}
use mathlib.Core.List.{List, [], ◌∷◌, ◌++◌, flat_map, append_assoc}
use mathlib.Core.Option.{Option, none, some}
use native.Mathlib.Omega.{arith}
use lib.ListN.{length, get_or, get_elem?}
use Rattle.bits.specs.Packed.{width}
use Rattle.bits.proofs.Groups.{width_append}
use Rattle.patterns.specs.Term.{fill}
use Rattle.patterns.specs.First.{Exp, Pattern, Pair, one}
use Rattle.patterns.specs.Every.{Every}
use Rattle.patterns.proofs.Every.{below_listed, map_listed}
use Rattle.patterns.specs.Derive.{Rule, Book}
use Rattle.patterns.specs.Certificate.{Fills, by, Mark, Claim, Use, Stop, fact, call, unfolds}
use Rattle.patterns.specs.Judge.{Check, compare, parts, stops, line_checks}
use Rattle.grammar.specs.Listing.{Fields, if_any, term_fields, use_fields, filling_fields, stop_fields, stop_number, kind_fields}
use Rattle.grammar.specs.Limits.{UseFits, LastFits, StopFits, KindFits, call_counts}
use Rattle.table.specs.Places.{OWN}
use Rattle.instances.specs.declared.Read.{Read}
use Rattle.comparing.specs.declared.Fault.{Fault}
use Rattle.comparing.specs.declared.Whole.TheVariants.{Unfold}
use Rattle.comparing.specs.declared.Behind.TheVariants.{Judged, Nothing}
use Rattle.begins.specs.declared.Instance.{Instance}
use Rattle.comparing.specs.declared.Subject.TheVariants.{Empty, Call, Claimed}
use Rattle.comparing.specs.declared.Filled.TheVariants.{Bare}
use Rattle.instances.specs.Lying.{Lies, behind}
use Rattle.instances.specs.Listings.{Lists}
use Rattle.begins.specs.Placed.{RightAt, LeftAt, RuleAt, CallsAt}
use Rattle.instances.specs.Taking.{Takes}
use Rattle.begins.specs.Known.{Scene, ReadsUse}
use Rattle.comparing.specs.Subjects.{Means}
use Rattle.comparing.specs.Found.{Found, Finds}
use Rattle.comparing.specs.Rights.{lead}
use Rattle.comparing.specs.Asked.{asked_at, checks_of, end_of, Checks}
use Rattle.unfolds.specs.Unfoldings.{Unfolding, StopsBy, PartBy, Ends, PartsAt, StopsAt, UnfoldsBy, UnfoldAt}
use Rattle.instances.proofs.Lying.{lies_front, lies_back}
use Rattle.instances.proofs.Taking.{rest_at}
use Rattle.begins.proofs.Frames.{below_then, below_less, kept_below, known_below, scene_below}
use Rattle.comparing.proofs.Meanings.{call_means, left_itself}
use Rattle.comparing.proofs.Finding.{finds_stop, finds_then, finds_ending, finds_given}
use Rattle.begins.proofs.Calling.{head_lies, calls_at}

-- ---- the parts from j on

-- what `PartsAt` tells, and `StopsAt`
abbrev PartsTold : List ℕ → List ℕ → (right j count before call_at at : ℕ) → List ℕ → Found → Type 0
PartsTold book cert right j count before call_at at w r =
    (ars : List ℕ) (B : Book Exp) (es : List (Claim Exp)) (θ : Fills Exp) (m : Mark Exp) (vs : List Pattern)
    → Unfolding book cert w ars B es θ right m call_at vs j count → (us : List (Use Exp Pair)) (last : Option (Use Exp Pair)) → length us ≡ before
    → before < length vs → Every (UseFits ars (length es)) us → LastFits ars (length es) last → Lies cert at (flat_map use_fields us ++ if_any use_fields last)
    → Finds (parts one es θ j vs us last m) (at + width (flat_map use_fields us ++ if_any use_fields last)) r

abbrev StopsTold : List ℕ → List ℕ → (right i count call_at at : ℕ) → List ℕ → Found → Type 0
StopsTold book cert right i count call_at at w r =
    (ars : List ℕ) (B : Book Exp) (es : List (Claim Exp)) (θ : Fills Exp) (m : Mark Exp) (vs : List Pattern)
    → Unfolding book cert w ars B es θ right m call_at vs 1 count → (s : Stop Exp Pair) → stop_number s ≡ i → StopFits ars (length es) (length vs) s
    → Lies cert at (stop_fields s) → Finds (stops one es θ vs s m) (at + width (stop_fields s)) r

-- the calls behind the first
rest_calls : {book ars : List ℕ} {at next : ℕ} {v : Pattern} {vs : List Pattern} {j count : ℕ} → CallsAt book ars at (v ∷ vs) j count
    → next ≡ behind at v → CallsAt book ars next vs (j + 1) count
unfolding flat_map Every
rest_calls {book} {at = at} {v = v} {vs = vs} c e = record {
  lies = subst (λ k. Lies book k (flat_map term_fields vs)) (sym e) (lies_back book at (term_fields v) (flat_map term_fields vs) c.lies);
  fits = c.fits.1;
  counted = omega (arith, c.counted);
  first = omega arith;
  few = c.few;
}

pub parts_last : {book cert w after : List ℕ} {right j count before call at : ℕ} {r : Found} → before ≡ 0 → Ends book cert right j count call at w after r
    → PartsAt book cert right j count before call at w after r
unfolding flat_map
parts_last {book} {cert} {w} {after} {right} {j} {count} {before} {call} {at} {r} z e = record { told = go; below = e.below }
  where
    go : PartsTold book cert right j count before call at w r
    go ars B es θ m [] U us last n l f g lies = absurd (omega arith)
    go ars B es θ m (v ∷ vs) U [] last n l f g lies = e.told ars B es θ m v vs U last g lies
    go ars B es θ m (v ∷ vs) U (u ∷ us) last n l f g lies = absurd (omega arith)

-- one part, and what comes behind it
module _ {book cert w v after : List ℕ} {j call at : ℕ} {used : Instance} {r : Found} (read : ReadsUse book cert at w v used) (part : PartBy book cert j Judged call used v after r) where
  module _ {ars : List ℕ} {B : Book Exp} {es : List (Claim Exp)} {θ : Fills Exp} {right : ℕ} {m : Mark Exp} {t : Pattern} {ts : List Pattern} {count : ℕ} (U : Unfolding book cert w ars B es θ right m call (t ∷ ts) j count) where
    one_part : (us : List (Use Exp Pair)) (last : Option (Use Exp Pair)) {u : Use Exp Pair} (gs : Fields) → UseFits ars (length es) u → Lies cert at (use_fields u ++ gs) → {end : ℕ} {s : Found}
        → ((ks : List (Check Exp)) → Finds ks (behind call t) r → Finds (ks ++ parts one es θ (suc j) ts us last m) end s)
        → Finds (parts one es θ j (t ∷ ts) (u ∷ us) last m) end s
    unfolding parts lead
    one_part us last {u} gs fits lies {end} {s} rest =
        let n = below_listed es u.line fits.earlier in
        let x = read.told ars B es U.scene.known (length es) u n.0 fits (lies_front cert at (use_fields u) gs lies) n.1 in
        finds_given _ n.1 (rest _ (part.told ars B es θ (scene_below read.below U.scene) t ts count U.calls_at u n.0 x.0))

    part_ends : {u : Use Exp Pair} (gs : Fields) → UseFits ars (length es) u → Lies cert at (use_fields u ++ gs) → used.end ≡ at + width (use_fields u)
    part_ends {u} gs fits lies =
        let n = below_listed es u.line fits.earlier in
        (read.told ars B es U.scene.known (length es) u n.0 fits (lies_front cert at (use_fields u) gs lies) n.1).1

  pub parts_fault : {right count before : ℕ} {f : Fault} → before ≢ 0 → r ≡ Err f → PartsAt book cert right j count before call at w after (Err f)
  unfolding flat_map Every
  parts_fault {right} {count} {before} {f} ne q = record { told = go; below = below_then read.below (below_less (omega arith) part.below) }
    where
      go : PartsTold book cert right j count before call at w (Err f)
      go ars B es θ m [] U us last e l f g lies = absurd (omega arith)
      go ars B es θ m (t ∷ ts) U [] last e l f g lies = absurd (ne (sym e))
      go ars B es θ m (t ∷ ts) U (u ∷ us) last e l f g lies =
          one_part U us last (flat_map use_fields us ++ if_any use_fields last) f.0
          (subst (Lies cert at) (append_assoc (use_fields u) (flat_map use_fields us) (if_any use_fields last)) lies) (λ ks h. finds_stop _ h q)

  pub parts_on : {right count before x : ℕ} {end : List ℕ} {s : Found} → before ≢ 0 → r ≡ Ok x
      → PartsAt book cert right (j + 1) count (before - 1) x used.end after end s → PartsAt book cert right j count before call at w end s
  unfolding flat_map Every
  parts_on {right} {count} {before} {x} {end} {s} ne q next = record {
    told = go;
    below = below_then read.below (below_then (below_less (omega arith) part.below) next.below);
  }
    where
      go : PartsTold book cert right j count before call at w s
      go ars B es θ m [] U us last e l f g lies = absurd (omega arith)
      go ars B es θ m (t ∷ ts) U [] last e l f g lies = absurd (ne (sym e))
      go ars B es θ m (t ∷ ts) U (u ∷ us) last e l f g lies =
          let gs = flat_map use_fields us ++ if_any use_fields last in
          let all = append_assoc (use_fields u) (flat_map use_fields us) (if_any use_fields last) in
          let here = subst (Lies cert at) all lies in
          let ends = part_ends U gs f.0 here in
          let scene = scene_below (below_then read.below (below_less (omega arith) part.below)) U.scene in
          let behind-it = subst (λ k. Lies cert k gs) (sym ends) (lies_back cert at (use_fields u) gs here) in
          one_part U us last gs f.0 here (λ ks h. finds_then h q (λ z.
          finds_ending (omega (arith, ends, width_append (use_fields u) gs, ap width all))
          (subst (λ i. Finds (parts one es θ i ts us last m) (used.end + width gs) s) (omega arith)
          (next.told ars B es θ m ts (record { scene = scene; right_at = U.right_at; calls_at = rest_calls U.calls_at z }) us last (omega (arith, e)) (omega (arith, l, e)) f.1 g behind-it))))

-- what the loop over parts keeps: whatever is found of the parts from i on is found of all from j on
pub record Goes (book cert : List ℕ) (right count : ℕ) (j before call at : ℕ) (w : List ℕ) (i more call_now next : ℕ) (v : List ℕ) : Type 0 where
  pub whole : {after : List ℕ} {r : Found} → PartsAt book cert right i count more call_now next v after r → PartsAt book cert right j count before call at w after r

pub goes_here : {book cert w : List ℕ} {right count j before more call at : ℕ} → more ≡ before → Goes book cert right count j before call at w j more call at w
goes_here {book} {cert} {w} {right} {count} {j} {before} {more} {call} {at} e = record {
  whole = λ {after} {r} h. subst (λ n. PartsAt book cert right j count n call at w after r) e h;
}

module _ {book cert w v : List ℕ} {right count j before call at i more here next : ℕ} (G : Goes book cert right count j before call at w i more here next v) where
  pub goes_end : {after : List ℕ} {last : ℕ} {r : Found} → last ≡ i → more ≡ 0 → Ends book cert right last count here next v after r
      → PartsAt book cert right j count before call at w after r
  goes_end {after} {r = r} l z h = G.whole (parts_last z (subst (λ k. Ends book cert right k count here next v after r) l h))

  module _ {x u : List ℕ} {used : Instance} {r : Found} (some : more ≢ 0) (read : ReadsUse book cert next v x used) (part : PartBy book cert i Judged here used x u r) where
    pub goes_fault : {f : Fault} → r ≡ Err f → PartsAt book cert right j count before call at w u (Err f)
    goes_fault q = G.whole (parts_fault read part some q)

    pub goes_on : {e less : ℕ} → r ≡ Ok e → less ≡ more - 1 → Goes book cert right count j before call at w (i + 1) less e used.end u
    goes_on {e} {less} q l = record {
      whole = λ {after} {r} h. G.whole (parts_on read part some q (subst (λ n. PartsAt book cert right (i + 1) count n e used.end u after r) l h));
    }

-- ---- where an unfold stops

pub stops_fact : {book cert w after : List ℕ} {right i count call_at at : ℕ} {r : Found} → i ≡ 0 → StopsBy book cert right Empty at w after r
    → StopsAt book cert right i count call_at at w after r
unfolding stops stop_number StopFits stop_fields width Means
stops_fact {book} {cert} {w} {after} {right} {i} {count} {call_at} {at} {r} z p = record { told = go; below = p.below }
  where
    go : StopsTold book cert right i count call_at at w r
    go ars B es θ m [] U fact e fits lies = finds_ending (omega arith) (p.told ars B es m U.scene.known U.right_at none 0 (refl, refl))
    go ars B es θ m (v ∷ vs) U fact e fits lies = absurd (omega arith)
    go ars B es θ m [] U (call us last) e fits lies = absurd (omega arith)
    go ars B es θ m (v ∷ vs) U (call us last) e fits lies = absurd (omega arith)

pub stops_call : {book cert w after : List ℕ} {right i count call_at at : ℕ} {r : Found} → i ≢ 0
    → PartsAt book cert right 1 count (i - 1) call_at at w after r → StopsAt book cert right i count call_at at w after r
unfolding stops stop_number StopFits stop_fields
stops_call {book} {cert} {w} {after} {right} {i} {count} {call_at} {at} {r} ne p = record { told = go; below = p.below }
  where
    go : StopsTold book cert right i count call_at at w r
    go ars B es θ m [] U fact e fits lies = absurd (ne (sym e))
    go ars B es θ m (v ∷ vs) U fact e fits lies = absurd (ne (sym e))
    go ars B es θ m [] U (call us last) e fits lies = absurd (omega (arith, fits.0))
    go ars B es θ m (v ∷ vs) U (call us last) e fits lies =
        p.told ars B es θ m (v ∷ vs) U us last (omega arith) (omega (arith, fits.0)) fits.1 fits.2 lies

-- ---- the whole unfold

module _ {book cert w v : List ℕ} {left right : ℕ} (k : ℕ) {at : ℕ} {c : Read} {r : Found} (a : at ≡ get_or w k 0) (t : Takes book 4 at c) (head : Checks book cert Unfold 0 right Nothing (Call c.at) (Claimed left 1 0 Bare) w v r) where
  rule_at : {ars : List ℕ} {B : Book Exp} {es : List (Claim Exp)} {θ : Fills Exp} → Scene book cert w ars B es θ → {u : Rule Exp} → get_elem? B k ≡ some u
      → RuleAt book ars at u
  rule_at {ars} S {u} e = subst (λ j. RuleAt book ars j u) (sym a) (S.known.rule k u e)

  head_found : {ars : List ℕ} {B : Book Exp} {es : List (Claim Exp)} {θ : Fills Exp} → Scene book cert w ars B es θ → {t : Pattern} → LeftAt cert ars left t
      → {m : Mark Exp} → RightAt cert ars right m
      → {u : Rule Exp} → get_elem? B k ≡ some u → Finds (compare 9 0 (some (fill (by θ) u.head)) (some t)) (behind c.at u.head) r
  unfolding asked_at checks_of end_of
  head_found {ars} S L R e =
      head.told ars S.known.arity _ R _ _ (call_means S (rule_at S e).fits.head (head_lies t (rule_at S e))) _ _ (left_itself S.known L)

  pub unfolds_fault : {i end : ℕ} {f : Fault} → r ≡ Err f → UnfoldsBy book cert left right k i end w v (Err f)
  unfolding line_checks
  unfolds_fault q = record {
    told = λ ars B es θ S l L R u e s z fits lies. finds_given _ e (finds_stop _ (head_found S L R e) q);
    below = below_less (omega arith) head.below;
  }

  pub unfolds_on : {i end x : ℕ} {after : List ℕ} {s : Found} → r ≡ Ok x → StopsAt book cert right i c.value x end v after s
      → UnfoldsBy book cert left right k i end w after s
  unfolding line_checks
  unfolds_on q p = record {
    told = λ ars B es θ S l L R u e s z fits lies.
        finds_given _ e (finds_then (head_found S L R e) q
        (λ y. p.told ars B es θ l.right u.calls
        (record { scene = scene_below (below_less (omega arith) head.below) S; right_at = R; calls_at = calls_at t (rule_at S e) y }) s z fits lies));
    below = below_then (below_less (omega arith) head.below) p.below;
  }

-- ---- an unfold behind its claim

pub unfold_at : {book cert w v after : List ℕ} {left right at uses : ℕ} {c d : Read} {r : Found} → Takes cert 8 at c → Takes cert 4 c.at d
    → Lists book cert OWN d.at w v uses → UnfoldsBy book cert left right c.value d.value uses v after r → UnfoldAt book cert left right at w after r
unfolding kind_fields KindFits call_counts width
unfold_at {book} {cert} {w} {v} {after} {left} {right} {at} {uses} {c} {d} {r} tc td f p = record {
  told = λ ars B es known l L R k θ s fits lies.
      let x = tc.told k _ lies in
      let y = td.told (stop_number s) _ (rest_at tc lies) in
      let both = rest_at td (rest_at tc lies) in
      let g = f.told ars known.arity θ fits.2 (lies_front cert d.at (filling_fields θ) (stop_fields s) both) in
      let n = map_listed (λ r. length r.calls) B k fits.0 fits.1 in
      let scene : Scene book cert v ars B es θ = record { known = known_below (kept_below f.kept) known; own = g.0 } in
      let stop = subst (λ j. Lies cert j (stop_fields s)) (sym g.1) (lies_back cert d.at (filling_fields θ) (stop_fields s) both) in
      finds_ending (omega (arith, x.1, y.1, g.1, width_append (filling_fields θ) (stop_fields s)))
      (subst (λ j. Finds (line_checks one es B l (unfolds j θ s)) (uses + width (stop_fields s)) r) x.0
      (p.told ars B es θ scene l L R n.0 (subst (λ j. get_elem? B j ≡ some n.0) (sym x.0) n.1) s (sym y.0)
      (subst (λ j. StopFits ars (length es) j s) (sym n.2) fits.3) stop));
  below = below_then (kept_below f.kept) (below_less (omega arith) p.below);
}
