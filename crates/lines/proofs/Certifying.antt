-- The lines of a certificate, one over the claims of those before it, and the whole.
use Rattle.std.proofs.Common.{Result, Ok, Err}
use Prim.Native.Nat.{ℕ, ◌+◌, ◌-◌, ◌≤◌}
use mathlib.Core.Path.{◌≡◌, refl, sym, subst, ap, ◌∙◌}
use mathlib.Core.Logic.{◌≢◌}
use mathlib.Core.List.{List, [], ◌∷◌, ◌++◌, map, flat_map, append_assoc, append-nil}
use mathlib.Core.Option.{Option, none, some}
use native.Mathlib.Omega.{arith}
use lib.ListN.{length, get_or}
use Rattle.answers.specs.Carried.{carried}
use Rattle.answers.specs.Numbers.{paper_verdict}
use Rattle.patterns.specs.Reason.{Reason, line_place}
use Rattle.patterns.specs.First.{Exp, Pair, Pace, one}
use Rattle.patterns.specs.Derive.{Book}
use Rattle.patterns.specs.Certificate.{Claim, Line, Closing, claim_of}
use Rattle.patterns.specs.Judge.{line_checks, checks_from, checks, first_unmet, Ruling, accept, refuse, ruling, judge}
use Rattle.grammar.specs.Listing.{line_fields, closing_fields, certificate_fields}
use Rattle.grammar.specs.Limits.{LinesFit, ClosingFits, call_counts}
use Rattle.table.specs.Places.{LEFTS, RIGHTS, EMPTY}
use Rattle.verdicts.proofs.Parted.{parted_line}
use Rattle.answers.specs.declared.Acceptance.{Acceptance}
use Rattle.answers.specs.declared.Refusal.{Refusal}
use Rattle.instances.specs.declared.Read.{Read}
use Rattle.comparing.specs.declared.Fault.{Fault}
use Rattle.instances.specs.Lying.{Lies}
use Rattle.instances.specs.Listings.{Forgets}
use Rattle.begins.specs.Placed.{ClaimAt, Indexes}
use Rattle.instances.specs.Taking.{Takes}
use Rattle.begins.specs.Known.{Known}
use Rattle.lines.specs.Certificates.{LineAt, ClosingAt, Ruled, LinesAt, Prepares, JudgesLines}
use Rattle.instances.proofs.Lying.{lies_front, lies_back}
use Rattle.instances.proofs.Taking.{rest_at}
use Rattle.instances.proofs.Entries.{entry_same}
use Rattle.begins.proofs.Frames.{below_less, known_below}
use Rattle.comparing.proofs.Finding.{at_fault, at_good}
use Rattle.lines.proofs.Claims.{length_more}
use Rattle.lines.proofs.Placing.{fault_carried, placed_none, placed_fault}
use Rattle.comparing.specs.Found.{Found}

-- ---- all lines

never_both : {n : Reason} {line : ℕ} {pace : Pace} → ◌≡◌ {A = Ruling Pace} (refuse n) (accept line pace) → ⊥
never_both e = let z : ◌≡◌ {A = ℕ} 0 1 = cc in omega arith

pub lines_none : {book cert w after : List ℕ} {at k n : ℕ} {r : Result Acceptance Refusal} → n ≡ 0 → ClosingAt book cert at w after r → LinesAt book cert at k n w after r
unfolding flat_map checks_from
lines_none {book} {cert} {w} {after} {at} {k} {n} {r} z p = record { told = go; size = p.below.size }
  where
    go : (ars : List ℕ) (B : Book Exp) (es : List (Claim Exp)) → Known book cert w ars B es → length es ≡ k → (ls : List (Line Exp Pair)) (c : Closing Exp Pace)
        → length ls ≡ n → LinesFit ars (call_counts B) k ls → ClosingFits ars (k + n) c → Lies cert at (flat_map line_fields ls ++ closing_fields c)
        → Ruled book cert after ars B (es ++ map claim_of ls) (ruling one (first_unmet one (checks_from one B es k ls c)) c) r
    go ars B es known len [] c e fits cf lies = record {
      is = p.told ars B es known c (subst (λ j. ClosingFits ars j c) (omega arith) cf) lies;
      known = λ line pace a. subst (Known book cert after ars B) (sym (append-nil es)) (known_below (below_less (omega arith) p.below) known);
    }
    go ars B es known len (l ∷ ls) c e fits cf lies = absurd (omega arith)

module _ {book cert w v : List ℕ} {at k n : ℕ} {f : Found} (ne : n ≢ 0) (small : k + n ≤ 255) (first : LineAt book cert at k w v f) where
  pub lines_fault : {d : Fault} {r : Result Acceptance Refusal} → f ≡ Err d → paper_verdict r ≡ refuse (carried d.number line_place k d.part) → LinesAt book cert at k n w v r
  unfolding flat_map checks_from LinesFit
  lines_fault {d} {r} q e = record { told = go; size = first.size }
    where
      go : (ars : List ℕ) (B : Book Exp) (es : List (Claim Exp)) → Known book cert w ars B es → length es ≡ k → (ls : List (Line Exp Pair)) (c : Closing Exp Pace)
          → length ls ≡ n → LinesFit ars (call_counts B) k ls → ClosingFits ars (k + n) c → Lies cert at (flat_map line_fields ls ++ closing_fields c)
          → Ruled book cert v ars B (es ++ map claim_of ls) (ruling one (first_unmet one (checks_from one B es k ls c)) c) r
      go ars B es known len [] c i fits cf lies = absurd (ne (sym i))
      go ars B es known len (l ∷ ls) c i fits cf lies =
          let all = append_assoc (line_fields l) (flat_map line_fields ls) (closing_fields c) in
          let here = lies_front cert at (line_fields l) (flat_map line_fields ls ++ closing_fields c) (subst (Lies cert at) all lies) in
          let x = first.told ars B es known len (omega arith) l fits.0 fits.1 here in
          let found = at_fault x.0 q in
          record {
            is = e ∙ ap refuse (fault_carried _ (parted_line one es B l.claim l.kind) d.number d.part line_place k found)
                ∙ sym (placed_fault line_place k _ (line_checks one es B l.claim l.kind) d.number d.part c found);
            known = λ line pace a. absurd (never_both (sym e ∙ a));
          }

  pub lines_on : {x : ℕ} {after : List ℕ} {r : Result Acceptance Refusal} → f ≡ Ok x → LinesAt book cert x (k + 1) (n - 1) v after r → LinesAt book cert at k n w after r
  unfolding flat_map checks_from LinesFit
  lines_on {x} {after} {r} q rest = record { told = go; size = rest.size ∙ first.size }
    where
      go : (ars : List ℕ) (B : Book Exp) (es : List (Claim Exp)) → Known book cert w ars B es → length es ≡ k → (ls : List (Line Exp Pair)) (c : Closing Exp Pace)
          → length ls ≡ n → LinesFit ars (call_counts B) k ls → ClosingFits ars (k + n) c → Lies cert at (flat_map line_fields ls ++ closing_fields c)
          → Ruled book cert after ars B (es ++ map claim_of ls) (ruling one (first_unmet one (checks_from one B es k ls c)) c) r
      go ars B es known len [] c i fits cf lies = absurd (ne (sym i))
      go ars B es known len (l ∷ ls) c i fits cf lies =
          let all = append_assoc (line_fields l) (flat_map line_fields ls) (closing_fields c) in
          let whole = subst (Lies cert at) all lies in
          let y = first.told ars B es known len (omega arith) l fits.0 fits.1 (lies_front cert at (line_fields l) (flat_map line_fields ls ++ closing_fields c) whole) in
          let good = at_good y.0 q in
          let behind-it = subst (λ j. Lies cert j (flat_map line_fields ls ++ closing_fields c)) (sym good.1)
          (lies_back cert at (line_fields l) (flat_map line_fields ls ++ closing_fields c) whole) in
          let x = rest.told ars B (es ++ (l.claim ∷ [])) y.1 (length_more es l.claim ∙ omega arith) ls c (omega arith) fits.2
          (subst (λ j. ClosingFits ars j c) (omega arith) cf) behind-it in
          record {
            is = x.is
                ∙ ap (λ j. ruling one (first_unmet one (checks_from one B (es ++ (l.claim ∷ [])) j ls c)) c) (omega arith)
                ∙ sym (ap (λ o. ruling one o c) (placed_none line_place k _ (line_checks one es B l.claim l.kind) good.0));
            known = λ line pace a. subst (Known book cert after ars B) (append_assoc es (l.claim ∷ []) (map claim_of ls)) (x.known line pace a);
          }

-- ---- the whole

pub prepares : {book w v after : List ℕ} → Forgets EMPTY w v → Indexes book v after → Prepares book w after
prepares {book} {w} {v} {after} f i = record {
  told = λ cert b arity fits lies. record {
    arity = arity;
    few_rules = fits.count;
    few_claims = omega arith;
    rule = λ k r e. i.told b arity fits lies k r e;
    claim = λ k c e. no_claim k c e;
    bare = λ x. entry_same EMPTY v after (λ k p q. i.kept.high k (omega arith)) x ∙ f.none x;
  };
  size = i.kept.size ∙ f.kept.size;
}
  where
    no_claim : {cert ars : List ℕ} (k : ℕ) (c : Claim Exp) → ◌≡◌ {A = Option (Claim Exp)} none (some c) → ClaimAt cert ars (get_or after (LEFTS + k) 0) (get_or after (RIGHTS + k) 0) c
    no_claim k c e = let z : ◌≡◌ {A = ℕ} 0 1 = cc in absurd (omega arith)

pub judges_lines : {book cert w v after : List ℕ} {c : Read} {r : Result Acceptance Refusal} → Prepares book w v → Takes cert 8 0 c → LinesAt book cert c.at 0 c.value v after r
    → JudgesLines book cert w after r
unfolding certificate_fields judge checks
judges_lines {book} {cert} {w} {v} {after} {c} p t l = record {
  told = λ b arity fits lies K kf cl.
      let x = t.told (length K.lines) _ cl in
      l.told b.arities b.rules [] (p.told cert b arity fits lies) refl K.lines K.closing (sym x.0) kf.lines
      (subst (λ j. ClosingFits b.arities j K.closing) (omega (arith, x.0)) kf.closing) (rest_at t cl);
  size = l.size ∙ p.size;
}
