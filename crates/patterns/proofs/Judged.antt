-- Theorem 5, in every edition: the judge accepts exactly the good certificates with small sides, and a refusal names the first
-- rule that is broken.
use Prim.Native.Nat.{ℕ, suc}
use mathlib.Core.Path.{◌≡◌, refl, sym, ◌∙◌, ap, subst}
use mathlib.Core.Logic.{◌↔◌, ite, if_pos, if_neg}
use mathlib.Core.List.{List, [], ◌∷◌, ◌++◌, map, append_assoc, append-nil}
use mathlib.Core.Option.{Option, none, some, some-injective, none-ne-some, some-ne-none}
use native.Mathlib.Omega.{arith}
use Rattle.patterns.specs.Every.{Every}
use Rattle.patterns.proofs.Every.{every_first, every_rest, every_append, every_weaken, every_of_map, every_map}
use Rattle.patterns.specs.Derive.{Book}
use Rattle.patterns.specs.Edition.{Edition}
use Rattle.patterns.specs.Certificate.{Claim, Line, Closing, Certificate, claim_of}
use Rattle.patterns.specs.Checks.{Lines, Good}
use Rattle.patterns.specs.Reason.{Reason, line_place, closing_place}
use Rattle.patterns.specs.Demand.{met?}
use Rattle.patterns.specs.Judge.{line_checks, closing_checks, Placed, place, checks_from, checks, first_unmet, Ruling, accept, refuse, ruling, judge, Small, FirstBroken}
use Rattle.patterns.proofs.AllMet.{Meets, FitsMet, met_fits, line_met, met_line, Closed, closing_met, met_closing}

module _ {E I R S : Type 0} (𝓔 : Edition E I R S) where
  -- ---- the first check that is not met

  abbrev Held : Placed 𝓔 → Type 0
  Held p = Meets 𝓔 p.check

  unmet_none : (ps : List (Placed 𝓔)) → Every Held ps → first_unmet 𝓔 ps ≡ none
  unfolding first_unmet Every
  unmet_none [] h = refl
  unmet_none (p ∷ ps) h = if_pos (met? 𝓔 p.check.demand) h.0 _ _ ∙ unmet_none ps h.1

  unmet_some : (before : List (Placed 𝓔)) (p : Placed 𝓔) (after : List (Placed 𝓔)) → Every Held before → ¬ (Held p)
      → first_unmet 𝓔 (before ++ (p ∷ after)) ≡ some p
  unfolding first_unmet Every
  unmet_some [] p after h n = if_neg (met? 𝓔 p.check.demand) n _ _
  unmet_some (q ∷ before) p after h n =
      if_pos (met? 𝓔 q.check.demand) h.0 _ _ ∙ unmet_some before p after h.1 n

  none_unmet : (ps : List (Placed 𝓔)) → first_unmet 𝓔 ps ≡ none → Every Held ps
  unfolding first_unmet Every
  none_unmet [] h = tt
  none_unmet (p ∷ ps) h = go (met? 𝓔 p.check.demand) (none_unmet ps) h
    where
      go : (d : Dec (Held p)) → (first_unmet 𝓔 ps ≡ none → Every Held ps) → ite d (first_unmet 𝓔 ps) (some p) ≡ none
          → Held p × Every Held ps
      go (yes m) f q = (m, f q)
      go (no n) f q = absurd (some-ne-none p q)

  -- where a list breaks first
  record Breaks (ps : List (Placed 𝓔)) (p : Placed 𝓔) : Type 0 where
    before : List (Placed 𝓔)
    after : List (Placed 𝓔)
    whole : ps ≡ before ++ (p ∷ after)
    held : Every Held before
    unmet : ¬ (Held p)

  some_unmet : (ps : List (Placed 𝓔)) (p : Placed 𝓔) → first_unmet 𝓔 ps ≡ some p → Breaks ps p
  unfolding first_unmet
  some_unmet [] p h = absurd (none-ne-some p h)
  some_unmet (q ∷ ps) p h = go (met? 𝓔 q.check.demand) (some_unmet ps p) h
    where
      go : (d : Dec (Held q)) → (first_unmet 𝓔 ps ≡ some p → Breaks ps p) → ite d (first_unmet 𝓔 ps) (some q) ≡ some p
          → Breaks (q ∷ ps) p
      go (yes m) f e =
          let b = f e in
          record {
            before = q ∷ b.before;
            after = b.after;
            whole = ap (λ l. q ∷ l) b.whole;
            held = unfold Every in (m, b.held);
            unmet = b.unmet;
          }
      go (no n) f e =
          let s = some-injective q p e in
          record {
            before = [];
            after = ps;
            whole = ap (λ (x : Placed 𝓔). x ∷ ps) s;
            held = unfold Every in tt;
            unmet = subst (λ x. ¬ (Held x)) s n;
          }

  -- ---- the whole certificate

  record GoodFrom (B : Book E) (es : List (Claim E)) (ls : List (Line E R)) (c : Closing E S) : Type 0 where
    lines : Lines 𝓔 B es ls
    closed : Closed 𝓔 (es ++ map claim_of ls) c

  checks_met : (B : Book E) (es : List (Claim E)) (a : ℕ) (ls : List (Line E R)) (c : Closing E S)
      → Every Held (checks_from 𝓔 B es a ls c) → GoodFrom B es ls c
  unfolding checks_from Lines
  checks_met B es a [] c h = record {
    lines = tt;
    closed =
        subst (λ l. Closed 𝓔 l c) (sym (append-nil es))
        (closing_met 𝓔 es c (every_of_map Held (place 𝓔 closing_place c.line) (closing_checks 𝓔 es c) h));
  }
  checks_met B es a (l ∷ ls) c h =
      let ks = line_checks 𝓔 es B l.claim l.kind in
      let here = map (place 𝓔 line_place a) ks in
      let rest = checks_from 𝓔 B (es ++ (l.claim ∷ [])) (suc a) ls c in
      let r = checks_met B (es ++ (l.claim ∷ [])) (suc a) ls c (every_rest Held here rest h) in
      record {
        lines = (
          line_met 𝓔 es B l.claim l.kind
              (every_of_map Held (place 𝓔 line_place a) ks (every_first Held here rest h)),
          r.lines,
        );
        closed = subst (λ l. Closed 𝓔 l c) (append_assoc es (l.claim ∷ []) (map claim_of ls)) r.closed;
      }

  abbrev SizedAt : Placed 𝓔 → Type 0
  SizedAt p = FitsMet 𝓔 p.check

  met_checks : (B : Book E) (es : List (Claim E)) (a : ℕ) (ls : List (Line E R)) (c : Closing E S)
      → GoodFrom B es ls c → Every SizedAt (checks_from 𝓔 B es a ls c) → Every Held (checks_from 𝓔 B es a ls c)
  unfolding checks_from Lines
  met_checks B es a [] c g f =
      let ks = closing_checks 𝓔 es c in
      every_map Held (place 𝓔 closing_place c.line) ks
      (met_closing 𝓔 es c (subst (λ l. Closed 𝓔 l c) (append-nil es) g.closed)
      (every_of_map SizedAt (place 𝓔 closing_place c.line) ks f))
  met_checks B es a (l ∷ ls) c g f =
      let ks = line_checks 𝓔 es B l.claim l.kind in
      let here = map (place 𝓔 line_place a) ks in
      let rest = checks_from 𝓔 B (es ++ (l.claim ∷ [])) (suc a) ls c in
      every_append Held here rest
      (every_map Held (place 𝓔 line_place a) ks
      (met_line 𝓔 es B l.claim l.kind g.lines.0
      (every_of_map SizedAt (place 𝓔 line_place a) ks (every_first SizedAt here rest f))))
      (met_checks B (es ++ (l.claim ∷ [])) (suc a) ls c
      (record {
        lines = g.lines.1;
        closed = subst (λ l. Closed 𝓔 l c) (sym (append_assoc es (l.claim ∷ []) (map claim_of ls))) g.closed;
      })
      (every_rest SizedAt here rest f))

  module _ (B : Book E) (K : Certificate E R S) where
    all_met : Every Held (checks 𝓔 B K) → Good 𝓔 B K × Small 𝓔 B K
    unfolding checks Small
    all_met h =
        let g = checks_met B [] 0 K.lines K.closing h in (
          record {
            lines = g.lines;
            claim = g.closed.claim;
            named = g.closed.named;
            closes = g.closed.closes;
          },
          every_weaken (λ p. met_fits 𝓔 p.check.demand) _ h,
        )

    met_all : Good 𝓔 B K → Small 𝓔 B K → Every Held (checks 𝓔 B K)
    unfolding checks Small
    met_all g f =
        met_checks B [] 0 K.lines K.closing
        (record {
          lines = g.lines;
          closed = record { claim = g.claim; named = g.named; closes = g.closes };
        }) f

    -- The judge accepts exactly when all checks hold and no compared side is over 1,024 nodes, and then with the closing's own
    -- line and pace.
    pub accepts_exactly : (l : ℕ) (s : S)
        → (judge 𝓔 B K ≡ accept l s) ↔ (Good 𝓔 B K × Small 𝓔 B K × (l ≡ K.closing.line) × (s ≡ K.closing.pace))
    unfolding judge ruling
    accepts_exactly l s = (go (first_unmet 𝓔 (checks 𝓔 B K)) refl, back)
      where
        go : (o : Option (Placed 𝓔)) → first_unmet 𝓔 (checks 𝓔 B K) ≡ o → ruling 𝓔 o K.closing ≡ accept l s
            → Good 𝓔 B K × Small 𝓔 B K × (l ≡ K.closing.line) × (s ≡ K.closing.pace)
        go none e h = let g = all_met (none_unmet (checks 𝓔 B K) e) in (g.0, g.1, cc, cc)
        go (some p) e h = let z : ◌≡◌ {A = ℕ} 0 1 = cc in absurd (omega arith)

        back : Good 𝓔 B K × Small 𝓔 B K × (l ≡ K.closing.line) × (s ≡ K.closing.pace) → judge 𝓔 B K ≡ accept l s
        back g =
            ap (λ o. ruling 𝓔 o K.closing) (unmet_none (checks 𝓔 B K) (met_all g.0 g.1)) ∙ cc (g.2, g.3)

    -- It refuses exactly with the first rule that is broken: every rule before it holds.
    pub refuses_exactly : (r : Reason) → (judge 𝓔 B K ≡ refuse r) ↔ FirstBroken 𝓔 B K r
    unfolding judge ruling
    refuses_exactly r = (go (first_unmet 𝓔 (checks 𝓔 B K)) refl, back)
      where
        go : (o : Option (Placed 𝓔)) → first_unmet 𝓔 (checks 𝓔 B K) ≡ o → ruling 𝓔 o K.closing ≡ refuse r
            → FirstBroken 𝓔 B K r
        go none e h = let z : ◌≡◌ {A = ℕ} 0 1 = cc in absurd (omega arith)
        go (some p) e h =
            let b = some_unmet (checks 𝓔 B K) p e in
            record {
              before = b.before;
              broken = p;
              after = b.after;
              whole = b.whole;
              held = b.held;
              unmet = b.unmet;
              told = cc;
            }

        back : FirstBroken 𝓔 B K r → judge 𝓔 B K ≡ refuse r
        back b =
            ap (λ o. ruling 𝓔 o K.closing)
            (ap (first_unmet 𝓔) b.whole ∙ unmet_some b.before b.broken b.after b.held b.unmet)
            ∙ ap {B = Ruling S} refuse (sym b.told)
