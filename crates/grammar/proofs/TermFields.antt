-- The grammar of terms spells just the terms within the limits, each by its own fields.
use Prim.Native.Nat.{ℕ, zero, suc, ◌+◌, ◌-◌, ◌≤◌, ◌<◌}
use mathlib.Core.Path.{◌≡◌, refl, ap}
use mathlib.Core.Logic.{◌≢◌}
use mathlib.Core.List.{List, [], ◌∷◌}
use native.Mathlib.Omega.{arith}
use lib.ListN.{length}
use Rattle.patterns.specs.Term.{Terms, var, fun, pow, nil, cons, size, size*}
use Rattle.patterns.specs.Counters.{more, alone}
use Rattle.patterns.specs.Normal.{Over, Normal}
use Rattle.patterns.specs.Formed.{arguments, Formed}
use Rattle.patterns.specs.First.{Exp, Pattern, exponents}
use Rattle.fields.specs.Kinds.{node, InRange, Unnormal, Spent}
use Rattle.fields.specs.Kinds.{FieldKind as kind}
use Rattle.fields.proofs.Ranges.{passes_exactly}
use Rattle.fields.specs.Grammar.{Grammar, bind, field}
use Rattle.fields.specs.Spells.{Spells}
use Rattle.grammar.specs.Terms.{Grown, GrownAll, args_of, a_variable, an_applied, a_raised, a_node, a_term, any_term, root_term, call_term}
use Rattle.grammar.specs.Calls.{a_call}
use Rattle.grammar.specs.Books.{arity_in}
use Rattle.grammar.specs.Limits.{Ranged, TermFits, RootFits}
use Rattle.grammar.specs.Listing.{Fields, term_fields, terms_fields}
use Rattle.grammar.proofs.Exactness.{Exactly, refit, field_exactly, any_exactly as bits-exactly, done_exactly, made, after, both}
use Rattle.grammar.proofs.SymbolFields.{Signature, Raises, symbol_exactly, raise_exactly}
use Rattle.grammar.proofs.Growing.{size_positive, tag, behind_tag, tag_before, tag_below, Grows, GrowsAll, GrownNode, grown, grown_all, grown_fields, all_fields, below_tag, free_of_256, pattern_of, rooted_forth, rooted_back, grown_fits, fits_grown}

module _ (arities : List ℕ) (sig : Signature arities) (end : ℕ) (low : end ≤ 4096) where
  pub variable_exactly : (above left : ℕ) → Exactly (a_variable left) (GrownNode arities end 0 above left) below_tag
  unfolding a_variable GrownNode below_tag behind_tag tag size Normal Over Formed Ranged
  variable_exactly above left =
      made
      (bits-exactly kind.variable)
      (λ x. grown (var x) left)
      (λ x h. ((refl, record { room = omega arith; normal = tt; free = λ z. z; formed = tt; ranged = h }), refl))
      (λ g h. onto g.term g.left h.0 h.1)
    where
      onto : (t : Pattern) (k : ℕ) → tag t ≡ 0 → Grows arities end above (suc left) (grown t k)
          → (x : ℕ) × (x < 64) × (grown (var x) left ≡ grown t k)
      onto (var x) k e h =
          let r = h.room in
          let p : left ≡ k = omega arith in
          (x, h.ranged, ap (grown (var x)) p)
      onto (fun f ts) k e h = absurd (omega arith)
      onto (pow s d t) k e h = absurd (omega arith)

  -- arguments, by a grammar of terms that is good up to `deep` nodes
  module _ (term : ℕ → ℕ → Grammar Grown) (deep : ℕ) (good : (above left : ℕ) → left ≤ deep → Exactly (term above left) (Grows arities end above left) grown_fields) where
    pub args_exactly : (n left : ℕ) → left ≤ deep → Exactly (args_of (term 256) n left) (GrowsAll arities end n left) all_fields
    unfolding args_of terms_fields arguments size Normal Formed Ranged
    args_exactly zero left h =
        done_exactly
        (record { room = omega arith; normal = tt; formed = tt; ranged = tt; count = refl })
        refl
        (λ g k. only g.terms g.left k)
      where
        only : (ts : Terms Exp) (k : ℕ) → GrowsAll arities end zero left (grown_all ts k) → grown_all ts k ≡ grown_all nil left
        only nil k g = let r = g.room in let p : k ≡ left = omega arith in ap (grown_all nil) p
        only (cons t ts) k g = let c = g.count in absurd (omega arith)
    args_exactly (suc n) left h =
        both
        (good 256 left h)
        (λ g k. let r = k.room in args_exactly n g.left (omega arith))
        (λ g l. grown_all (cons g.term l.terms) l.left)
        (λ g l k m. (
          record {
            room = (let a = k.room in let b = m.room in omega arith);
            normal = (k.normal, m.normal);
            formed = (k.formed, m.formed);
            ranged = (k.ranged, m.ranged);
            count = ap suc m.count;
          },
          refl,
        ))
        (λ g k. onto g.terms g.left k)
      where
        onto : (ts : Terms Exp) (k : ℕ) → GrowsAll arities end (suc n) left (grown_all ts k)
            → (g : Grown) × (l : GrownAll) × Grows arities end 256 left g × GrowsAll arities end n g.left l
            × (grown_all (cons g.term l.terms) l.left ≡ grown_all ts k)
        onto nil k g = let c = g.count in absurd (omega arith)
        onto (cons t ts) k g =
            let r = g.room in
            let c = g.count in (
              grown t (k + size* ts),
              grown_all ts k,
              record {
                room = omega arith;
                normal = g.normal.0;
                free = free_of_256 (length arities) end sig.count t g.ranged.0;
                formed = g.formed.0;
                ranged = g.ranged.0;
              },
              record { room = refl; normal = g.normal.1; formed = g.formed.1; ranged = g.ranged.1; count = omega arith },
              refl,
            )

    pub applied_exactly : (above left : ℕ) → left ≤ deep
        → Exactly (an_applied term (arity_in arities) left) (GrownNode arities end 1 above left) below_tag
    unfolding an_applied GrownNode below_tag behind_tag tag size Normal Over Formed Ranged
    applied_exactly above left h =
        both
        (symbol_exactly arities sig)
        (λ f k. args_exactly (arity_in arities f) left h)
        (λ f g. grown (fun f g.terms) g.left)
        (λ f g k m. (
          (
            refl,
            record {
              room = (let r = m.room in omega arith);
              normal = m.normal;
              free = λ z. z;
              formed = (k.0, m.count, m.formed);
              ranged = (k.1, m.ranged);
            },
          ),
          refl,
        ))
        (λ g k. onto g.term g.left k.0 k.1)
      where
        onto : (t : Pattern) (k : ℕ) → tag t ≡ 1 → Grows arities end above (suc left) (grown t k)
            → (f : ℕ) × (g : GrownAll) × ((arity_in arities f ≢ 1) × (f < length arities))
            × GrowsAll arities end (arity_in arities f) left g × (grown (fun f g.terms) g.left ≡ grown t k)
        onto (var x) k e g = absurd (omega arith)
        onto (fun f ts) k e g =
            let r = g.room in (
              f,
              grown_all ts k,
              (g.formed.0, g.ranged.0),
              record { room = omega arith; normal = g.normal; formed = g.formed.2; ranged = g.ranged.1; count = g.formed.1 },
              refl,
            )
        onto (pow s d t) k e g = absurd (omega arith)

    pub raised_exactly : (above left : ℕ) → left ≤ deep
        → Exactly (a_raised term (arity_in arities) end above left) (GrownNode arities end 2 above left) below_tag
    unfolding a_raised GrownNode Raises below_tag behind_tag tag size Normal Over Formed Ranged exponents more alone
    raised_exactly above left h =
        both
        (raise_exactly arities sig end above low)
        (λ p k. good p.0 left h)
        (λ p g. grown (pow p.0 p.1 g.term) g.left)
        (λ p g k m. (
          (
            refl,
            record {
              room = (let r = m.room in omega arith);
              normal = (k.5, m.free, m.normal);
              free = k.2;
              formed = (k.0, m.formed);
              ranged = (k.1, k.3, k.4, m.ranged);
            },
          ),
          refl,
        ))
        (λ g k. onto g.term g.left k.0 k.1)
      where
        onto : (t : Pattern) (k : ℕ) → tag t ≡ 2 → Grows arities end above (suc left) (grown t k)
            → (p : ℕ × Exp) × (g : Grown) × Raises arities end above p × Grows arities end p.0 left g
            × (grown (pow p.0 p.1 g.term) g.left ≡ grown t k)
        onto (var x) k e g = absurd (omega arith)
        onto (fun f ts) k e g = absurd (omega arith)
        onto (pow s d t) k e g =
            let r = g.room in (
              (s, d),
              grown t k,
              (g.formed.0, g.ranged.0, g.free, g.ranged.1, g.ranged.2, g.normal.0),
              record {
                room = omega arith;
                normal = g.normal.2;
                free = g.normal.1;
                formed = g.formed.1;
                ranged = g.ranged.3;
              },
              refl,
            )

    pub node_exactly : (above left : ℕ) → left ≤ deep → (n : ℕ) → n < 3
        → Exactly (a_node term (arity_in arities) end above left n) (GrownNode arities end n above left) below_tag
    unfolding a_node
    node_exactly above left h zero k = variable_exactly above left
    node_exactly above left h (suc zero) k = applied_exactly above left h
    node_exactly above left h (suc (suc zero)) k = raised_exactly above left h
    node_exactly above left h (suc (suc (suc n))) k = absurd (omega arith)

    -- a node, its tag from `least` on, with nodes left
    pub tagged_exactly : (least above left : ℕ) → left ≤ deep
        → Exactly (bind (field kind.tag (node least (suc left))) (a_node term (arity_in arities) end above left)) (λ g. Grows arities end above (suc left) g × (least ≤ tag g.term)) grown_fields
    unfolding GrownNode below_tag InRange Unnormal Spent
    tagged_exactly least above left h =
        after
        (refit
        (field_exactly kind.tag (node least (suc left)))
        (λ n k. ((passes_exactly (node least (suc left)) n).0 k.1).1)
        (λ n k. let l = k.1 in (omega arith, (passes_exactly (node least (suc left)) n).1 ((λ z. omega arith), k, (λ z. z)))))
        (λ n k. node_exactly above left h n k.1)
        (λ n g k m. let l = k.0 in let e = m.0 in ((m.1, omega arith), (cc (e, tag_before g.term))))
        (λ g t. (tag g.term, (t.1, tag_below g.term), (refl, t.0)))

  -- no node is left
  none_left : (next : ℕ → Grammar Grown) (least above left : ℕ) → left ≡ 0
      → Exactly (bind (field kind.tag (node least left)) next) (λ g. Grows arities end above left g × (least ≤ tag g.term)) grown_fields
  unfolding Spells bind field Spent
  none_left next least above left h = record {
    forth = λ g fs s. absurd (never g fs s);
    back = λ g t. let r = t.0.room in absurd (omega (arith, size_positive g.term));
  }
    where
      never : (g : Grown) (fs : Fields) → Spells (bind (field kind.tag (node least left)) next) g fs → ⊥
      never g [] s = s
      never g (f ∷ fs) s = ((passes_exactly (node least left) f.1).0 s.2).0 h

  -- a term in which `left` nodes are allowed, its tag from `least` on
  pub term_exactly : (deep least above left : ℕ) → left ≤ deep
      → Exactly (a_term deep (arity_in arities) end least above left) (λ g. Grows arities end above left g × (least ≤ tag g.term)) grown_fields
  unfolding a_term
  term_exactly zero least above zero h = none_left _ least above zero refl
  term_exactly zero least above (suc left) h = absurd (omega arith)
  term_exactly (suc deep) least above zero h = none_left _ least above zero refl
  term_exactly (suc deep) least above (suc left) h =
      let e : suc left - 1 ≡ left = omega arith in
      rw e
      (tagged_exactly
      (λ s k. a_term deep (arity_in arities) end 0 s k)
      deep
      (λ s k l. refit (term_exactly deep 0 s k l) (λ g t. t.0) (λ g t. (t, omega arith)))
      least
      above
      left
      (omega arith))

module _ (arities : List ℕ) (sig : Signature arities) where
  -- a term of at most 256 nodes, its root of any kind
  free_exactly : (end : ℕ) → end ≤ 4096
      → Exactly (pattern_of (a_term 256 (arity_in arities) end 0 256 256)) (TermFits arities end) term_fields
  free_exactly end low =
      made
      (term_exactly arities sig end low 256 0 256 256 (omega arith))
      (λ g. g.term)
      (λ g h. (grown_fits arities end g h.0, refl))
      (λ t h. (grown t (256 - size t), (fits_grown arities end t sig.count h, omega arith), refl))

  pub any_exactly : Exactly (pattern_of (any_term (arity_in arities))) (TermFits arities 4096) term_fields
  unfolding any_term
  any_exactly = free_exactly 4096 (omega arith)

  pub a_call_exactly : Exactly (a_call (arity_in arities)) (TermFits arities 1) term_fields
  unfolding a_call call_term
  a_call_exactly = free_exactly 1 (omega arith)

  pub root_exactly : Exactly (pattern_of (root_term (arity_in arities))) (RootFits arities) term_fields
  unfolding root_term
  root_exactly =
      made
      (term_exactly arities sig 1 (omega arith) 256 1 256 256 (omega arith))
      (λ g. g.term)
      (λ g h. (record { fits = grown_fits arities 1 g h.0; rooted = rooted_forth g.term h.1 }, refl))
      (λ t h. (grown t (256 - size t), (fits_grown arities 1 t sig.count h.fits, rooted_back t h.rooted), refl))
