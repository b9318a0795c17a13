-- The walk over a term that lies in a file meets its nodes in preorder and ends behind it.
use Prim.Native.Nat.{ℕ, zero, suc, ◌+◌, ◌-◌}
use mathlib.Core.Path.{◌≡◌, refl, sym, ap, ◌∙◌}
use mathlib.Core.List.{List, [], ◌∷◌, ◌++◌, append_assoc, append-nil}
use native.Mathlib.Omega.{arith}
use borrow.Author.Tests.{eq-eqb, ne_eqb}
use Rattle.bits.specs.Packed.{width}
use Rattle.bits.proofs.Groups.{width_append}
use Rattle.patterns.specs.Term.{Terms, var, fun, pow, nil, cons, size, size*, nvar, nfun, npow, nodes, nodes*}
use Rattle.patterns.specs.First.{Exp, Pattern}
use Rattle.patterns.specs.Formed.{arguments, Formed, Formed*}
use Rattle.grammar.specs.Listing.{term_fields, terms_fields}
use Rattle.instances.specs.Lying.{Lies, arities, TermAt, behind}
use Rattle.instances.specs.Headers.{header_at}
use Rattle.instances.specs.Walks.{single, next_stand, ahead, ended, walk, walked}
use Rattle.instances.specs.declared.Header.{Header}
use Rattle.instances.specs.declared.Stand.{Stand}
use Rattle.instances.proofs.Lying.{lies_rest, lies_front, lies_back}
use Rattle.instances.proofs.Headers.{found_variable, found_symbol, found_power}

abbrev place : ℕ → ℕ → Stand
place at pending = record { at = at; pending = pending }

-- the walk of one node less
pub walk_step : (book s : List ℕ) (left : ℕ) (p : Stand) → ¬ (p.pending ≡ 0)
    → walk book s (suc left) p ≡ ahead (single (header_at book s p.at)) (walk book s left (next_stand p.pending (header_at book s p.at)))
unfolding walk
walk_step book s left p h = rw (ne_eqb p.pending 0 h)

-- no term is to come
pub walk_none : (book s : List ℕ) (left : ℕ) (p : Stand) → p.pending ≡ 0 → walk book s left p ≡ ended p
unfolding walk
walk_none book s zero p h = refl
walk_none book s (suc left) p h = rw (eq-eqb p.pending 0 h)

module _ (book s : List ℕ) where
  step : (left at p : ℕ) (h : Header) → header_at book s at ≡ h → walk book s (suc left) (place at (suc p)) ≡ ahead (single h) (walk book s left (next_stand (suc p) h))
  step left at p h e =
      walk_step book s left (place at (suc p)) (λ z. omega arith)
      ∙ ap (λ k. ahead (single k) (walk book s left (next_stand (suc p) k))) e

  -- the same walk, its numbers written in another way
  same_walk : {left left' at at' p p' : ℕ} → left ≡ left' → at ≡ at' → p ≡ p' → walk book s left (place at p) ≡ walk book s left' (place at' p')
  same_walk e f g = cc

  mutual
    unfolding term_fields width size nodes Formed arguments single next_stand

    walk_term : (t : Pattern) (at p k : ℕ) → Lies s at (term_fields t) → Formed (arities book) t
        → walk book s (size t + k) (place at (suc p)) ≡ ahead (nodes t) (walk book s k (place (behind at t) p))
    walk_term (var x) at p k l f =
        same_walk (omega arith) refl refl
        ∙ step k at p _ (found_variable book s at x [] l)
        ∙ ap (ahead (nvar x ∷ [])) (same_walk refl (omega arith) (omega arith))
    walk_term (fun g ts) at p k l f =
        same_walk (omega arith) refl refl
        ∙ step (size* ts + k) at p _ (found_symbol book s at g (terms_fields ts) l)
        ∙ ap (ahead (nfun g ∷ []))
        (same_walk refl refl (omega (arith, f.1))
        ∙ walk_terms ts (at + 2 + 8) p k (lies_rest s (at + 2) 8 g _ (lies_rest s at 2 1 _ l)) f.2
        ∙ ap (ahead (nodes* ts)) (same_walk refl (omega arith) refl))
    walk_term (pow g e t) at p k l f =
        same_walk (omega arith) refl refl
        ∙ step (size t + k) at p _ (found_power book s at g e.0 e.1 (term_fields t) l)
        ∙ ap (ahead (npow g e ∷ []))
        (walk_term t (at + 2 + 8 + 12 + 12) p k
        (lies_rest s (at + 2 + 8 + 12) 12 e.1 _ (lies_rest s (at + 2 + 8) 12 e.0 _ (lies_rest s (at + 2) 8 g _ (lies_rest s at 2 2 _ l)))) f.1
        ∙ ap (ahead (nodes t)) (same_walk refl (omega arith) refl))

    walk_terms : (ts : Terms Exp) (at p k : ℕ) → Lies s at (terms_fields ts) → Formed* (arities book) ts
        → walk book s (size* ts + k) (place at (arguments ts + p)) ≡ ahead (nodes* ts) (walk book s k (place (at + width (terms_fields ts)) p))
    walk_terms nil at p k l f = same_walk (omega arith) (omega arith) (omega arith)
    walk_terms (cons t ts) at p k l f =
        same_walk (omega arith) refl (omega arith)
        ∙ walk_term t at (arguments ts + p) (size* ts + k) (lies_front s at (term_fields t) (terms_fields ts) l) f.0
        ∙ ap (ahead (nodes t))
        (walk_terms ts (behind at t) p k (lies_back s at (term_fields t) (terms_fields ts) l) f.1
        ∙ ap (ahead (nodes* ts)) (same_walk refl (omega (arith, width_append (term_fields t) (terms_fields ts))) refl))
        ∙ ap (λ ns. record { met = ns; end = (walk book s k (place (at + width (term_fields t ++ terms_fields ts)) p)).end })
        (sym (append_assoc (nodes t) (nodes* ts) _))

  pub walked_term : (at : ℕ) (t : Pattern) → TermAt book s at t → walked book s at ≡ record { met = nodes t; end = behind at t }
  unfolding walked
  walked_term at t h =
      same_walk (omega (arith, h.small)) refl refl
      ∙ walk_term t at 0 (256 - size t) h.lies h.formed
      ∙ ap (ahead (nodes t)) (walk_none book s (256 - size t) (place (behind at t) 0) refl)
      ∙ ap (λ ns. record { met = ns; end = behind at t }) (append-nil (nodes t))
