-- Laws of instances of terms: reindexed by (1, 0) a term is itself, and an instance keeps to the arities of the book.
use Prim.Native.Nat.{ℕ}
use mathlib.Core.Path.{◌≡◌, refl, ap, ap₂}
use mathlib.Core.List.{List}
use native.Mathlib.Omega.{arith}
use Rattle.patterns.specs.Term.{Terms, var, fun, pow, nil, cons, Filling, fill, exps, exps*}
use Rattle.patterns.specs.Counters.{pair_path}
use Rattle.patterns.specs.Edition.{reindex}
use Rattle.patterns.specs.First.{Exp, Pattern, Pair, shift, one}
use Rattle.patterns.specs.Formed.{Formed}
use Rattle.patterns.proofs.Formed.{formed_fill, formed_exps}
use Rattle.instances.specs.Lying.{TermAt, arities}
use Rattle.instances.specs.Fillings.{Entry, unlisted, listed, FillsTold}

same_exponent : (e : Exp) → shift (1, 0) e ≡ e
unfolding shift
same_exponent e = pair_path (omega arith) (omega arith)

mutual
  unfolding exps

  same_term : (t : Pattern) → exps (shift (1, 0)) t ≡ t
  same_term (var x) = refl
  same_term (fun f ts) = ap (fun f) (same_terms ts)
  same_term (pow s e t) = ap₂ (pow s) (same_exponent e) (same_term t)

  same_terms : (ts : Terms Exp) → exps* (shift (1, 0)) ts ≡ ts
  same_terms nil = refl
  same_terms (cons t ts) = ap₂ cons (same_term t) (same_terms ts)

pub as_it_is : (t : Pattern) → reindex one (1, 0) t ≡ t
unfolding reindex
as_it_is t = same_term t

-- a variable's term keeps to the arities
formed_entry : {book cert : List ℕ} {x word : ℕ} {t : Pattern} → Entry book cert x word t → Formed (arities book) t
unfolding Formed
formed_entry (unlisted e) = tt
formed_entry (listed at e h) = h.formed

pub formed_instance : (book s cert w : List ℕ) (at fills : ℕ) (r : Pair) (t : Pattern) (θ : Filling Exp) → TermAt book s at t
    → FillsTold book cert w fills θ → Formed (arities book) (fill θ (reindex one r t))
unfolding reindex
formed_instance book s cert w at fills r t θ h F =
    formed_fill (arities book) θ (λ x. formed_entry (F.each x)) (reindex one r t) (formed_exps (arities book) (shift r) t h.formed)
