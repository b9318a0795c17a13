-- What the grammar of a term gives: a term within the limits, and the nodes still allowed behind it.
use Prim.Native.Nat.{ℕ, suc, ◌+◌, ◌-◌, ◌≤◌, ◌<◌}
use mathlib.Core.Path.{◌≡◌, refl}
use mathlib.Core.List.{List, [], ◌∷◌}
use native.Mathlib.Omega.{arith}
use lib.ListN.{length}
use Rattle.patterns.specs.Term.{Terms, var, fun, pow, size, size*}
use Rattle.patterns.specs.Normal.{Over, Normal, Normal*}
use Rattle.patterns.specs.Formed.{arguments, Formed, Formed*}
use Rattle.patterns.specs.First.{Exp, Pattern, exponents}
use Rattle.fields.specs.Grammar.{Grammar, done, bind}
use Rattle.grammar.specs.Terms.{Grown, GrownAll}
use Rattle.grammar.specs.Books.{arity_in}
use Rattle.grammar.specs.Limits.{Ranged, Ranged*, TermFits, Rooted}
use Rattle.grammar.specs.Listing.{Fields, term_fields, terms_fields}

pub size_positive : (t : Pattern) → 1 ≤ size t
unfolding size
size_positive (var x) = omega arith
size_positive (fun f ts) = omega arith
size_positive (pow s e t) = omega arith

-- the root's tag, and the fields behind it
unfoldable pub tag : Pattern → ℕ
tag (var x) = 0
tag (fun f ts) = 1
tag (pow s e t) = 2

unfoldable pub behind_tag : Pattern → Fields
behind_tag (var x) = (6, x) ∷ []
behind_tag (fun f ts) = (8, f) ∷ terms_fields ts
behind_tag (pow s e t) = (8, s) ∷ (12, e.0) ∷ (12, e.1) ∷ term_fields t

pub tag_before : (t : Pattern) → (2, tag t) ∷ behind_tag t ≡ term_fields t
unfolding tag behind_tag term_fields
tag_before (var x) = refl
tag_before (fun f ts) = refl
tag_before (pow s e t) = refl

pub tag_below : (t : Pattern) → tag t < 3
unfolding tag
tag_below (var x) = omega arith
tag_below (fun f ts) = omega arith
tag_below (pow s e t) = omega arith

module _ (arities : List ℕ) (end : ℕ) where
  -- what the grammar of a term gives: a term within the limits that takes all but `g.left` of the nodes allowed
  pub record Grows (above left : ℕ) (g : Grown) : Type 0 where
    pub room : g.left + size g.term ≡ left
    pub normal : Normal exponents g.term
    pub free : ¬ (Over above g.term)
    pub formed : Formed (arity_in arities) g.term
    pub ranged : Ranged (length arities) end g.term

  pub record GrowsAll (n left : ℕ) (g : GrownAll) : Type 0 where
    pub room : g.left + size* g.terms ≡ left
    pub normal : Normal* exponents g.terms
    pub formed : Formed* (arity_in arities) g.terms
    pub ranged : Ranged* (length arities) end g.terms
    pub count : arguments g.terms ≡ n

  -- a node of the tag n, and what stands below it
  unfoldable pub GrownNode : ℕ → ℕ → ℕ → Grown → Type 0
  GrownNode n above left g = (tag g.term ≡ n) × Grows above (suc left) g

abbrev pub grown : Pattern → ℕ → Grown
grown t left = record { term = t; left = left }

abbrev pub grown_all : Terms Exp → ℕ → GrownAll
grown_all ts left = record { terms = ts; left = left }

abbrev pub grown_fields : Grown → Fields
grown_fields g = term_fields g.term

abbrev pub all_fields : GrownAll → Fields
all_fields g = terms_fields g.terms

unfoldable pub below_tag : Grown → Fields
below_tag g = behind_tag g.term

-- a symbol of the table is none of the power above, if that is 256
pub free_of_256 : (count end : ℕ) → count < 256 → (t : Pattern) → Ranged count end t → ¬ (Over 256 t)
unfolding Ranged Over
free_of_256 count end h (var x) r o = o
free_of_256 count end h (fun f ts) r o = o
free_of_256 count end h (pow s e t) r o = let l = r.0 in omega arith

abbrev pub pattern_of : Grammar Grown → Grammar Pattern
pattern_of p = bind p λ g. done g.term

pub rooted_forth : (t : Pattern) → 1 ≤ tag t → Rooted t
unfolding tag Rooted
rooted_forth (var x) h = omega arith
rooted_forth (fun f ts) h = tt
rooted_forth (pow s e t) h = tt

pub rooted_back : (t : Pattern) → Rooted t → 1 ≤ tag t
unfolding tag Rooted
rooted_back (var x) h = absurd h
rooted_back (fun f ts) h = omega arith
rooted_back (pow s e t) h = omega arith

module _ (arities : List ℕ) (end : ℕ) where
  pub grown_fits : (g : Grown) → Grows arities end 256 256 g → TermFits arities end g.term
  grown_fits g h = record {
    normal = h.normal;
    small = (let r = h.room in omega arith);
    formed = h.formed;
    ranged = h.ranged;
  }

  pub fits_grown : (t : Pattern) → length arities < 256 → TermFits arities end t
      → Grows arities end 256 256 (record { term = t; left = 256 - size t })
  fits_grown t c h = record {
    room = (let s = h.small in omega arith);
    normal = h.normal;
    free = free_of_256 (length arities) end c t h.ranged;
    formed = h.formed;
    ranged = h.ranged;
  }
