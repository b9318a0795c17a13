-- What spells one grammar after the other, a field, and a tree that is made from another.
use Prim.Native.Nat.{ℕ, ◌<◌, ◌^◌}
use mathlib.Core.Path.{◌≡◌, refl, sym, ◌∙◌, ap, subst, subst₂}
use mathlib.Core.List.{[], ◌∷◌, ◌++◌}
use mathlib.Core.Option.{none}
use Rattle.fields.specs.Kinds.{FieldKind, bits, Range, test}
use Rattle.fields.specs.Grammar.{Grammar, done, ask, bind}
use Rattle.fields.specs.Spells.{Spells}
use Rattle.grammar.specs.Listing.{Fields}

-- ---- one grammar after the other

-- how fields fall to two grammars, the second chosen by the first one's tree
pub record Split {A B : Type 0} (p : Grammar A) (f : A → Grammar B) (b : B) (fs : Fields) : Type 0 where
  pub tree : A
  pub first : Fields
  pub rest : Fields
  pub whole : fs ≡ first ++ rest
  pub before : Spells p tree first
  pub behind : Spells (f tree) b rest

pub spells_bind : {A B : Type 0} (p : Grammar A) (f : A → Grammar B) (a : A) (b : B) (fs gs : Fields) → Spells p a fs
    → Spells (f a) b gs → Spells (bind p f) b (fs ++ gs)
unfolding Spells bind
spells_bind (done c) f a b fs gs h k = subst₂ (λ d l. Spells (f d) b (l ++ gs)) h.0 (sym h.1) k
spells_bind (ask k r next) f a b [] gs h i = absurd h
spells_bind (ask k r next) f a b (v ∷ fs) gs h i =
    (h.0, h.1, h.2, spells_bind (next v.1) f a b fs gs h.3 i)

pub spells_split : {A B : Type 0} (p : Grammar A) (f : A → Grammar B) (b : B) (fs : Fields) → Spells (bind p f) b fs
    → Split p f b fs
unfolding Spells bind
spells_split (done c) f b fs h = record { tree = c; first = []; rest = fs; whole = refl; before = (refl, refl); behind = h }
spells_split (ask k r next) f b [] h = absurd h
spells_split (ask k r next) f b (v ∷ fs) h =
    let r = spells_split (next v.1) f b fs h.3 in
    record {
      tree = r.tree;
      first = v ∷ r.first;
      rest = r.rest;
      whole = ap (λ l. v ∷ l) r.whole;
      before = (h.0, h.1, h.2, r.before);
      behind = r.behind;
    }

-- ---- a field

pub ask_forth : (k : FieldKind) (r : Range) (v : ℕ) (fs : Fields) → Spells (ask k r done) v fs
    → (fs ≡ (bits k, v) ∷ []) × (v < 2 ^ bits k) × (test r v ≡ none)
unfolding Spells
ask_forth k r v [] h = absurd h
ask_forth k r v (f ∷ fs) h =
    let e : f ≡ (bits k, v) = λ i. (h.0 i, sym h.3.0 i) in (
      cc,
      subst (λ u. u < 2 ^ bits k) (sym h.3.0) h.1,
      subst (λ u. test r u ≡ none) (sym h.3.0) h.2,
    )

pub ask_back : (k : FieldKind) (r : Range) (v : ℕ) → v < 2 ^ bits k → test r v ≡ none → Spells (ask k r done) v ((bits k, v) ∷ [])
unfolding Spells
ask_back k r v h t = (refl, h, t, (refl, refl))

-- ---- a tree that is made from another

pub spells_make : {A C : Type 0} (p : Grammar A) (mk : A → C) (a : A) (fs : Fields) → Spells p a fs
    → Spells (bind p λ b. done (mk b)) (mk a) fs
unfolding Spells bind
spells_make (done b) mk a fs h = (ap mk h.0, h.1)
spells_make (ask k r next) mk a [] h = absurd h
spells_make (ask k r next) mk a (v ∷ fs) h = (h.0, h.1, h.2, spells_make (next v.1) mk a fs h.3)

pub spells_made : {A C : Type 0} (p : Grammar A) (mk : A → C) (c : C) (fs : Fields) → Spells (bind p λ b. done (mk b)) c fs
    → (a : A) × Spells p a fs × (c ≡ mk a)
unfolding Spells bind
spells_made (done b) mk c fs h = (b, (refl, h.1), h.0)
spells_made (ask k r next) mk c [] h = absurd h
spells_made (ask k r next) mk c (v ∷ fs) h =
    let r = spells_made (next v.1) mk c fs h.3 in
    (r.0, (h.0, h.1, h.2, r.1), r.2)

-- a grammar goes on from a tree or from what is made from it
pub bind_made : {A B C : Type 0} (p : Grammar A) (mk : A → B) (next : B → Grammar C)
    → bind (bind p λ a. done (mk a)) next ≡ bind p λ a. next (mk a)
unfolding bind
bind_made (done a) mk next = refl
bind_made (ask k r go) mk next = λ i. ask k r (λ v. bind_made (go v) mk next i)

-- ---- fields tell their tree

pub spells_one : {A : Type 0} (p : Grammar A) (a b : A) (fs : Fields) → Spells p a fs → Spells p b fs → a ≡ b
unfolding Spells
spells_one (done c) a b fs h k = h.0 ∙ sym k.0
spells_one (ask k r next) a b [] h i = absurd h
spells_one (ask k r next) a b (v ∷ fs) h i = spells_one (next v.1) a b fs h.3 i.3
