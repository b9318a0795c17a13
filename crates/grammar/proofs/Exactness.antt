-- Grammars that spell just the trees within some limits, each by its own fields, and how such grammars are put together.
use Prim.Native.Nat.{ℕ, zero, suc, ◌≤◌, ◌<◌, ◌^◌}
use mathlib.Core.Logic.{◌↔◌}
use mathlib.Core.Path.{◌≡◌, refl, sym, ◌∙◌, ap, ap₂, subst}
use mathlib.Core.List.{List, [], ◌∷◌, ◌++◌, flat_map}
use mathlib.Core.Option.{Option, none, some}
use Rattle.fields.specs.Kinds.{FieldKind, bits, Range, any, from_to, InRange, test}
use Rattle.fields.proofs.Ranges.{passes_exactly, between_ok}
use mathlib.Core.Bool.{cond}
use native.Mathlib.Omega.{arith}
use lib.ListN.{length}
use lib.Dec.{eqb}
use Rattle.fields.specs.Grammar.{Grammar, done, bind, field}
use Rattle.fields.specs.Spells.{Spells}
use Rattle.grammar.specs.Listing.{Fields, if_any}
use Rattle.grammar.proofs.Spelling.{spells_bind, spells_split, spells_make, spells_made, spells_one, ask_forth, ask_back}

pub record Exactly {A : Type 0} (p : Grammar A) (Fits : A → Type 0) (fields : A → Fields) : Type 0 where
  pub forth : (a : A) (fs : Fields) → Spells p a fs → Fits a × (fs ≡ fields a)
  pub back : (a : A) → Fits a → Spells p a (fields a)

-- the fields that spell a tree are its own, if it is within the limits, and there are none if it is not
pub exact : {A : Type 0} {p : Grammar A} {P : A → Type 0} {f : A → Fields} → Exactly p P f → (a : A) (fs : Fields)
    → Spells p a fs ↔ (P a × (fs ≡ f a))
exact {p} e a fs = (e.forth a fs, λ h. subst (Spells p a) (sym h.1) (e.back a h.0))

-- no two lists of fields spell one tree
pub only_fields : {A : Type 0} {p : Grammar A} {P : A → Type 0} {f : A → Fields} → Exactly p P f → (a : A) (fs gs : Fields)
    → Spells p a fs → Spells p a gs → fs ≡ gs
only_fields e a fs gs s t = (e.forth a fs s).1 ∙ sym (e.forth a gs t).1

-- no two trees within the limits have the same fields
pub only_tree : {A : Type 0} {p : Grammar A} {P : A → Type 0} {f : A → Fields} → Exactly p P f → (a b : A) → P a → P b
    → f a ≡ f b
    → a ≡ b
only_tree {p} {f} e a b h k q = spells_one p a b (f b) (subst (Spells p a) q (e.back a h)) (e.back b k)

-- the same limits in other words
pub refit : {A : Type 0} {p : Grammar A} {P Q : A → Type 0} {f : A → Fields} → Exactly p P f → ((a : A) → P a → Q a)
    → ((a : A) → Q a → P a) → Exactly p Q f
refit e to from = record {
  forth = λ a fs s. let r = e.forth a fs s in (to a r.0, r.1);
  back = λ a h. e.back a (from a h);
}

-- an equal grammar
pub same : {A : Type 0} {p q : Grammar A} {P : A → Type 0} {f : A → Fields} → p ≡ q → Exactly p P f → Exactly q P f
same {P} {f} e = subst (λ r. Exactly r P f) e

-- one tree, that no field is asked for
pub done_exactly : {A : Type 0} {c : A} {R : A → Type 0} {h : A → Fields} → R c → h c ≡ [] → ((a : A) → R a → a ≡ c)
    → Exactly (done c) R h
unfolding Spells
done_exactly {R} {h} r e only = record {
  forth = λ a fs s. subst (λ b. R b × (fs ≡ h b)) (sym s.0) (r, s.1 ∙ sym e);
  back = λ a k. (only a k, ap h (only a k) ∙ e);
}

-- ---- fields

pub field_exactly : (k : FieldKind) (r : Range) → Exactly (field k r) (λ v. (v < 2 ^ bits k) × (test r v ≡ none)) (λ v. (bits k, v) ∷ [])
unfolding field
field_exactly k r = record {
  forth = λ v fs s. let x = ask_forth k r v fs s in ((x.1, x.2), x.0);
  back = λ v h. ask_back k r v h.0 h.1;
}

pub any_exactly : (k : FieldKind) → Exactly (field k any) (λ v. v < 2 ^ bits k) (λ v. (bits k, v) ∷ [])
any_exactly k = refit (field_exactly k any) (λ v h. h.0) (λ v h. (h, refl))

pub from_to_exactly : (k : FieldKind) (least end : ℕ) → end ≤ 2 ^ bits k
    → Exactly (field k (from_to least end)) (λ v. (least ≤ v) × (v < end)) (λ v. (bits k, v) ∷ [])
unfolding InRange
from_to_exactly k least end h =
    refit (field_exactly k (from_to least end)) (λ v x. ((passes_exactly (from_to least end) v).0 x.1).1)
    (λ v x. let l = x.1 in (omega arith, between_ok least end 4 v x.0 l))

-- ---- one after the other

module _ {A B : Type 0} {p : Grammar A} {P : A → Type 0} {f : A → Fields} where
  -- a tree that is made from one tree
  pub made : {R : B → Type 0} {h : B → Fields} → Exactly p P f → (mk : A → B)
      → ((a : A) → P a → R (mk a) × (f a ≡ h (mk a)))
      → ((b : B) → R b → (a : A) × P a × (mk a ≡ b))
      → Exactly (bind p λ a. done (mk a)) R h
  made {R} {h} e mk to from = record {
    forth = λ b fs s.
        let r = spells_made p mk b fs s in
        let u = e.forth r.0 fs r.1 in
        let v = to r.0 u.0 in
        subst (λ c. R c × (fs ≡ h c)) (sym r.2) (v.0, u.1 ∙ v.1);
    back = λ b l.
        let r = from b l in
        let k = spells_make p mk r.0 (f r.0) (e.back r.0 r.1) in
        subst (λ c. Spells (bind p λ a. done (mk a)) c (h c)) r.2
        (subst (λ fs. Spells (bind p λ a. done (mk a)) (mk r.0) fs) (to r.0 r.1).1 k);
  }

  -- a grammar that the tree before it chooses
  pub after : {q : A → Grammar B} {Q : A → B → Type 0} {g : B → Fields} {R : B → Type 0} {h : B → Fields} → Exactly p P f
      → ((a : A) → P a → Exactly (q a) (Q a) g)
      → ((a : A) (b : B) → P a → Q a b → R b × (f a ++ g b ≡ h b))
      → ((b : B) → R b → (a : A) × P a × Q a b)
      → Exactly (bind p q) R h
  after {q} {Q} {g} e d to from = record {
    forth = λ b fs s.
        let r = spells_split p q b fs s in
        let u = e.forth r.tree r.first r.before in
        let v = (d r.tree u.0).forth b r.rest r.behind in
        let w = to r.tree b u.0 v.0 in
        (w.0, r.whole ∙ ap₂ ◌++◌ u.1 v.1 ∙ w.1);
    back = λ b l.
        let r = from b l in
        subst (Spells (bind p q) b) (to r.0 b r.1 r.2).1
        (spells_bind p q r.0 b (f r.0) (g b) (e.back r.0 r.1) ((d r.0 r.1).back b r.2));
  }

-- a tree that is made from two
pub both : {A B C : Type 0} {p : Grammar A} {P : A → Type 0} {f : A → Fields} {q : A → Grammar B} {Q : A → B → Type 0} {g : B → Fields} {R : C → Type 0} {h : C → Fields}
    → Exactly p P f
    → ((a : A) → P a → Exactly (q a) (Q a) g)
    → (mk : A → B → C)
    → ((a : A) (b : B) → P a → Q a b → R (mk a b) × (f a ++ g b ≡ h (mk a b)))
    → ((c : C) → R c → (a : A) × (b : B) × P a × Q a b × (mk a b ≡ c))
    → Exactly (bind p λ a. bind (q a) λ b. done (mk a b)) R h
both {A} {B} {C} {p} {P} {f} {q} {Q} {g} {R} {h} e d mk to from = record {
  forth = λ c fs s.
      let r = spells_split p (λ a. bind (q a) λ b. done (mk a b)) c fs s in
      let u = e.forth r.tree r.first r.before in
      let t = spells_made (q r.tree) (mk r.tree) c r.rest r.behind in
      let v = (d r.tree u.0).forth t.0 r.rest t.1 in
      let w = to r.tree t.0 u.0 v.0 in
      subst (λ x. R x × (fs ≡ h x)) (sym t.2) (w.0, r.whole ∙ ap₂ ◌++◌ u.1 v.1 ∙ w.1);
  back = λ c l.
      let r = from c l in
      let k = spells_make (q r.0) (mk r.0) r.1 (g r.1) ((d r.0 r.2).back r.1 r.3) in
      let s = spells_bind p (λ a. bind (q a) λ b. done (mk a b)) r.0 (mk r.0 r.1) (f r.0) (g r.1) (e.back r.0 r.2) k in
      subst (λ x. Spells (bind p λ a. bind (q a) λ b. done (mk a b)) x (h x)) r.4
      (subst (Spells (bind p λ a. bind (q a) λ b. done (mk a b)) (mk r.0 r.1)) (to r.0 r.1 r.2 r.3).1 s);
}

-- ---- a number that the tree behind it tells

pub keyed : {A : Type 0} {q : ℕ → Grammar A} {R : A → Type 0} {g : A → Fields} {p : Grammar ℕ} {P : ℕ → Type 0} {w : ℕ} (key : A → ℕ)
    → Exactly p P (λ v. (w, v) ∷ [])
    → ((n : ℕ) → P n → Exactly (q n) (λ a. (key a ≡ n) × R a) g)
    → Exactly (bind p q) (λ a. P (key a) × R a) (λ a. (w, key a) ∷ g a)
keyed {P = P} key e d =
    after e d (λ n a h l. ((subst P (sym l.0) h, l.1), (cc l.0))) (λ a h. (key a, h.0, (refl, h.1)))

-- ---- lists

-- the empty list
pub no_more : {A : Type 0} (f : A → Fields) {R : List A → Type 0} → R []
    → Exactly (done []) (λ l. (length l ≡ 0) × R l) (flat_map f)
unfolding flat_map
no_more {A} f {R} r = done_exactly (refl, r) refl empty
  where
    empty : (l : List A) → (length l ≡ 0) × R l → l ≡ []
    empty [] h = refl
    empty (a ∷ l) h = absurd (omega arith)

-- a tree before a list
pub more : {A : Type 0} {f : A → Fields} {p : Grammar A} {P : A → Type 0} {q : A → Grammar (List A)} {Q : A → List A → Type 0} {R : List A → Type 0} {n : ℕ}
    → Exactly p P f
    → ((a : A) → P a → Exactly (q a) (λ l. (length l ≡ n) × Q a l) (flat_map f))
    → ((a : A) (l : List A) → P a → Q a l → R (a ∷ l))
    → ((a : A) (l : List A) → R (a ∷ l) → P a × Q a l)
    → Exactly (bind p λ a. bind (q a) λ l. done (a ∷ l)) (λ l. (length l ≡ suc n) × R l) (flat_map f)
unfolding flat_map
more {A} {P} {Q} {R} {n} e d to from = both e d ◌∷◌ (λ a l h k. ((ap suc k.0, to a l h k.1), refl)) onto
  where
    onto : (l : List A) → (length l ≡ suc n) × R l
        → (a : A) × (k : List A) × P a × ((length k ≡ n) × Q a k) × (a ∷ k ≡ l)
    onto [] h = absurd (omega arith)
    onto (a ∷ l) h = let r = from a l h.1 in (a, l, r.0, (omega arith, r.1), refl)

-- ---- a bit, and a tree if it is 1

present : {A : Type 0} → Option A → ℕ
present none = 0
present (some a) = 1

behind_bit : {A : Type 0} → (A → Fields) → Option A → Fields
behind_bit f none = []
behind_bit f (some a) = f a

pub maybe_exactly : (k : FieldKind) → bits k ≡ 1 → {A : Type 0} {p : Grammar A} {P : A → Type 0} {f : A → Fields} (R : Option A → Type 0) → R none
    → ((a : A) → P a → R (some a))
    → ((a : A) → R (some a) → P a)
    → Exactly p P f
    → Exactly (bind (field k any) λ b. cond (eqb b 0) (done none) (bind p λ a. done (some a))) R (if_any f)
unfolding present behind_bit if_any
maybe_exactly k one {A} {p} {P} {f} R r to from e =
    after (any_exactly k) (λ b h. choice b (rw one at h)) joined told
  where
    nothing : (o : Option A) → (present o ≡ 0) × R o → o ≡ none
    nothing none h = refl
    nothing (some a) h = absurd (omega arith)

    something : (o : Option A) → (present o ≡ 1) × R o → (a : A) × P a × (some a ≡ o)
    something none h = absurd (omega arith)
    something (some a) h = (a, from a h.1, refl)

    choice : (b : ℕ) → b < 2
        → Exactly (cond (eqb b 0) (done none) (bind p λ a. done (some a))) (λ o. (present o ≡ b) × R o) (behind_bit f)
    choice zero h = done_exactly (refl, r) refl nothing
    choice (suc zero) h = made e some (λ a k. ((refl, to a k), refl)) something
    choice (suc (suc b)) h = absurd (omega arith)

    joined : (b : ℕ) (o : Option A) → b < 2 ^ bits k → (present o ≡ b) × R o
        → R o × ((bits k, b) ∷ behind_bit f o ≡ if_any f o)
    joined b none l h = (h.1, (cc (h.0, one)))
    joined b (some a) l h = (h.1, (cc (h.0, one)))

    told : (o : Option A) → R o → (b : ℕ) × (b < 2 ^ bits k) × ((present o ≡ b) × R o)
    told none h = (0, rw one (omega arith), (refl, h))
    told (some a) h = (1, rw one (omega arith), (refl, h))
