-- What is true of every field that a grammar can ask for: one grammar after the other, and where fields have led.
use mathlib.Core.Bool.{Bool, true, false, cond}
use Rattle.fields.specs.Kinds.{FieldKind, Range}
use Rattle.fields.specs.Grammar.{Grammar, done, ask, bind, field}
use Rattle.fields.specs.Asks.{Asks}

module _ (P : FieldKind → Range → Type 0) where
  pub asks_bind : {A B : Type 0} (p : Grammar A) (f : A → Grammar B) → Asks P p → ((a : A) → Asks P (f a)) → Asks P (bind p f)
  unfolding Asks bind
  asks_bind (done a) f h g = g a
  asks_bind (ask k r next) f h g = (h.0, λ v. asks_bind (next v) f (h.1 v) g)

  pub asks_cond : {A : Type 0} (b : Bool) (p q : Grammar A) → Asks P p → Asks P q → Asks P (cond b p q)
  asks_cond true p q h k = h
  asks_cond false p q h k = k

  pub asks_field : (k : FieldKind) (r : Range) → P k r → Asks P (field k r)
  unfolding Asks field
  asks_field k r h = (h, λ v. tt)

  -- p, made into something
  pub asks_one : {A B : Type 0} (p : Grammar A) (mk : A → B) → Asks P p → Asks P (bind p λ a. done (mk a))
  unfolding Asks
  asks_one p mk h = asks_bind p _ h (λ a. tt)

  -- p, then q, put together
  pub asks_two : {A B C : Type 0} (p : Grammar A) (q : A → Grammar B) (mk : A → B → C) → Asks P p → ((a : A) → Asks P (q a))
      → Asks P (bind p λ a. bind (q a) λ b. done (mk a b))
  asks_two p q mk h k = asks_bind p _ h (λ a. asks_one (q a) (mk a) (k a))
