-- How many bits a grammar may ask for, whatever the source: each field is paid for out of an allowance.
use Prim.Native.Nat.{ℕ, ◌+◌, ◌-◌, ◌≤◌}
use mathlib.Core.List.{List}
use mathlib.Core.Bool.{Bool, true, false, cond}
use native.Mathlib.Omega.{arith}
use Rattle.bits.specs.Packed.{width}
use Rattle.fields.specs.Kinds.{FieldKind, bits, Range}
use Rattle.fields.specs.Grammar.{Grammar, done, ask, bind, field}
use Rattle.fields.specs.Faults.{Keeps, Led, here, past}

-- n bits are enough for all fields that keep their rules, and a tree `a` leaves `rest a` of them at least
pub data Spends {A : Type 0} (rest : A → ℕ) : ℕ → Grammar A → Type 0 where
  over : (n : ℕ) (a : A) → rest a ≤ n → Spends rest n (done a)
  pays : {n : ℕ} {k : FieldKind} {r : Range} {next : ℕ → Grammar A} → ((v : ℕ) → Keeps k r v → bits k ≤ n)
      → ((v : ℕ) → Keeps k r v → Spends rest (n - bits k) (next v)) → Spends rest n (ask k r next)

module _ {A : Type 0} {rest : A → ℕ} where
  pub spends_more : {p : Grammar A} {n : ℕ} (m : ℕ) → Spends rest n p → n ≤ m → Spends rest m p
  spends_more m (over n a h) l = over m a (omega arith)
  spends_more m (pays {k = k} h g) l =
      pays {n = m} (λ v q. let b = h v q in omega arith) (λ v q. let b = h v q in spends_more (m - bits k) (g v q) (omega arith))

  -- fields that lead are paid for
  pub led_spends : {p q : Grammar A} {fs : List (ℕ × ℕ)} {n : ℕ} → Led p fs q → Spends rest n p → width fs ≤ n
  unfolding width
  led_spends here h = omega arith
  led_spends (past {v = v} q l) (pays h g) = let b = h v q in let w = led_spends l (g v q) in omega arith

-- what is not spent is left over
pub spends_beside : {A : Type 0} {rest : A → ℕ} {p : Grammar A} {n : ℕ} (m : ℕ) → Spends rest n p → Spends (λ a. rest a + m) (n + m) p
spends_beside m (over n a h) = over (n + m) a (omega arith)
spends_beside {n = n} m (pays {k = k} h g) =
    pays {n = n + m} (λ v q. let b = h v q in omega arith)
    (λ v q. let b = h v q in spends_more (n + m - bits k) (spends_beside m (g v q)) (omega arith))

module _ {A B : Type 0} {rest : A → ℕ} {last : B → ℕ} where
  pub spends_bind : (p : Grammar A) (f : A → Grammar B) {n : ℕ} → Spends rest n p → ((a : A) → Spends last (rest a) (f a))
      → Spends last n (bind p f)
  unfolding bind
  spends_bind p f (over n a h) g = spends_more n (g a) h
  spends_bind p f (pays {next = next} h x) g = pays h (λ v q. spends_bind (next v) f (x v q) g)

-- a field first
pub spends_field : {B : Type 0} {last : B → ℕ} (k : FieldKind) (r : Range) (f : ℕ → Grammar B) (n m : ℕ)
    → ((v : ℕ) → Keeps k r v → bits k + m ≤ n) → ((v : ℕ) → Keeps k r v → Spends last m (f v)) → Spends last n (bind (field k r) f)
unfolding bind field
spends_field k r f n m l g =
    pays {n = n} (λ v q. let b = l v q in omega arith) (λ v q. let b = l v q in spends_more (n - bits k) (g v q) (omega arith))

pub spends_either : {A : Type 0} {rest : A → ℕ} (p q : Grammar A) {n : ℕ} (b : Bool) → Spends rest n p → Spends rest n q
    → Spends rest n (cond b p q)
spends_either p q true h g = h
spends_either p q false h g = g

-- ---- at most so many bits

abbrev none_left : {A : Type 0} → A → ℕ
none_left a = 0

abbrev pub AtMost : {A : Type 0} → ℕ → Grammar A → Type 0
AtMost n p = Spends none_left n p

pub at_most : {A : Type 0} {rest : A → ℕ} {p : Grammar A} {n : ℕ} → Spends rest n p → AtMost n p
at_most (over n a h) = over n a (omega arith)
at_most (pays h g) = pays h (λ v q. at_most (g v q))

pub at_done : {A : Type 0} {a : A} {n : ℕ} → AtMost n (done a)
at_done {a = a} {n = n} = over n a (omega arith)

pub at_then : {A B : Type 0} (p : Grammar A) (f : A → Grammar B) {l m : ℕ} (n : ℕ) → AtMost l p → ((a : A) → AtMost m (f a)) → l + m ≤ n
    → AtMost n (bind p f)
at_then p f {l} {m} n h g k = spends_bind p f (spends_more n (spends_beside m h) (omega arith)) (λ a. spends_more (0 + m) (g a) (omega arith))

pub at_made : {A B : Type 0} (p : Grammar A) (f : A → B) {n : ℕ} → AtMost n p → AtMost n (bind p (λ a. done (f a)))
at_made p f {n} h = at_then p (λ a. done (f a)) n h (λ a. at_done {n = 0}) (omega arith)
