-- How the end of a file is looked at, and what a walk over a whole file comes to.
use Rattle.std.specs.Prelude.{Ok, Err, Some, None}
use Prim.Native.Nat.{ℕ, ◌+◌, ◌-◌, ◌*◌, ◌/◌, ◌^◌, ◌≤◌}
use mathlib.Core.Path.{◌≡◌, refl, sym, ◌∙◌, ap, ap₂, subst}
use mathlib.Core.List.{List, []}
use mathlib.Core.Bool.{Bool, true, false, cond}
use mathlib.Core.Logic.{◌≢◌}
use native.Mathlib.Omega.{arith}
use borrow.Author.Tests.{eq-eqb, ne_eqb}
use lib.ListN.{length}
use lib.Dec.{eqb}
use Rattle.answers.specs.Carried.{refusal_at, of_a_field, carried}
use Rattle.answers.specs.Numbers.{w_of, paper_refusal}
use Rattle.bits.specs.Bits.{Taken as Bits}
use Rattle.bits.specs.Bits.{bits_at, room_of, read_field}
use Rattle.bits.specs.Packed.{width, bytes_for}
use Rattle.bits.proofs.Fitting.{read_yes}
use Rattle.fields.specs.declared.Walker.{Walker}
use Rattle.fields.specs.Source.{Walk}
use Rattle.fields.specs.Source.{source, start}
use Rattle.fields.specs.Grammar.{Grammar, Outcome, outcome, trace}
use Rattle.fields.specs.Grammar.Outcome.{ok, no}
use Rattle.fields.specs.Run.{Shown, shown, Ran}
use Rattle.fields.proofs.Sinks.{sets, puts, sunk, run_sunk}
use Rattle.fields.proofs.Reading.{end_room}
use Rattle.fields.proofs.Trips.{end_bit, end_n}
use Rattle.layout.specs.Files.{good, bad, ends_at, closed_bytes, open_bytes, closed_list, open_list}
use Rattle.answers.specs.declared.W.{W}
use Rattle.answers.specs.declared.Refusal.{Refusal}
use Rattle.layout.specs.Openings.{sees, shut, sight, seen, seen_bytes, seen_list, walked_bits}
use Rattle.fields.proofs.Refusing.{Few, refused_few}
use Rattle.answers.proofs.Carrying.{carried_field}

-- ---- the last byte

module _ (s : List ℕ) (bit : ℕ) where
  pub ends_long : length s ≢ (bit + 7) / 8 → ends_at s bit ≡ false
  unfolding ends_at
  ends_long h = rw (ne_eqb (length s) (bytes_for bit) h)

  pub ends_read : length s ≡ (bit + 7) / 8 → {v : ℕ} {c : Rattle.bits.specs.declared.Cursor.Cursor} {f : Bits}
      → bit ≤ 2 ^ 32 → bit ≤ 8 * length s → f ≡ read_field s (8 * length s - bit) bit → f ≡ Some (v, c)
      → ends_at s bit ≡ eqb v 0
  unfolding ends_at
  ends_read h {v} {c} near inside g e =
      let w : 8 * length s - bit ≤ 16 = omega arith in
      let r : bit + (8 * length s - bit) ≤ room_of s = omega arith in
      let p = sym (read_yes s (8 * length s - bit) bit w r) ∙ sym g ∙ e in
      let t : ◌≡◌ {A = ℕ × Rattle.bits.specs.declared.Cursor.Cursor} (bits_at s bit (8 * length s - bit), record { at = bit + (8 * length s - bit) }) (v, c) = cc p in
      let q : bits_at s bit (8 * length s - bit) ≡ v = ap (λ (u : ℕ × Rattle.bits.specs.declared.Cursor.Cursor). u.0) t in
      rw (eq-eqb (length s) (bytes_for bit) h, q)

  pub ends_past : length s ≡ (bit + 7) / 8 → {f : Bits} → bit ≤ 2 ^ 32 → bit ≤ 8 * length s
      → f ≡ read_field s (8 * length s - bit) bit → f ≡ None → ends_at s bit ≡ false
  ends_past h near inside g e =
      let w : 8 * length s - bit ≤ 16 = omega arith in
      let r : bit + (8 * length s - bit) ≤ room_of s = omega arith in
      let p = sym (read_yes s (8 * length s - bit) bit w r) ∙ sym g ∙ e in
      let z : ◌≡◌ {A = ℕ} 0 1 = cc p in
      absurd (omega arith)

-- ---- a walk over a whole file

shown_words : {A : Type 0} (val : A → ℕ) (o : Outcome A) (us vs : List ℕ) → (shown val (sunk o us vs)).words ≡ us
shown_words val (ok a c) us vs = refl
shown_words val (no m c) us vs = refl

shown_bytes : {A : Type 0} (val : A → ℕ) (o : Outcome A) (us vs : List ℕ) → (shown val (sunk o us vs)).bytes ≡ vs
shown_bytes val (ok a c) us vs = refl
shown_bytes val (no m c) us vs = refl

-- what a walk answers, by its outcome
walk_of : {A : Type 0} → (A → ℕ) → Outcome A → Walk
walk_of val (ok a c) = Ok (val a, c)
walk_of val (no m c) = Err (m, c)

shown_walk : {A : Type 0} (val : A → ℕ) (o : Outcome A) (us vs : List ℕ) → (shown val (sunk o us vs)).walk ≡ walk_of val o
unfolding walk_of
shown_walk val (ok a c) us vs = refl
shown_walk val (no m c) us vs = refl

module _ {A : Type 0} (s l : List ℕ) {p : Grammar A} {b : Bool} {ws bs ws₁ bs₁ : List ℕ} {val : A → ℕ} {r : Walk}
    (h : Ran (source s l) p (start b) ws bs val r ws₁ bs₁) where
  shown_is : record { walk = r; words = ws₁; bytes = bs₁ }
      ≡ shown val (sunk (outcome (source s l) p (start b)) (sets ws 0 (trace (source s l) p (start b))) (puts bs 0 (trace (source s l) p (start b))))
  shown_is = h.told ∙ ap (shown val) (run_sunk (source s l) p (start b) ws bs)

  -- the outputs hold the fields that were passed
  pub words_after : ws₁ ≡ sets ws 0 (trace (source s l) p (start b))
  words_after = ap (λ (x : Shown). x.words) shown_is ∙ shown_words val (outcome (source s l) p (start b)) _ _

  pub bytes_after : bs₁ ≡ puts bs 0 (trace (source s l) p (start b))
  bytes_after = ap (λ (x : Shown). x.bytes) shown_is ∙ shown_bytes val (outcome (source s l) p (start b)) _ _

  walk_is : r ≡ walk_of val (outcome (source s l) p (start b))
  walk_is = ap (λ (x : Shown). x.walk) shown_is ∙ shown_walk val (outcome (source s l) p (start b)) _ _

-- a number of a field's refusal, as a run gives it
field_carried : {m : ℕ} (w a : ℕ) → Few m → carried m w a 0 ≡ refusal_at m w a
field_carried w a h = carried_field w a 0 h.0 (omega (arith, h.1))

-- a walk that came to its end, where the end of the file is looked at
at_end : {A : Type 0} (val : A → ℕ) (w place : ℕ) (b : Bool) (a : A) (d : Walker) (fs : List (ℕ × ℕ)) → d.n ≡ length fs
    → d.bit ≡ width fs
    → cond b (sees (val a) d.n d.bit) (shut (refusal_at 7 w place)) ≡ seen val (cond b (good a fs) (bad (refusal_at 7 w place)))
unfolding seen
at_end val w place true a d fs e g = ap₂ (λ (n k : ℕ). sees (val a) n k) e g
at_end val w place false a d fs e g = refl

-- over bytes
module _ {A : Type 0} (s : List ℕ) (p : Grammar A) {ws bs ws₁ bs₁ : List ℕ} (val : A → ℕ) {r : Walk}
    (h : Ran (source s []) p (start false) ws bs val r ws₁ bs₁) where
  -- a walk ends within the bytes, and within the first 2 ^ 32 bits
  pub inside_bytes : (walked_bits r ≤ 2 ^ 32) × (walked_bits r ≤ 8 * length s)
  unfolding walked_bits walk_of
  inside_bytes = rw (walk_is s [] h) (go (outcome (source s []) p (start false)) refl)
    where
      go : (o : Outcome A) → outcome (source s []) p (start false) ≡ o
          → (walked_bits (walk_of val o) ≤ 2 ^ 32) × (walked_bits (walk_of val o) ≤ 8 * length s)
      go (ok a d) e = let k = end_room s [] p (start false) e refl (omega arith) in (omega arith, omega arith)
      go (no m d) e = (omega arith, omega arith)

  pub bytes_seen : (w : ℕ) → seen_bytes w s r ≡ seen val (open_bytes w p s)
  unfolding seen_bytes seen open_bytes walk_of
  bytes_seen w = ap (seen_bytes w s) (walk_is s [] h) ∙ go (outcome (source s []) p (start false)) refl
    where
      go : (o : Outcome A) → outcome (source s []) p (start false) ≡ o
          → seen_bytes w s (walk_of val o) ≡ seen val (closed_bytes w s o (trace (source s []) p (start false)))
      go (ok a d) e =
          at_end val w d.bit (ends_at s d.bit) a d (trace (source s []) p (start false)) (end_n (source s []) p false e)
          (end_bit (source s []) p false e)
      go (no m d) e = ap shut (field_carried w d.bit (refused_few s [] p (start false) m d e))

-- over a list
module _ {A : Type 0} (l : List ℕ) (p : Grammar A) {ws bs ws₁ bs₁ : List ℕ} (val : A → ℕ) {r : Walk}
    (h : Ran (source [] l) p (start true) ws bs val r ws₁ bs₁) where
  pub list_seen : (w : ℕ) → seen_list w l r ≡ seen val (open_list w p l)
  unfolding seen_list seen open_list walk_of
  list_seen w = ap (seen_list w l) (walk_is [] l h) ∙ go (outcome (source [] l) p (start true)) refl
    where
      go : (o : Outcome A) → outcome (source [] l) p (start true) ≡ o
          → seen_list w l (walk_of val o) ≡ seen val (closed_list w l o (trace (source [] l) p (start true)))
      go (ok a d) e =
          at_end val w d.n (eqb d.n (length l)) a d (trace (source [] l) p (start true)) (end_n (source [] l) p true e)
          (end_bit (source [] l) p true e)
      go (no m d) e = ap shut (field_carried w d.n (refused_few [] l p (start true) m d e))

-- ---- what the code makes of a walk

pub bits_on : {r : Walk} {v : ℕ} {c : Walker} (n : ℕ) → r ≡ Ok (v, c) → walked_bits r ≤ n → c.bit ≤ n
unfolding walked_bits
bits_on n e h = subst (λ x. walked_bits x ≤ n) e h

module _ (s : List ℕ) (place : W) {r : Walk} {c : Walker} where
  pub bytes_good : {v : ℕ} {b : Bool} → r ≡ Ok (v, c) → b ≡ ends_at s c.bit → b ≡ true
      → sight (Ok (record { value = v; fields = c.n; bits = c.bit })) ≡ seen_bytes (w_of place) s r
  unfolding sight seen_bytes
  bytes_good e g t = rw (e, ← g, t)

  pub bytes_left : {v : ℕ} {b : Bool} (f : Refusal) → r ≡ Ok (v, c) → b ≡ ends_at s c.bit → b ≡ false
      → paper_refusal f ≡ carried 7 (w_of place) c.bit 0 → sight (Err f) ≡ seen_bytes (w_of place) s r
  unfolding sight seen_bytes carried of_a_field
  bytes_left f e g t h = rw (e, ← g, t) (ap shut h)

  pub bytes_no : {m : ℕ} (f : Refusal) → r ≡ Err (m, c) → paper_refusal f ≡ carried m (w_of place) c.bit 0
      → sight (Err f) ≡ seen_bytes (w_of place) s r
  unfolding sight seen_bytes
  bytes_no f e h = rw e (ap shut h)

module _ (l : List ℕ) (place : W) {r : Walk} {c : Walker} where
  pub list_good : {v : ℕ} → r ≡ Ok (v, c) → c.n ≡ length l → sight (Ok (record { value = v; fields = c.n; bits = c.bit })) ≡ seen_list (w_of place) l r
  unfolding sight seen_list
  list_good e g = rw (e, eq-eqb c.n (length l) g)

  pub list_left : {v : ℕ} (f : Refusal) → r ≡ Ok (v, c) → c.n ≢ length l → paper_refusal f ≡ carried 7 (w_of place) c.n 0
      → sight (Err f) ≡ seen_list (w_of place) l r
  unfolding sight seen_list carried of_a_field
  list_left f e g h = rw (e, ne_eqb c.n (length l) g) (ap shut h)

  pub list_no : {m : ℕ} (f : Refusal) → r ≡ Err (m, c) → paper_refusal f ≡ carried m (w_of place) c.n 0 → sight (Err f) ≡ seen_list (w_of place) l r
  unfolding sight seen_list
  list_no f e h = rw e (ap shut h)
