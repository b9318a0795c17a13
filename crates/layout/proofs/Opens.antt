-- A good file: its outcome, its fields, and what was noted of a book.
use Prim.Native.Nat.{ℕ, ◌+◌, ◌≤◌}
use mathlib.Core.Path.{◌≡◌, refl, sym, ◌∙◌, ap}
use mathlib.Core.List.{List, [], ◌∷◌, ◌++◌, map}
use mathlib.Core.Bool.{Bool, true, false, cond}
use native.Mathlib.Omega.{arith}
use borrow.Author.Tests.{eqb-true}
use lib.ListN.{length, take, drop, set, length-map}
use lib.Seq.{take_at}
use lib.Dec.{eqb}
use Rattle.answers.specs.Carried.{refusal_at}
use Rattle.answers.specs.Numbers.{w_of}
use Rattle.patterns.specs.Reason.{book_place}
use Rattle.fields.specs.declared.Walker.{Walker}
use Rattle.fields.specs.Source.{Walk}
use Rattle.fields.specs.Source.{source, start}
use Rattle.fields.specs.Grammar.{Grammar, Outcome, outcome, trace}
use Rattle.fields.specs.Grammar.Outcome.{ok, no}
use Rattle.fields.specs.Run.{state, Ran}
use Rattle.fields.proofs.Sinks.{values, sets, sets_first, run_ok}
use Rattle.fields.proofs.Reading.{trace_spells}
use Rattle.grammar.specs.Books.{RuleBook, a_book}
use Rattle.grammar.specs.Limits.{BookFits, call_counts}
use Rattle.grammar.proofs.BookFields.{book_exactly}
use Rattle.books.specs.Counts.{noted, rules_of_book, CountedBook}
use Rattle.layout.specs.Openings.{Opening}
use Rattle.answers.specs.declared.W.TheVariants.{Book}
use Rattle.layout.specs.Files.{good, bad, ends_at, closed_bytes, open_bytes, closed_list, open_list, open_book}
use Rattle.layout.specs.Openings.{sight, seen_bytes, BookOpened}
use Rattle.layout.proofs.FileEnds.{bytes_seen}

-- ---- a good file in bytes, and one in a list

pub record InBytes {A : Type 0} (p : Grammar A) (s : List ℕ) (a : A) (fs : List (ℕ × ℕ)) : Type 0 where
  pub end : Walker
  pub found : outcome (source s []) p (start false) ≡ ok a end
  pub fields : trace (source s []) p (start false) ≡ fs
  pub ends : ends_at s end.bit ≡ true

pub in_bytes : {A : Type 0} (w : ℕ) (p : Grammar A) (s : List ℕ) {a : A} {fs : List (ℕ × ℕ)} → open_bytes w p s ≡ good a fs
    → InBytes p s a fs
unfolding open_bytes
in_bytes w p s {a} {fs} = go (outcome (source s []) p (start false)) refl
  where
    under : (d : Walker) (b : _) → outcome (source s []) p (start false) ≡ ok b d → (e : Bool) → ends_at s d.bit ≡ e
        → cond e (good b (trace (source s []) p (start false))) (bad (refusal_at 7 w d.bit)) ≡ good a fs → InBytes p s a fs
    under d b q true t h = record { end = d; found = q ∙ ap (λ x. ok x d) (cc h); fields = cc h; ends = t }
    under d b q false t h = let z : ◌≡◌ {A = ℕ} 0 1 = cc h in absurd (omega arith)

    go : (o : Outcome _) → outcome (source s []) p (start false) ≡ o
        → closed_bytes w s o (trace (source s []) p (start false)) ≡ good a fs → InBytes p s a fs
    go (ok b d) q h = under d b q (ends_at s d.bit) refl h
    go (no m d) q h = let z : ◌≡◌ {A = ℕ} 0 1 = cc h in absurd (omega arith)

pub record InList {A : Type 0} (p : Grammar A) (l : List ℕ) (a : A) (fs : List (ℕ × ℕ)) : Type 0 where
  pub end : Walker
  pub found : outcome (source [] l) p (start true) ≡ ok a end
  pub fields : trace (source [] l) p (start true) ≡ fs
  pub all : end.n ≡ length l

pub in_list : {A : Type 0} (w : ℕ) (p : Grammar A) (l : List ℕ) {a : A} {fs : List (ℕ × ℕ)} → open_list w p l ≡ good a fs
    → InList p l a fs
unfolding open_list
in_list w p l {a} {fs} = go (outcome (source [] l) p (start true)) refl
  where
    under : (d : Walker) (b : _) → outcome (source [] l) p (start true) ≡ ok b d → (e : Bool) → eqb d.n (length l) ≡ e
        → cond e (good b (trace (source [] l) p (start true))) (bad (refusal_at 7 w d.n)) ≡ good a fs → InList p l a fs
    under d b q true t h =
        record { end = d; found = q ∙ ap (λ x. ok x d) (cc h); fields = cc h; all = eqb-true d.n (length l) t }
    under d b q false t h = let z : ◌≡◌ {A = ℕ} 0 1 = cc h in absurd (omega arith)

    go : (o : Outcome _) → outcome (source [] l) p (start true) ≡ o
        → closed_list w l o (trace (source [] l) p (start true)) ≡ good a fs → InList p l a fs
    go (ok b d) q h = under d b q (eqb d.n (length l)) refl h
    go (no m d) q h = let z : ◌≡◌ {A = ℕ} 0 1 = cc h in absurd (omega arith)

-- ---- the notes of a book

abbrev as_fields : List ℕ → List (ℕ × ℕ)
as_fields ms = map (λ m. (0, m)) ms

noted_sets : (cs : List ℕ) (k : ℕ) (ms : List ℕ) → noted cs k ms ≡ sets cs k (as_fields ms)
unfolding noted sets
noted_sets cs k [] = refl
noted_sets cs k (m ∷ ms) = noted_sets (set cs k m) (k + 1) ms

values_pairs : (ms : List ℕ) → values (as_fields ms) ≡ ms
values_pairs [] = refl
values_pairs (m ∷ ms) = ap (λ l. m ∷ l) (values_pairs ms)

pub noted_first : (cs ms : List ℕ) → length ms ≤ length cs → take (length ms) (noted cs 0 ms) ≡ ms
noted_first cs ms h =
    ap (take (length ms)) (noted_sets cs 0 ms ∙ sets_first cs (as_fields ms) (rw length-map h))
    ∙ ap (λ l. take (length ms) (l ++ drop (length (as_fields ms)) cs)) (values_pairs ms)
    ∙ take_at ms _ (length ms) refl

-- a book within the limits
pub book_fits : (s : List ℕ) {b : RuleBook} {fs : List (ℕ × ℕ)} → open_book s ≡ good b fs → BookFits b
unfolding open_book
book_fits s {b} e =
    let h = in_bytes book_place a_book s e in
    ((book_exactly b _).0 (trace_spells s [] a_book (start false) h.found)).0

pub book_opened : (s : List ℕ) {w : Walk} {ws bs ws₁ bs₁ cs cs₁ : List ℕ} {r : Opening}
    → Ran (source s []) a_book (start false) ws bs rules_of_book w ws₁ bs₁
    → CountedBook (source s []) (state (start false) ws bs) cs cs₁ → 256 ≤ length cs
    → sight r ≡ seen_bytes (w_of Book) s w → BookOpened s r cs₁
unfolding w_of
book_opened s {w} {ws} {bs} {ws₁} {bs₁} {cs} {cs₁} h k room e = record {
  told = e ∙ bytes_seen s a_book rules_of_book h book_place ∙ unfold open_book in refl;
  noted = λ b fs q. notes b fs q;
}
  where
    notes : (b : RuleBook) (fs : List (ℕ × ℕ)) → open_book s ≡ good b fs
        → take (length b.rules) cs₁ ≡ call_counts b.rules
    notes b fs q =
        let x : InBytes a_book s b fs = unfold open_book in in_bytes book_place a_book s q in
        let f = book_fits s q in
        let n : length (call_counts b.rules) ≡ length b.rules = unfold call_counts in length-map b.rules _ in
        let m = f.count in
        ap (take (length b.rules)) (k.all b _ (run_ok (source s []) a_book (start false) ws bs x.found))
        ∙ ap (λ j. take j (noted cs 0 (call_counts b.rules))) (sym n)
        ∙ noted_first cs (call_counts b.rules) (omega arith)
