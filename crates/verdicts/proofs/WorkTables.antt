-- Refusal 1 is given exactly for a work table that is too short, over two files and over an input; the table is all zeros after every
-- other answer.
use Prim.Native.Nat.{ℕ, suc, ◌+◌, ◌≤◌, ◌<◌}
use mathlib.Core.Logic.{◌↔◌, ◌≢◌}
use mathlib.Core.Path.{◌≡◌, refl, sym, ◌∙◌, ap, subst}
use mathlib.Core.List.{List, [], ◌∷◌, ◌++◌}
use mathlib.Core.Bool.{Bool, true, false, cond}
use native.Mathlib.Omega.{arith}
use native.Mathlib.Decide.{dec_le}
use borrow.Author.Tests.{lt-ltb, le-ltb}
use lib.ListN.{length, replicate}
use Rattle.table.specs.Places.{WORDS}
use Rattle.answers.specs.Carried.{refusal_at}
use Rattle.fields.specs.Source.{source, start}
use Rattle.fields.specs.Grammar.{Grammar, Outcome, outcome, trace}
use Rattle.fields.specs.Grammar.Outcome.{ok, no as stopped}
use Rattle.patterns.specs.Every.{Every}
use Rattle.patterns.specs.Derive.{Book}
use Rattle.patterns.specs.Certificate.{Claim, Line, Closing, Certificate}
use Rattle.patterns.specs.Reason.{Reason, book_place, certificate_place, line_place, closing_place, neither_place}
use Rattle.patterns.specs.Judge.{Ruling, Placed, place, line_checks, closing_checks, checks_from, checks, refuse, FirstBroken}
use Rattle.patterns.specs.First.{Exp, Pair, Pace, one}
use Rattle.patterns.proofs.Judged.{refuses_exactly}
use Rattle.patterns.proofs.Every.{every_append, every_map, every_rest}
use Rattle.grammar.specs.Books.{RuleBook}
use Rattle.layout.specs.Files.{Opened, good, bad, ends_at, closed_bytes, open_bytes, open_book, open_certificate}
use Rattle.verdicts.specs.Judging.{judging_certificate, judging_files, refusal_one, with_table, judging, work_after}
use Rattle.verdicts.specs.Program.{book_length, judging_framed, judging_input}
use Rattle.verdicts.proofs.Layers.{book_long, certificate_long, both_short, book_refused, certificate_refused, both_opened}
use Rattle.verdicts.proofs.Framing.{input_long, input_cut, input_whole}

-- ---- no refusal but 1 has W = 4

-- a file's refusal names the file
file_named : {A : Type 0} (w : ℕ) (p : Grammar A) (s : List ℕ) {r : Reason} → open_bytes w p s ≡ bad r → r.w ≡ w
unfolding open_bytes
file_named {A} w p s {r} = go (outcome (source s []) p (start false))
  where
    under : (e : Bool) (a : A) (n : ℕ) (fs : List (ℕ × ℕ))
        → cond e (good a fs) (bad (refusal_at 7 w n)) ≡ bad r → r.w ≡ w
    under true a n fs e = let z : ◌≡◌ {A = ℕ} 0 1 = cc in absurd (omega arith)
    under false a n fs e = let q : refusal_at 7 w n ≡ r = cc in sym (ap (λ (t : Reason). t.w) q)

    go : (o : Outcome A) → closed_bytes w s o (trace (source s []) p (start false)) ≡ bad r → r.w ≡ w
    go (ok a c) e = under (ends_at s c.bit) a c.bit (trace (source s []) p (start false)) e
    go (stopped m c) e = let q : refusal_at m w c.bit ≡ r = cc in sym (ap (λ (t : Reason). t.w) q)

-- a check's refusal names a line or the closing
abbrev Inside : Placed one → Type 0
Inside p = p.w < neither_place

every_one : {A : Type 0} (P : A → Type 0) → ((a : A) → P a) → (l : List A) → Every P l
unfolding Every
every_one P h [] = tt
every_one P h (a ∷ l) = (h a, every_one P h l)

inside : (B : Book Exp) (es : List (Claim Exp)) (a : ℕ) (ls : List (Line Exp Pair)) (c : Closing Exp Pace)
    → Every Inside (checks_from one B es a ls c)
unfolding checks_from
inside B es a [] c =
    every_map Inside (place one closing_place c.line) (closing_checks one es c) (every_one _ (λ k. omega arith) _)
inside B es a (l ∷ ls) c =
    every_append Inside _ (checks_from one B (es ++ (l.claim ∷ [])) (suc a) ls c)
    (every_map Inside (place one line_place a) (line_checks one es B l.claim l.kind) (every_one _ (λ k. omega arith) _))
    (inside B (es ++ (l.claim ∷ [])) (suc a) ls c)

pub broken_inside : (B : Book Exp) (K : Certificate Exp Pair Pace) (r : Reason) → FirstBroken one B K r → r.w < neither_place
unfolding checks Every
broken_inside B K r f =
    let all = subst (Every Inside) f.whole (inside B [] 0 K.lines K.closing) in
    let here = (every_rest Inside f.before (f.broken ∷ f.after) all).0 in
    rw f.told here

-- ---- refusal 1

-- a refusal with another number is not 1
another : {m w : ℕ} → m ≢ 1 → ◌≢◌ {A = Ruling Pace} (refuse (refusal_at m w 0)) refusal_one
another {m} {w} n q =
    let r : refusal_at m w 0 ≡ refusal_at 1 neither_place 0 = cc q in
    n (ap (λ (t : Reason). t.number) r)

-- no refusal of the two files is 1,
files_never_one : (book certificate : List ℕ) → judging_files book certificate ≢ refusal_one
unfolding open_book open_certificate
files_never_one book certificate = go (dec_le (length book) 16384) (dec_le (length certificate) 32768)
  where
    judged : (b : RuleBook) (fs : List (ℕ × ℕ)) → open_book book ≡ good b fs
        → (o : Opened (Certificate Exp Pair Pace)) → open_certificate b certificate ≡ o
        → judging_certificate book certificate ≢ refusal_one
    judged b fs e (good K gs) f q =
        let h = (refuses_exactly one b.rules K _).0 (sym (both_opened book certificate b fs e K gs f) ∙ q) in
        omega (arith, broken_inside b.rules K _ h)
    judged b fs e (bad r) f q =
        let h = sym (certificate_refused book certificate b fs e r f) ∙ q in
        let w : r ≡ refusal_at 1 neither_place 0 = cc h in
        omega (arith, file_named certificate_place _ certificate f, ap (λ (t : Reason). t.w) w)

    read : (o : Opened RuleBook) → open_book book ≡ o → judging_certificate book certificate ≢ refusal_one
    read (good b fs) e q = judged b fs e (open_certificate b certificate) refl q
    read (bad r) e q =
        let h = sym (book_refused book certificate r e) ∙ q in
        let w : r ≡ refusal_at 1 neither_place 0 = cc h in
        omega (arith, file_named book_place _ book e, ap (λ (t : Reason). t.w) w)

    go : Dec (length book ≤ 16384) → Dec (length certificate ≤ 32768) → judging_files book certificate ≢ refusal_one
    go (no n) m q = another (λ e. omega arith) (sym (book_long book certificate (omega arith)) ∙ q)
    go (yes n) (no m) q = another (λ e. omega arith) (sym (certificate_long book certificate n (omega arith)) ∙ q)
    go (yes n) (yes m) q = read (open_book book) refl (sym (both_short book certificate n m) ∙ q)

-- and none of an input behind its table
framed_never_one : (input : List ℕ) → judging_framed input ≢ refusal_one
framed_never_one input = go (dec_le (length input) 49154) (dec_le (2 + book_length input) (length input))
  where
    go : Dec (length input ≤ 49154) → Dec (2 + book_length input ≤ length input) → judging_framed input ≢ refusal_one
    go (no k) d q = another (λ e. omega arith) (sym (input_long input (omega arith)) ∙ q)
    go (yes k) (no h) q = another (λ e. omega arith) (sym (input_cut input k (omega arith)) ∙ q)
    go (yes k) (yes h) q = files_never_one _ _ (sym (input_whole input k h) ∙ q)

module _ (v : Ruling Pace) (never : v ≢ refusal_one) where
  one_exactly_when : (size : ℕ) → (with_table size v ≡ refusal_one) ↔ (size < WORDS)
  one_exactly_when size = (λ e. go e (dec_le WORDS size), λ h. rw (lt-ltb size WORDS h))
    where
      go : with_table size v ≡ refusal_one → Dec (WORDS ≤ size) → size < WORDS
      go e (yes h) = absurd (never (sym (rw (le-ltb size WORDS h)) ∙ e))
      go e (no h) = omega arith

  kept : (work : List ℕ) → with_table (length work) v ≡ refusal_one → work_after work ≡ work
  unfolding work_after
  kept work e = rw (lt-ltb (length work) WORDS ((one_exactly_when (length work)).0 e))

  cleared : (work : List ℕ) → with_table (length work) v ≢ refusal_one → work_after work ≡ replicate (length work) 0
  unfolding work_after
  cleared work n = go (dec_le WORDS (length work))
    where
      go : Dec (WORDS ≤ length work) → work_after work ≡ replicate (length work) 0
      go (yes h) = rw (le-ltb (length work) WORDS h)
      go (no h) = absurd (n ((one_exactly_when (length work)).1 (omega arith)))

-- ---- the judge of two files

module _ (book certificate : List ℕ) where
  -- The work table is not touched by refusal 1,
  pub work_kept : (work : List ℕ) → judging book certificate (length work) ≡ refusal_one
      → work_after work ≡ work
  unfolding judging
  work_kept work e = kept _ (files_never_one book certificate) work e

  -- and is all zeros after every other answer.
  pub work_cleared : (work : List ℕ) → judging book certificate (length work) ≢ refusal_one
      → work_after work ≡ replicate (length work) 0
  unfolding judging
  work_cleared work n = cleared _ (files_never_one book certificate) work n

-- ---- the judge of an input

module _ (input : List ℕ) where
  pub input_work_kept : (work : List ℕ) → judging_input input (length work) ≡ refusal_one
      → work_after work ≡ work
  unfolding judging_input
  input_work_kept work e = kept _ (framed_never_one input) work e

  pub input_work_cleared : (work : List ℕ) → judging_input input (length work) ≢ refusal_one
      → work_after work ≡ replicate (length work) 0
  unfolding judging_input
  input_work_cleared work n = cleared _ (framed_never_one input) work n
