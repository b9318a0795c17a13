-- The program's input: what is answered for each, and that a book and a certificate in one input are judged as they are by themselves.
use Prim.Native.Nat.{ℕ, suc, ◌+◌, ◌*◌, ◌/◌, ◌%◌, ◌≤◌, ◌<◌}
use mathlib.Core.Logic.{◌↔◌}
use mathlib.Core.Path.{◌≡◌, sym, ◌∙◌, ap, ap₂, subst}
use mathlib.Core.List.{List, [], ◌∷◌, ◌++◌}
use native.Mathlib.Omega.{arith}
use native.Mathlib.Decide.{dec_le}
use borrow.Author.Tests.{lt-ltb, le-ltb}
use lib.ListN.{length, take, drop, get_or, length-append, take-append-drop, get_or-eq_default, get_or-append}
use lib.Seq.{length-take-le, take-append_seam, drop-append_seam, drop-drop, get_or-drop}
use Rattle.table.specs.Places.{WORDS}
use Rattle.bits.specs.Bits.{Bytes}
use Rattle.patterns.specs.First.{Pace}
use Rattle.patterns.specs.Judge.{Ruling, accept}
use Rattle.verdicts.specs.Judging.{judging_files, refusal_one, with_table, judging}
use Rattle.verdicts.specs.Demands.{NeverStuck}
use Rattle.verdicts.specs.Program.{book_length, unframed, judging_parts, judging_framed, judging_input, framing, InputVerdict, short_table, too_long, cut_short, framed, AcceptableInput}
use Rattle.verdicts.proofs.Layers.{table_enough}
use Rattle.verdicts.proofs.Demands.{acceptable_accepted, accepts_exactly_when, accepted_never_gets_stuck}

-- ---- the four ways

module _ (input : List ℕ) where
  pub input_unjudged : (size : ℕ) → size < WORDS → judging_input input size ≡ refusal_one
  unfolding judging_input
  input_unjudged size h = rw (lt-ltb size WORDS h)

  pub input_judged : (size : ℕ) → WORDS ≤ size → judging_input input size ≡ judging_framed input
  unfolding judging_input
  input_judged size h = rw (le-ltb size WORDS h)

  pub input_long : 49154 < length input → judging_framed input ≡ unframed 2
  unfolding judging_framed
  input_long h = rw (lt-ltb 49154 (length input) h)

  pub input_cut : length input ≤ 49154 → length input < 2 + book_length input → judging_framed input ≡ unframed 3
  unfolding judging_framed
  input_cut k h = rw (le-ltb 49154 (length input) k, lt-ltb (length input) (2 + book_length input) h)

  pub input_whole : length input ≤ 49154 → 2 + book_length input ≤ length input
      → judging_framed input ≡ judging_parts (book_length input) input
  unfolding judging_framed
  input_whole k h = rw (le-ltb 49154 (length input) k, le-ltb (length input) (2 + book_length input) h)

-- ---- two files in one input

bytes_front : (p q : List ℕ) → Bytes (p ++ q) → Bytes p
bytes_front p q h i = go (dec_le (suc i) (length p))
  where
    go : Dec (suc i ≤ length p) → get_or p i 0 < 256
    go (yes k) = subst (λ (n : ℕ). n < 256) (get_or-append p q 0 i (omega arith)) (h i)
    go (no k) = subst (λ (n : ℕ). n < 256) (sym (get_or-eq_default p 0 (omega arith))) (omega arith)

bytes_behind : (p q : List ℕ) → Bytes (p ++ q) → Bytes q
bytes_behind p q h i =
    subst (λ (n : ℕ). n < 256)
    (sym (get_or-drop (length p) (p ++ q) i 0) ∙ ap (λ (s : List ℕ). get_or s i 0) (drop-append_seam p q)) (h (length p + i))

module _ (book certificate : List ℕ) where
  framed_bytes : Bytes (framing book certificate) → Bytes (book ++ certificate)
  unfolding framing
  framed_bytes h i = h (suc (suc i))

  framing_length : length (framing book certificate) ≡ 2 + (length book + length certificate)
  unfolding framing
  framing_length = omega (arith, length-append book certificate)

  framing_says : book_length (framing book certificate) ≡ length book
  unfolding framing book_length
  framing_says = omega arith

  framing_parts : judging_parts (length book) (framing book certificate) ≡ judging_files book certificate
  unfolding framing
  framing_parts =
      ap₂ (λ (b c : List ℕ). judging_files b c) (take-append_seam book certificate)
      (sym (drop-drop (length book) 2 (framing book certificate)) ∙ drop-append_seam book certificate)

  -- A book and a certificate in one input are judged as they are by themselves.
  pub framed_is_judged : (size : ℕ) → length book + length certificate ≤ 49152
      → judging_input (framing book certificate) size ≡ judging book certificate size
  unfolding judging_input judging
  framed_is_judged size h =
      let n = framing_length in
      let m = framing_says in
      ap (with_table size)
      (input_whole (framing book certificate) (omega arith) (omega arith)
      ∙ ap (λ (k : ℕ). judging_parts k (framing book certificate)) m
      ∙ framing_parts)

-- and each input with a whole book is one of these
whole_framed : (input : List ℕ) → Bytes input → 2 + book_length input ≤ length input
    → input ≡ framing (take (book_length input) (drop 2 input)) (drop (2 + book_length input) input)
unfolding framing book_length
whole_framed [] bytes h = absurd (omega arith)
whole_framed (high ∷ []) bytes h = absurd (omega arith)
whole_framed (high ∷ low ∷ rest) bytes h =
    let low_byte : low < 256 = bytes 1 in
    let n = length-take-le (256 * high + low) rest (omega arith) in
    let a : length (take (256 * high + low) rest) / 256 ≡ high = omega arith in
    let b : length (take (256 * high + low) rest) % 256 ≡ low = omega arith in
    rw (a, b, ← (drop-drop (256 * high + low) 2 (high ∷ low ∷ rest)), take-append-drop (256 * high + low) rest)

-- ---- every input

module _ (input : List ℕ) (bytes : Bytes input) (size : ℕ) where
  input_verdict : InputVerdict input size (judging_input input size)
  input_verdict = go (dec_le WORDS size) (dec_le (length input) 49154) (dec_le (2 + book_length input) (length input))
    where
      go : Dec (WORDS ≤ size) → Dec (length input ≤ 49154) → Dec (2 + book_length input ≤ length input)
          → InputVerdict input size (judging_input input size)
      go (no t) j d = short_table (omega arith) (input_unjudged input size (omega arith))
      go (yes t) (no k) d = too_long t (omega arith) (input_judged input size t ∙ input_long input (omega arith))
      go (yes t) (yes k) (no h) = cut_short t k (omega arith) (input_judged input size t ∙ input_cut input k (omega arith))
      go (yes t) (yes k) (yes h) =
          framed t k _ _ (whole_framed input bytes h)
          (input_judged input size t ∙ input_whole input k h ∙ sym (table_enough _ _ size t))

  -- The program's answer is 1 for a short table, then 2 for a long input, 3 for one that is cut short, and else the judge's for the
  -- two parts.
  pub input_exactly : (v : Ruling Pace) → (judging_input input size ≡ v) ↔ InputVerdict input size v
  input_exactly v = (λ e. subst (InputVerdict input size) e input_verdict, back)
    where
      back : InputVerdict input size v → judging_input input size ≡ v
      back (short_table t e) = input_unjudged input size t ∙ sym e
      back (too_long t h e) = input_judged input size t ∙ input_long input h ∙ sym e
      back (cut_short t k h e) = input_judged input size t ∙ input_cut input k h ∙ sym e
      back (framed t k book certificate e q) =
          ap (λ (s : List ℕ). judging_input s size) e
          ∙ framed_is_judged book certificate size (omega (arith, ap length e, framing_length book certificate))
          ∙ sym q

  -- It accepts exactly the inputs that hold a book and a certificate that are to be accepted.
  pub input_accepted_exactly_when : (line : ℕ) (pace : Pace)
      → (judging_input input size ≡ accept line pace) ↔ AcceptableInput input size line pace
  input_accepted_exactly_when line pace = (λ e. forth ((input_exactly (accept line pace)).0 e), back)
    where
      forth : InputVerdict input size (accept line pace) → AcceptableInput input size line pace
      forth (short_table t e) = let z : ◌≡◌ {A = ℕ} 0 1 = cc in absurd (omega arith)
      forth (too_long t h e) = let z : ◌≡◌ {A = ℕ} 0 1 = cc in absurd (omega arith)
      forth (cut_short t k h e) = let z : ◌≡◌ {A = ℕ} 0 1 = cc in absurd (omega arith)
      forth (framed t k book certificate e q) =
          let all = framed_bytes book certificate (subst Bytes e bytes) in
          let is = bytes_front book certificate all in
          let are = bytes_behind book certificate all in
          record {
            book = book;
            certificate = certificate;
            parts = e;
            acceptable = (accepts_exactly_when book certificate is are size line pace).0 (sym q);
          }

      back : AcceptableInput input size line pace → judging_input input size ≡ accept line pace
      back a =
          let w = a.acceptable in
          ap (λ (s : List ℕ). judging_input s size) a.parts
          ∙ framed_is_judged a.book a.certificate size (omega (arith, w.book_file.short, w.certificate_file.short))
          ∙ acceptable_accepted a.book a.certificate size line pace w

  -- And what it accepts never gets stuck.
  pub accepted_input_never_gets_stuck : (line k α : ℕ) → judging_input input size ≡ accept line (record { k = k; α = α })
      → (book : List ℕ) × (certificate : List ℕ) × (input ≡ framing book certificate) × NeverStuck book certificate line α
  accepted_input_never_gets_stuck line k α e =
      let a = (input_accepted_exactly_when line (record { k = k; α = α })).0 e in
      let all = framed_bytes a.book a.certificate (subst Bytes a.parts bytes) in
      let is = bytes_front a.book a.certificate all in
      let are = bytes_behind a.book a.certificate all in
      let q = acceptable_accepted a.book a.certificate size line (record { k = k; α = α }) a.acceptable in
      (a.book, a.certificate, a.parts, accepted_never_gets_stuck a.book a.certificate is are size line k α q)
