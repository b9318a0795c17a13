-- What the stages of `covers` come to, from what they call.
use Prim.Native.Nat.{ℕ, ◌+◌, ◌≤◌, ◌<◌}
use mathlib.Core.Path.{◌≡◌, refl, sym, ◌∙◌, ap, subst}
use mathlib.Core.List.{List}
use native.Mathlib.Omega.{arith}
use lib.ListN.{get_or}
use Rattle.std.specs.Prelude.{Option, Some, None, Result, Ok, Err, ok_or, Bool, true, false, cond, ltb}
use Rattle.answers.specs.Carried.{refusal_at}
use Rattle.answers.specs.Numbers.{Reply, denied, paper_refusal, paper_pace, paper_verdict, paper_coverage}
use Rattle.answers.specs.declared.Refusal.{Refusal}
use Rattle.answers.specs.declared.Acceptance.{Acceptance}
use Rattle.answers.proofs.Refusing.{refused_coverage}
use Rattle.bits.specs.Bits.{Bytes}
use Rattle.patterns.specs.Reason.{call_place, neither_place}
use Rattle.patterns.specs.Formed.{Formed}
use Rattle.patterns.specs.First.{Pattern, Pace}
use Rattle.patterns.specs.Judge.{Ruling}
use Rattle.covering.specs.Search.{covering}
use Rattle.grammar.specs.Books.{RuleBook, arity_in}
use Rattle.grammar.specs.Calls.{a_call}
use Rattle.grammar.specs.Limits.{TermFits, BookFits}
use Rattle.grammar.specs.Listing.{Fields, term_fields}
use Rattle.terms.specs.Values.{nothing}
use Rattle.layout.specs.Files.{Opened, good, where_good, open_call}
use Rattle.layout.specs.Openings.{CallOpened}
use Rattle.layout.specs.Openings.{Opening}
use Rattle.layout.proofs.Answering.{opening_shut, opening_good}
use Rattle.layout.proofs.OneFile.{call_file_fits}
use Rattle.table.specs.Places.{WORDS, LEFTS}
use Rattle.instances.specs.Lying.{Lies, KnownArities, TermAt}
use Rattle.begins.specs.Placed.{LeftAt}
use Rattle.verdicts.specs.Judging.{refusal_one, judging_files, judging}
use Rattle.verdicts.specs.Demands.{Acceptable}
use Rattle.verdicts.proofs.Demands.{book_opens, certificate_opens, accepts_exactly_when}
use Rattle.verdicts.proofs.Layers.{table_enough}
use Rattle.judging.specs.Placed.{Placed}
use Rattle.judging.proofs.Opened.{lies_opened, book_lies, book_arities}
use Rattle.matching.specs.Matching.{index_found, Searches}
use Rattle.covers.specs.Asking.{not_covered, told_index, asking_accepted, asking_judged, asking}
use Rattle.covers.specs.Stages.{Ready, AsksCall}
use Rattle.covers.proofs.Layers.{call_placed}
use Rattle.covers.proofs.Fitting.{is_call}
use Rattle.covers.proofs.Exactly.{named_claim}

-- ---- the index found

pub found_told : (q : Refusal) → paper_refusal q ≡ not_covered → (s : Option ℕ) → paper_coverage (ok_or s q) ≡ told_index (index_found s)
unfolding paper_coverage told_index index_found
found_told q e (Some i) = refl
found_told q e None = refused_coverage q e

-- ---- the call

-- a term of the certificate, and a call in its own bytes, lie there for whoever walks over them
term_at : {book s ars : List ℕ} {at end : ℕ} {t : Pattern} → KnownArities book ars → Lies s at (term_fields t) → TermFits ars end t
    → TermAt book s at t
term_at {t = t} known l f = record { lies = l; small = f.small; formed = subst (λ ar. Formed ar t) (sym known) f.formed }

call_lies : (b : RuleBook) → BookFits b → (call : List ℕ) (c : Pattern) (fs : Fields) → open_call b call ≡ good c fs
    → Lies call 0 (term_fields c)
unfolding open_call
call_lies b fits call c fs e =
    subst (Lies call 0) (call_file_fits b fits call c fs (unfold open_call in e)).1
    (lies_opened call_place (a_call (arity_in b.arities)) call e).lies

where_opened : (o : Opened Pattern) (f : Pattern → Reply) {c : Pattern} {fs : Fields} → o ≡ good c fs → f c ≡ where_good denied o f
where_opened o f e = rw e

module _ {book certificate call : List ℕ} {at α : ℕ} {o : Opening} (C : CallOpened book call o) where
  pub call_shut : {r : Refusal} → o ≡ Err r → AsksCall book certificate call at α (Err r)
  unfolding paper_coverage
  call_shut {r} e = record {
    told = λ b fs h t l. let s = opening_shut nothing (open_call b call) (C.told b fs h) e in rw s;
  }

  pub call_searched : {v n k : ℕ} {w after : List ℕ} {s : Option ℕ} {r : Result ℕ Refusal} → o ≡ Ok (record { value = v; fields = n; bits = k })
      → Searches book certificate call at α w after s → paper_coverage r ≡ told_index (index_found s)
      → AsksCall book certificate call at α r
  call_searched e S q = record {
    told = λ b fs h t l.
        let g = opening_good nothing (open_call b call) (C.told b fs h) e in
        let known = book_arities book h in
        let fits = (book_lies h).fits in
        let f = (call_file_fits b fits call g.tree g.fields g.is).0 in
        let found =
        S.told t g.tree (term_at known l.lies l.fits)
        (term_at known (call_lies b fits call g.tree g.fields g.is) f) (is_call f) in
        q
        ∙ ap told_index (found ∙ ap (λ ar. covering ar t α g.tree) known)
        ∙ where_opened (open_call b call) (λ c. told_index (covering (arity_in b.arities) t α c)) g.is;
  }

-- ---- the accepted certificate

module _ {book certificate work : List ℕ} {a : Acceptance} (h : Ready book certificate work a) where
  acceptable : Acceptable book certificate WORDS a.line (paper_pace a)
  unfolding paper_verdict
  acceptable =
      (accepts_exactly_when book certificate h.book_bytes h.certificate_bytes WORDS a.line (paper_pace a)).0
      (table_enough book certificate WORDS (omega arith) ∙ sym h.verdict)

  -- its line has a word in the table, and its start has 12 bits
  pub line_small : a.line < 256
  line_small =
      let l = acceptable.certificate_file.limits in
      omega (arith, acceptable.own_line, l.closing.line, l.count)

  pub start_small : a.alpha ≤ 4095
  unfolding paper_pace
  start_small =
      let e : a.alpha ≡ acceptable.tree.closing.pace.α = ap (λ (p : Pace). p.α) acceptable.own_pace in
      omega (arith, e, acceptable.certificate_file.limits.closing.pace)

  pub accepted_asked : {call : List ℕ} {at α : ℕ} {r : Result ℕ Refusal} → at ≡ get_or work (LEFTS + a.line) 0 → α ≡ a.alpha
      → AsksCall book certificate call at α r → paper_coverage r ≡ asking_accepted book certificate call a.line (paper_pace a)
  unfolding paper_verdict paper_pace
  accepted_asked {call} {at} {α} {r} e f A =
      let x = acceptable in
      let n = named_claim x in
      let opened = book_opens book x.rule_book x.book_file in
      let beside = certificate_opens x.rule_book x.book_file.limits certificate x.tree x.certificate_file in
      let lies = h.placed.left a.line (paper_pace a) refl x.rule_book _ opened x.tree _ beside n.0 n.1 in
      A.told x.rule_book _ opened n.0.left (subst (λ k. LeftAt certificate x.rule_book.arities k n.0.left) (sym e) lies)
      ∙ ap (λ (k : ℕ). where_good denied (open_call x.rule_book call) λ c. told_index (covering (arity_in x.rule_book.arities) n.0.left k c)) f
      ∙ call_placed book certificate call a.line (paper_pace a) x.rule_book _ opened x.tree _ beside n.0 n.1

-- ---- the verdict

module _ (book certificate call : List ℕ) {v : Result Acceptance Refusal} {j : Ruling Pace} (told : paper_verdict v ≡ j) where
  pub refused_asked : {r : Refusal} → v ≡ Err r → paper_coverage (Err r) ≡ asking_judged book certificate call j
  unfolding paper_verdict paper_coverage asking_judged
  refused_asked e = ap (asking_judged book certificate call) (ap paper_verdict (sym e) ∙ told)

  pub accepted_judged : {a : Acceptance} (r : Result ℕ Refusal) → v ≡ Ok a
      → paper_coverage r ≡ asking_accepted book certificate call a.line (paper_pace a) → paper_coverage r ≡ asking_judged book certificate call j
  unfolding paper_verdict asking_judged
  accepted_judged r e q = q ∙ ap (asking_judged book certificate call) (ap paper_verdict (sym e) ∙ told)

pub accepted_ready : {book certificate work : List ℕ} {v : Result Acceptance Refusal} {a : Acceptance} → Bytes book → Bytes certificate
    → paper_verdict v ≡ judging_files book certificate → Placed book certificate work v → v ≡ Ok a → Ready book certificate work a
accepted_ready {book} {certificate} {work} x y told placed e = record {
  book_bytes = x;
  certificate_bytes = y;
  verdict = ap paper_verdict (sym e) ∙ told;
  placed = subst (Placed book certificate work) e placed;
}

-- ---- the table

-- refusal 1 for a short table, and else what is answered on it
pub table_asked : (book certificate call : List ℕ) (size : ℕ)
    → cond (ltb size WORDS) (denied (refusal_at 1 neither_place 0)) (asking_judged book certificate call (judging_files book certificate))
    ≡ asking book certificate call size
unfolding asking asking_judged judging
table_asked book certificate call size = go (ltb size WORDS)
  where
    go : (t : Bool) → cond t (denied (refusal_at 1 neither_place 0)) (asking_judged book certificate call (judging_files book certificate))
        ≡ asking_judged book certificate call (cond t refusal_one (judging_files book certificate))
    go true = refl
    go false = refl
