-- A certificate or a call beside its book: the arities that are looked up in the book's bytes, and the calls that were noted.
use Rattle.std.specs.Prelude.{Ok}
use Prim.Native.Nat.{ℕ, ◌<◌}
use mathlib.Core.Path.{◌≡◌, sym, ◌∙◌, ap, subst, fun_ext}
use mathlib.Core.List.{List, []}
use mathlib.Core.Bool.{false}
use native.Mathlib.Omega.{arith}
use lib.ListN.{length, take, length-map}
use Rattle.patterns.specs.Reason.{book_place}
use Rattle.fields.specs.declared.Walker.{Walker}
use Rattle.fields.specs.Source.{Walk}
use Rattle.fields.specs.Source.{Source, source, start}
use Rattle.fields.specs.Grammar.{outcome}
use Rattle.fields.specs.Grammar.Outcome.{ok}
use Rattle.fields.specs.Run.{Ran}
use Rattle.fields.proofs.Binds.{bind_parts}
use Rattle.fields.proofs.Sinks.{run_ok}
use Rattle.grammar.specs.Books.{RuleBook, arity_in, a_signature, a_rule_list, a_book}
use Rattle.grammar.specs.Calls.{a_call}
use Rattle.grammar.specs.Certificates.{a_certificate}
use Rattle.grammar.specs.Limits.{call_counts}
use Rattle.terms.proofs.Arities.{in_bytes_only}
use Rattle.terms.specs.Arity.{arity_at}
use Rattle.terms.specs.Values.{nothing}
use Rattle.books.proofs.Lookup.{arity_known}
use Rattle.layout.specs.Openings.{Opening}
use Rattle.layout.specs.Files.{good, certificate_of, open_book}
use Rattle.layout.specs.Openings.{BookOpened, Beside}
use Rattle.layout.proofs.Answering.{opening_good}
use Rattle.layout.proofs.Opens.{in_bytes, book_fits}

-- the part of the notes that a good book fills
module _ {s counts : List ℕ} {r : Opening} {m n k : ℕ} (h : BookOpened s r counts) (e : r ≡ Ok (record { value = m; fields = n; bits = k })) where
  pub few_rules : m < 256
  few_rules =
      let g = opening_good _ _ h.told e in
      subst (λ j. j < 256) g.value (book_fits s g.is).count

  pub is_beside : {part : List ℕ} → part ≡ take m counts → Beside s part
  is_beside p =
      let g = opening_good _ _ h.told e in
      record {
        tree = g.tree;
        fields = g.fields;
        opened = g.is;
        counted = p ∙ ap (λ j. take j counts) (sym g.value) ∙ h.noted g.tree g.fields g.is;
      }

-- the arities of a book that was read
book_arities : (s : List ℕ) (b : RuleBook) (d : Walker) → outcome (source s []) a_book (start false) ≡ ok b d
    → (λ f. arity_at s [] false f) ≡ arity_in b.arities
unfolding a_book outcome
book_arities s b d e =
    let x = bind_parts (source s []) a_signature _ (start false) e in
    let y = bind_parts (source s []) (a_rule_list (arity_in x.tree)) _ x.between x.second in
    arity_known s [] false [] [] x.tree _ (run_ok (source s []) a_signature (start false) [] [] x.first)
    ∙ ap (λ (c : RuleBook). arity_in c.arities) (same x.tree y.second)
  where
    same : (ars : List ℕ) {rs : _} {c : Walker} → ok (record { arities = ars; rules = rs }) c ≡ ok b d
        → record { arities = ars; rules = rs } ≡ b
    same ars q = cc

module _ (book l : List ℕ) {b : RuleBook} {fs : List (ℕ × ℕ)} (opened : open_book book ≡ good b fs) where
  opened_arities : (λ f. arity_at book l false f) ≡ arity_in b.arities
  unfolding open_book
  opened_arities =
      let x = in_bytes book_place a_book book opened in
      fun_ext (in_bytes_only book l) ∙ book_arities book b x.end x.found

  -- so the code walks the call's own grammar
  pub call_ran : {src : Source} {c : Walker} {ws bs ws₁ bs₁ : List ℕ} {r : Walk}
      → Ran src (a_call (λ f. arity_at book l false f)) c ws bs nothing r ws₁ bs₁
      → Ran src (a_call (arity_in b.arities)) c ws bs nothing r ws₁ bs₁
  call_ran {src} {c} {ws} {bs} {ws₁} {bs₁} {r} k = subst (λ ar. Ran src (a_call ar) c ws bs nothing r ws₁ bs₁) opened_arities k

module _ (book l counts : List ℕ) (h : Beside book counts) where
  pub arities_known : (λ f. arity_at book l false f) ≡ arity_in h.tree.arities
  arities_known = opened_arities book l h.opened

  pub few_counts : length counts < 256
  unfolding call_counts
  few_counts =
      let f = (book_fits book h.opened).count in
      let e : length (call_counts h.tree.rules) ≡ length h.tree.rules = length-map h.tree.rules _ in
      rw h.counted (omega arith)

  -- and the certificate's
  pub beside_ran : {src : Source} {c : Walker} {ws bs ws₁ bs₁ : List ℕ} {r : Walk}
      → Ran src (a_certificate (λ f. arity_at book l false f) counts) c ws bs nothing r ws₁ bs₁
      → Ran src (certificate_of h.tree) c ws bs nothing r ws₁ bs₁
  unfolding certificate_of
  beside_ran {src} {c} {ws} {bs} {ws₁} {bs₁} {r} k =
      subst (λ ar. Ran src (a_certificate ar (call_counts h.tree.rules)) c ws bs nothing r ws₁ bs₁) arities_known
      (subst (λ ms. Ran src (a_certificate (λ f. arity_at book l false f) ms) c ws bs nothing r ws₁ bs₁) h.counted k)
