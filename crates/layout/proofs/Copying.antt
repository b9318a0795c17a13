-- A copier at a file's first field: the arities that it is given are those that it reads, and what its walk notes is what a run notes.
use Prim.Native.Nat.{ℕ}
use mathlib.Core.Path.{◌≡◌, sym, ◌∙◌, ap}
use mathlib.Core.List.{List, []}
use mathlib.Core.Bool.{Bool, true, false}
use Rattle.fields.specs.declared.copier.Copier.{Copier}
use Rattle.fields.specs.Source.{source, start, field_at}
use Rattle.fields.specs.Run.{state, run}
use Rattle.fields.specs.Run.Result.{ok as ok_run}
use Rattle.fields.specs.Along.{along}
use Rattle.fields.specs.Along.End.{ok}
use Rattle.fields.specs.Copying.{copying}
use Rattle.fields.proofs.Copies.{state_of, of_end, same_run, run_found}
use Rattle.grammar.specs.Books.{arity_in, a_signature, a_book}
use Rattle.terms.specs.Arity.{number_at, arity_at}
use Rattle.books.specs.Counts.{CountedBook, CountedBookAlong}
use Rattle.books.specs.Whole.{Agrees}
use Rattle.books.proofs.Lookup.{arity_known}

module _ (x : Copier) where
  -- what a copier's walk over a signature finds, a run finds
  read : {ars : List ℕ} {y : Copier} → along copying a_signature x ≡ ok ars y → run (source x.s.now x.l.now) a_signature (state_of x) ≡ ok_run ars (state_of y)
  unfolding of_end
  read q = sym (same_run a_signature x) ∙ ap of_end q

  known : (listed : Bool) → x.at ≡ start listed → {ars : List ℕ} {y : Copier} → along copying a_signature x ≡ ok ars y
      → (λ f. arity_at x.s.now x.l.now listed f) ≡ arity_in ars
  known listed e {ars} {y} q =
      arity_known x.s.now x.l.now listed x.words.now x.bytes.now ars _
      (ap (λ c. run (source x.s.now x.l.now) a_signature (state c x.words.now x.bytes.now)) (sym e) ∙ read q)

  pub agrees_packed : x.at ≡ start false → Agrees copying (λ f. arity_at x.s.now [] false f) x
  unfolding arity_at number_at field_at
  agrees_packed e ars y q = known false e q

  pub agrees_listed : x.at ≡ start true → Agrees copying (λ f. arity_at [] x.l.now true f) x
  unfolding arity_at number_at field_at
  agrees_listed e ars y q = known true e q

  pub counted_book : {before after : List ℕ} → CountedBookAlong copying x before after → CountedBook (source x.s.now x.l.now) (state_of x) before after
  counted_book h = record {
    all = λ b τ e. let f = run_found (along copying a_book x) (same_run a_book x ∙ e) in h.all b f.0 f.1;
  }
