-- A whole book: its rules are walked with the arities that its signature tells.
use Prim.Native.Nat.{ℕ}
use mathlib.Core.Path.{◌≡◌, sym, ◌∙◌, ap}
use mathlib.Core.List.{List, []}
use mathlib.Core.Bool.{false}
use Rattle.bits.specs.declared.Cursor.{Cursor}
use Rattle.fields.specs.Source.{source, start}
use Rattle.fields.proofs.Sinks.{run_ok}
use Rattle.grammar.specs.Books.{arity_in, a_signature, a_book}
use Rattle.terms.specs.Arity.{arity_at}
use Rattle.books.specs.Counts.{CountedBookAlong}
use Rattle.books.specs.Whole.{Agrees}
use Rattle.books.proofs.Lookup.{arity_known}
use Rattle.scans.specs.declared.Scanner.{Scanner}
use Rattle.scans.specs.Scanning.{scanning}
use Rattle.scans.specs.Glance.{first_bit, glance}
use Rattle.scans.specs.Glance.Glance.{ok as ok_glance}
use Rattle.scans.specs.Counts.{CountedBook}
use Rattle.scans.proofs.Joins.{found_at}
use Rattle.scans.proofs.Scanners.{of_end, same_glance, as_end, same_end, at_cursor}

known : (s ars : List ℕ) (d : Cursor) → glance s a_signature first_bit ≡ ok_glance ars d → (λ f. arity_at s [] false f) ≡ arity_in ars
known s ars d e =
    let x = found_at s a_signature first_bit e in
    arity_known s [] false [] [] ars _ (run_ok (source s []) a_signature (start false) [] [] x.1)

-- a scanner at a file's first bit
abbrev at_first : Scanner → Scanner
at_first x = at_cursor x first_bit

pub agrees : (x : Scanner) → Agrees scanning (λ f. arity_at x.s.now [] false f) (at_first x)
unfolding of_end
agrees x ars y e = known x.s.now ars y.cursor (sym (same_glance a_signature (at_first x)) ∙ ap of_end e)

pub counted_book : (x : Scanner) {before after : List ℕ} → CountedBookAlong scanning (at_first x) before after → CountedBook x.s.now before after
unfolding as_end
counted_book x h = record { all = λ b d e. h.all b _ (same_end a_book (at_first x) ∙ ap (as_end (at_first x)) e) }
