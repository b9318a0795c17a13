-- What a loop over rules keeps of the numbers that it notes: if those of the rules left are noted behind them, all are.
use Rattle.std.specs.Prelude.{Result, Ok, Err}
use Prim.Native.Nat.{ℕ, ◌+◌}
use mathlib.Core.Path.{◌≡◌}
use mathlib.Core.List.{List}
use lib.ListN.{set}
use Rattle.patterns.specs.First.{Exp}
use Rattle.patterns.specs.Derive.{Book}
use Rattle.fields.specs.Grammar.{Grammar}
use Rattle.fields.specs.Along.{Steps, Comes}
use Rattle.grammar.specs.Books.{a_rule, rules_of}
use Rattle.books.specs.Counts.{calls_of, CountedAlong}
use Rattle.books.proofs.Counting.{counted_none, counted_no, counted_more}

-- `p` at x with cs, its first place k, leads to `q` at y with ds, its first place j
pub record NotesCalls {S : Type 0} (st : Steps S) (p : Grammar (Book Exp)) (x : S) (k : ℕ) (cs : List ℕ) (q : Grammar (Book Exp)) (y : S) (j : ℕ) (ds : List ℕ) : Type 0 where
  pub whole : {after : List ℕ} → CountedAlong st q y j ds after → CountedAlong st p x k cs after

pub notes_here : {S : Type 0} {st : Steps S} {p : Grammar (Book Exp)} {x : S} {k : ℕ} {cs : List ℕ} → NotesCalls st p x k cs p x k cs
notes_here = record { whole = λ h. h }

-- n rules are left, from number j on
module _ {S : Type 0} {st : Steps S} (ar : ℕ → ℕ) {p : Grammar (Book Exp)} {x : S} {k : ℕ} {cs : List ℕ} (n j : ℕ) {y : S} {ds : List ℕ} (N : NotesCalls st p x k cs (rules_of ar n) y j ds) where
  pub notes_end : n ≡ 0 → CountedAlong st p x k cs ds
  notes_end h = N.whole (counted_none ar n j h)

  module _ (m : ℕ) (some : n ≡ m + 1) {r : Result ℕ ℕ} {z : S} (first : Comes st (a_rule ar) y calls_of r z) where
    pub notes_no : {i : ℕ} → r ≡ Err i → CountedAlong st p x k cs ds
    notes_no e = N.whole (counted_no ar n j m some first e)

    pub notes_on : {v : ℕ} {es : List ℕ} → r ≡ Ok v → es ≡ set ds j v → NotesCalls st p x k cs (rules_of ar m) z (j + 1) es
    notes_on e s = record { whole = λ h. N.whole (counted_more ar n j m some first e s h) }
