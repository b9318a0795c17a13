-- The head that one view tells is what is asked for where the scanner stands.
use Rattle.std.specs.Prelude.{Result, Ok, Err}
use Prim.Native.Nat.{ℕ}
use mathlib.Core.Path.{◌≡◌, sym, subst}
use Rattle.bits.specs.declared.Cursor.{Cursor}
use Rattle.fields.specs.Grammar.{Grammar}
use Rattle.fields.specs.Along.{Comes}
use Rattle.grammar.specs.Terms.{Grown}
use Rattle.terms.specs.declared.heads.Head.{Head}
use Rattle.terms.specs.Headings.{HeadAt}
use Rattle.terms.specs.Headings.{Heading as Heads}
use Rattle.terms.specs.Headings.{Heading as heads}
use Rattle.scans.specs.declared.Scanner.{Scanner}
use Rattle.scans.specs.Scanning.{scanning}
use Rattle.scans.specs.Glance.{Scans}
use Rattle.scans.specs.Headings.{Found, Heading, NodeAt}
use Rattle.scans.specs.Headings.{Heading as heading}
use Rattle.scans.proofs.Scanners.{at_cursor, scanner_scans, scans_scanner, scanner_stays}

-- what was found, and where the scanner stands then
abbrev head_of : Found → Result Head ℕ
head_of (Ok (h, d)) = Ok h
head_of (Err (m, d)) = Err m

abbrev place_of : Scanner → Found → Scanner
place_of x (Ok (h, d)) = at_cursor x d
place_of x (Err (m, d)) = at_cursor x d

-- a walk from a place that the scanner came to leads on
onward : {A B : Type 0} {q : Grammar B} {p : Grammar A} {x : Scanner} {d : Cursor} {val₁ : B → ℕ} {val : A → ℕ}
    → ((s : _) → Scans x.s.now q d val₁ s → Scans x.s.now p x.cursor val s)
    → (r : Result ℕ ℕ) (z : Scanner) → Comes scanning q (at_cursor x d) val₁ r z → Comes scanning p x val r z
onward {p = p} {x = x} {val = val} lead r z h =
    subst (λ y. Comes scanning p x val r y) (sym (scanner_stays h)) (scans_scanner r z.cursor (lead _ (scanner_scans h)))

heading_at : {p : Grammar Grown} {x : Scanner} {term : ℕ → ℕ → Grammar Grown} {rest : ℕ} (f : Found) → Heading x.s.now p x.cursor term rest f
    → Heads scanning p x term rest (place_of x f) (head_of f)
heading_at f (heading.refused h) = heads.refused (scans_scanner (Err _) _ h)
heading_at f (heading.variable h) = heads.variable (scans_scanner (Ok _) _ h)
heading_at f (heading.applied n h) = heads.applied n (onward h)
heading_at f (heading.raised h) = heads.raised (onward h)

heading_to : {p : Grammar Grown} {x : Scanner} {term : ℕ → ℕ → Grammar Grown} {rest : ℕ} {f g : Found} → f ≡ g → Heading x.s.now p x.cursor term rest f
    → Heads scanning p x term rest (place_of x g) (head_of g)
heading_to {p} {x} {term} {rest} {g = g} e h = heading_at g (subst (Heading x.s.now p x.cursor term rest) e h)

module _ {x : Scanner} {ar : ℕ → ℕ} {end least above : ℕ} {f : Found} (N : NodeAt x.s.now ar end least above x.cursor f) where
  pub head_in : {h : Head} {d : Cursor} → f ≡ Ok (h, d) → HeadAt scanning ar end least above x (Ok h) (at_cursor x d)
  head_in e = record { told = λ left some term. heading_to e (N.told left some term) }

  pub head_no : {m : ℕ} {d : Cursor} → f ≡ Err (m, d) → HeadAt scanning ar end least above x (Err m) (at_cursor x d)
  head_no e = record { told = λ left some term. heading_to e (N.told left some term) }
