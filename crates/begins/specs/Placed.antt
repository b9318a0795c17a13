-- Rules and claims that lie in a file.
use Rattle.std.specs.Prelude.{ℕ, ◌+◌, ◌≤◌, ◌≡◌, length, get_or}
use mathlib.Core.List.{List, flat_map}
use Rattle.std.proofs.Math.Option.{some}
use Rattle.std.proofs.Math.ListN.{get_elem?}
use Rattle.bits.specs.Packed.{width}
use Rattle.patterns.specs.First.{Exp, Pattern}
use Rattle.patterns.specs.Every.{Every}
use Rattle.patterns.specs.Derive.{Rule, Book}
use Rattle.patterns.specs.Certificate.{Mark, Claim}
use Rattle.patterns.specs.Checks.{OnMark}
use Rattle.grammar.specs.Books.{RuleBook}
use Rattle.grammar.specs.Listing.{if_any, term_fields, rule_fields, book_fields}
use Rattle.grammar.specs.Limits.{TermFits, RootFits, RuleFits, BookFits}
use Rattle.table.specs.Places.{RULES, ROWS}
use Rattle.table.specs.Sides.{Kept}
use Rattle.instances.specs.Lying.{Lies, KnownArities}

-- the answer is where the n terms at a bit end
pub record Passes (book s : List ℕ) (at n r : ℕ) : Type 0 where
  pub told : (ars : List ℕ) (ts : List Pattern) → KnownArities book ars → length ts ≡ n → Every (RootFits ars) ts
      → Lies s at (flat_map term_fields ts) → r ≡ at + width (flat_map term_fields ts)

-- a rule lies at a bit of the book
pub record RuleAt (book ars : List ℕ) (at : ℕ) (r : Rule Exp) : Type 0 where
  pub lies : Lies book at (rule_fields r)
  pub fits : RuleFits ars r

-- the calls of a rule from part j on lie at a bit of the book; the rule has `count`
pub record CallsAt (book ars : List ℕ) (at : ℕ) (vs : List Pattern) (j count : ℕ) : Type 0 where
  pub lies : Lies book at (flat_map term_fields vs)
  pub fits : Every (RootFits ars) vs
  pub counted : count + 1 ≡ j + length vs
  pub first : 1 ≤ j
  pub few : count ≤ 8

-- the answer is where the rule at a bit ends
pub record PassesRule (book : List ℕ) (at r : ℕ) : Type 0 where
  pub told : (ars : List ℕ) (u : Rule Exp) → KnownArities book ars → RuleAt book ars at u → r ≡ at + width (rule_fields u)

-- what stands right of the arrow lies at a bit of the certificate
pub record RightAt (cert ars : List ℕ) (at : ℕ) (m : Mark Exp) : Type 0 where
  pub lies : Lies cert at (if_any term_fields m)
  pub fits : OnMark (TermFits ars 4096) m

-- the answer is where it ends
pub record PassesRight (book cert : List ℕ) (at r : ℕ) : Type 0 where
  pub told : (ars : List ℕ) (m : Mark Exp) → KnownArities book ars → RightAt cert ars at m → r ≡ at + width (if_any term_fields m)

-- a term of the certificate lies at a bit
pub record LeftAt (cert ars : List ℕ) (at : ℕ) (t : Pattern) : Type 0 where
  pub lies : Lies cert at (term_fields t)
  pub fits : TermFits ars 4096 t

-- both sides of a claim lie at bits of the certificate
pub record ClaimAt (cert ars : List ℕ) (left right : ℕ) (c : Claim Exp) : Type 0 where
  pub left_at : LeftAt cert ars left c.left
  pub right_at : RightAt cert ars right c.right

-- every rule's begin, of those that lie at a bit, stands in the table from k on
pub record NotesRules (book : List ℕ) (at k n : ℕ) (w after : List ℕ) : Type 0 where
  pub told : (ars : List ℕ) (rs : Book Exp) → KnownArities book ars → length rs ≡ n → Every (RuleFits ars) rs
      → Lies book at (flat_map rule_fields rs) → (i : ℕ) (r : Rule Exp) → get_elem? rs i ≡ some r → RuleAt book ars (get_or after (k + i) 0) r
  pub kept : Kept k n w after

-- and of the whole book from the table's first word on
pub record Indexes (book w after : List ℕ) : Type 0 where
  pub told : (b : RuleBook) → KnownArities book b.arities → BookFits b → Lies book 0 (book_fields b)
      → (i : ℕ) (r : Rule Exp) → get_elem? b.rules i ≡ some r → RuleAt book b.arities (get_or after i 0) r
  pub kept : Kept RULES ROWS w after
