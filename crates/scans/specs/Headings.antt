-- What the head of a node comes to, read from one view of the file's bytes: where the node is refused or ends, or what is asked for behind it.
use Rattle.std.specs.Prelude.{ℕ, ◌+◌, ◌-◌, ◌≤◌, ◌≡◌, ◌≢◌, List, Result, Ok, Err}
use Rattle.bits.specs.Bits.{room_of}
use Rattle.bits.specs.View.{Views}
use Rattle.bits.specs.declared.Cursor.{Cursor}
use Rattle.fields.specs.Kinds.{node}
use Rattle.fields.specs.Kinds.{FieldKind as kind}
use Rattle.fields.specs.Grammar.{Grammar, bind, field}
use Rattle.grammar.specs.Terms.{Grown, args_of, an_applied, a_raised, a_node}
use Rattle.terms.specs.Values.{left_of, left_of_all}
use Rattle.scans.specs.Glance.{Scan}
use Rattle.terms.specs.declared.heads.Head.{Head}
use Rattle.terms.specs.declared.heads.Head.TheVariants.{Leaf, Applied, Raised}
use Rattle.scans.specs.Glance.{Scans}

-- what stands at the head of a node, with the cursor past it; or the number of a refusal, with the cursor where it is given
abbrev pub Found : Type 0
Found = Result (Head × Cursor) (ℕ × Cursor)

-- p asks at c for a node, or for what is behind its tag; `term above left` asks for a term below the node, and `rest` nodes are allowed there
pub data Heading (s : List ℕ) (p : Grammar Grown) (c : Cursor) (term : ℕ → ℕ → Grammar Grown) (rest : ℕ) : Found → Type 0 where
  refused : {m : ℕ} {d : Cursor} → Scans s p c left_of (Err (m, d)) → Heading s p c term rest (Err (m, d))
  variable : {d : Cursor} → Scans s p c left_of (Ok (rest, d)) → Heading s p c term rest (Ok (Leaf, d))
  -- what the arguments come to, the whole comes to
  applied : {n : ℕ} {d : Cursor} → n ≤ 8 → ((x : Scan) → Scans s (args_of (term 256) n rest) d left_of_all x → Scans s p c left_of x)
      → Heading s p c term rest (Ok (Applied n, d))
  -- what the term below the power comes to, the whole comes to
  raised : {f : ℕ} {d : Cursor} → ((x : Scan) → Scans s (term f rest) d left_of x → Scans s p c left_of x)
      → Heading s p c term rest (Ok (Raised f, d))

-- x is the view at a bit, from which on there are `left` bits: what the symbol behind a tag of 1 comes to
pub record SymbolAt (ar : ℕ → ℕ) (x at left : ℕ) (r : Found) : Type 0 where
  pub told : (s : List ℕ) → Views s at x → at + left ≡ room_of s → (term : ℕ → ℕ → Grammar Grown) (rest : ℕ)
      → Heading s (an_applied term ar rest) (record { at = at + 2 }) term rest r

-- the same of the power behind a tag of 2
pub record PowerAt (ar : ℕ → ℕ) (end above x at left : ℕ) (r : Found) : Type 0 where
  pub told : (s : List ℕ) → Views s at x → at + left ≡ room_of s → (term : ℕ → ℕ → Grammar Grown) (rest : ℕ)
      → Heading s (a_raised term ar end above rest) (record { at = at + 2 }) term rest r

-- what a node comes to, where one is allowed
pub record NodeAt (s : List ℕ) (ar : ℕ → ℕ) (end least above : ℕ) (c : Cursor) (r : Found) : Type 0 where
  pub told : (left : ℕ) → left ≢ 0 → (term : ℕ → ℕ → Grammar Grown)
      → Heading s (bind (field kind.tag (node least left)) (a_node term ar end above (left - 1))) c term (left - 1) r
