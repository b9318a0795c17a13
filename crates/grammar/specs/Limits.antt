-- The trees within 01's limits, stated without the grammar.
use Rattle.std.specs.Prelude.{ℕ, ◌+◌, ◌<◌, ◌≤◌, ◌≡◌, List, [], ◌∷◌, map, length}
use Rattle.std.proofs.Math.Option.{Option, none, some}
use Rattle.std.proofs.Math.ListN.{get_elem?}
use Rattle.patterns.specs.Term.{Terms, var, fun, pow, nil, cons, size}
use Rattle.patterns.specs.Normal.{Normal}
use Rattle.patterns.specs.Formed.{Formed}
use Rattle.patterns.specs.Every.{Every}
use Rattle.patterns.specs.Derive.{Rule, Book}
use Rattle.patterns.specs.First.{Exp, Pattern, Pair, Pace, exponents}
use Rattle.patterns.specs.Certificate.{Fills, Claim, Use, Stop, fact, call, LineKind, unfolds, descends, Line, Closing, Certificate}
use Rattle.patterns.specs.Checks.{OnMark}
use Rattle.grammar.specs.Books.{RuleBook, arity_in}

-- 01: "files name only 0 to 63"; "Rule and symbol numbers lie below their counts"; a is below `end`, b has 12 bits
unfoldable mutual
  pub Ranged : ℕ → ℕ → Pattern → Type 0
  Ranged count end (var x) = x < 64
  Ranged count end (fun f ts) = (f < count) × Ranged* count end ts
  Ranged count end (pow s e t) = (s < count) × (e.0 < end) × (e.1 < 4096) × Ranged count end t

  pub Ranged* : ℕ → ℕ → Terms Exp → Type 0
  Ranged* count end nil = Unit {0}
  Ranged* count end (cons t ts) = Ranged count end t × Ranged* count end ts

-- 01: "Terms in files are normal and have at most 256 nodes."
pub record TermFits (arities : List ℕ) (end : ℕ) (t : Pattern) : Type 0 where
  pub normal : Normal exponents t
  pub small : size t ≤ 256
  pub formed : Formed (arity_in arities) t
  pub ranged : Ranged (length arities) end t

-- 01, of heads and calls: "Roots may not be variables", "Powers have a = 0."
unfoldable pub Rooted : Pattern → Type 0
Rooted (var x) = ⊥
Rooted (fun f ts) = Unit {0}
Rooted (pow s e t) = Unit {0}

pub record RootFits (arities : List ℕ) (t : Pattern) : Type 0 where
  pub fits : TermFits arities 1 t
  pub rooted : Rooted t

-- 01: "call count 4 (0 to 8)"
pub record RuleFits (arities : List ℕ) (r : Rule Exp) : Type 0 where
  pub head : RootFits arities r.head
  pub calls : Every (RootFits arities) r.calls
  pub count : length r.calls ≤ 8

-- 01: "Symbols have an arity of 0 to 8"; counts have 8 bits
pub record BookFits (b : RuleBook) : Type 0 where
  pub symbols : length b.arities < 256
  pub arities : Every (λ a. a ≤ 8) b.arities
  pub rules : Every (RuleFits b.arities) b.rules
  pub count : length b.rules < 256

-- how many calls each rule has
unfoldable pub call_counts : Book Exp → List ℕ
call_counts rules = map (λ r. length r.calls) rules

-- 01: "variable 6, strictly rising, and a term"
unfoldable pub Rising : List ℕ → ℕ → Fills Exp → Type 0
Rising arities least [] = Unit {0}
Rising arities least (p ∷ ps) =
    (least ≤ p.0) × (p.0 < 64) × TermFits arities 4096 p.1 × Rising arities (p.0 + 1) ps

-- 01: "count 7 (0 to 64)"
pub record FillsFit (arities : List ℕ) (θ : Fills Exp) : Type 0 where
  pub count : length θ ≤ 64
  pub rising : Rising arities 0 θ

-- 01: "line 8 (earlier than this line), i 12, j 12, filling"
pub record UseFits (arities : List ℕ) (line : ℕ) (u : Use Exp Pair) : Type 0 where
  pub earlier : u.line < line
  pub i : u.index.0 < 4096
  pub j : u.index.1 < 4096
  pub fills : FillsFit arities u.fills

pub record ClaimFits (arities : List ℕ) (c : Claim Exp) : Type 0 where
  pub left : TermFits arities 4096 c.left
  pub right : OnMark (TermFits arities 4096) c.right

unfoldable pub LastFits : List ℕ → ℕ → Option (Use Exp Pair) → Type 0
LastFits arities line none = Unit {0}
LastFits arities line (some u) = UseFits arities line u

-- 01: "If m = 0 then i = 0; else i is 1 to m."
unfoldable pub StopFits : List ℕ → ℕ → ℕ → Stop Exp Pair → Type 0
StopFits arities line m fact = m ≡ 0
StopFits arities line m (call us last) =
    (length us < m) × Every (UseFits arities line) us × LastFits arities line last

-- `ms` lists how many calls each rule has
unfoldable pub KindFits : List ℕ → List ℕ → ℕ → LineKind Exp Pair → Type 0
KindFits arities ms line (unfolds k θ s) =
    (m : ℕ) × (get_elem? ms k ≡ some m) × FillsFit arities θ × StopFits arities line m s
KindFits arities ms line (descends u k θ) = UseFits arities line u × (get_elem? ms k ≡ some 1) × FillsFit arities θ

-- the lines from number `line` on
unfoldable pub LinesFit : List ℕ → List ℕ → ℕ → List (Line Exp Pair) → Type 0
LinesFit arities ms line [] = Unit {0}
LinesFit arities ms line (l ∷ ls) =
    ClaimFits arities l.claim × KindFits arities ms line l.kind × LinesFit arities ms (line + 1) ls

-- 01: "line 8 (below the line count), k 12, α 12 (α + k at most 4,095), filling"
pub record ClosingFits (arities : List ℕ) (count : ℕ) (c : Closing Exp Pace) : Type 0 where
  pub line : c.line < count
  pub pace : c.pace.α + c.pace.k ≤ 4095
  pub fills : FillsFit arities c.fills

pub record CertificateFits (b : RuleBook) (K : Certificate Exp Pair Pace) : Type 0 where
  pub count : length K.lines < 256
  pub lines : LinesFit b.arities (call_counts b.rules) 0 K.lines
  pub closing : ClosingFits b.arities (length K.lines) K.closing
