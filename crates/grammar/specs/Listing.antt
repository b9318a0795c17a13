-- The fields of a tree in file order, each a width and a value. 01, "Packed layout".
use Rattle.std.specs.Prelude.{ℕ, suc, length}
use mathlib.Core.List.{List, [], ◌∷◌, ◌++◌, flat_map}
use Rattle.std.proofs.Math.Option.{Option, none, some}
use Rattle.patterns.specs.Term.{Terms, var, fun, pow, nil, cons}
use Rattle.patterns.specs.First.{Exp, Pattern, Pair, Pace}
use Rattle.patterns.specs.Derive.{Rule}
use Rattle.patterns.specs.Certificate.{Fills, Claim, Use, Stop, fact, call, LineKind, unfolds, descends, Line, Closing, Certificate}
use Rattle.grammar.specs.Books.{RuleBook}

abbrev pub Fields : Type 0
Fields = List (ℕ × ℕ)

-- 01: "a bit that says whether a right term follows"; "one bit, and a use if it is 1"
unfoldable pub if_any : {A : Type 0} → (A → Fields) → Option A → Fields
if_any f none = (1, 0) ∷ []
if_any f (some a) = (1, 1) ∷ f a

-- 01: "Tag 0: variable, 6 bits. Tag 1: symbol, 8 bits [..]. Tag 2: power, symbol 8 bits [..], a 12 bits, b 12 bits."
unfoldable mutual
  pub term_fields : Pattern → Fields
  term_fields (var x) = (2, 0) ∷ (6, x) ∷ []
  term_fields (fun f ts) = (2, 1) ∷ (8, f) ∷ terms_fields ts
  term_fields (pow s e t) = (2, 2) ∷ (8, s) ∷ (12, e.0) ∷ (12, e.1) ∷ term_fields t

  pub terms_fields : Terms Exp → Fields
  terms_fields nil = []
  terms_fields (cons t ts) = term_fields t ++ terms_fields ts

-- 01: "Filling: count 7 (0 to 64), then variable 6, strictly rising, and a term."
unfoldable pub pair_fields : ℕ × Pattern → Fields
pair_fields p = (6, p.0) ∷ term_fields p.1

unfoldable pub filling_fields : Fills Exp → Fields
filling_fields θ = (7, length θ) ∷ flat_map pair_fields θ

-- 01: "symbol count 8 bits; each arity 4"
unfoldable pub arity_fields : ℕ → Fields
arity_fields a = (4, a) ∷ []

unfoldable pub signature_fields : List ℕ → Fields
signature_fields arities = (8, length arities) ∷ flat_map arity_fields arities

-- 01: "each rule: call count 4 (0 to 8), head, calls"
unfoldable pub rule_fields : Rule Exp → Fields
rule_fields r = (4, length r.calls) ∷ term_fields r.head ++ flat_map term_fields r.calls

-- 01: "rule count 8"
unfoldable pub book_fields : RuleBook → Fields
book_fields b = signature_fields b.arities ++ ((8, length b.rules) ∷ flat_map rule_fields b.rules)

-- 01: "left; a bit that says whether a right term follows (0 is the empty mark); the right term"
unfoldable pub claim_fields : Claim Exp → Fields
claim_fields c = term_fields c.left ++ if_any term_fields c.right

-- 01: "Use: line 8 (earlier than this line), i 12, j 12, filling."
unfoldable pub use_fields : Use Exp Pair → Fields
use_fields u = (8, u.line) ∷ (12, u.index.0) ∷ (12, u.index.1) ∷ filling_fields u.fills

-- 01, of an unfold: "rule 8, i 4, filling, a use for each j < i, then, if i is not 0, one bit, and a use if it is 1"
unfoldable pub stop_number : Stop Exp Pair → ℕ
stop_number fact = 0
stop_number (call us last) = suc (length us)

unfoldable pub stop_fields : Stop Exp Pair → Fields
stop_fields fact = []
stop_fields (call us last) = flat_map use_fields us ++ if_any use_fields last

-- 01: "Descent: use, rule 8 (one of exactly one call), filling."
unfoldable pub kind_fields : LineKind Exp Pair → Fields
kind_fields (unfolds k θ s) = (8, k) ∷ (4, stop_number s) ∷ filling_fields θ ++ stop_fields s
kind_fields (descends u k θ) = use_fields u ++ ((8, k) ∷ filling_fields θ)

-- 01: "kind 1 bit (0 unfold, 1 descent)"
unfoldable pub kind_number : LineKind Exp Pair → ℕ
kind_number (unfolds k θ s) = 0
kind_number (descends u k θ) = 1

unfoldable pub line_fields : Line Exp Pair → Fields
line_fields l = (1, kind_number l.kind) ∷ claim_fields l.claim ++ kind_fields l.kind

-- 01: "Closing: line 8 (below the line count), k 12, α 12 (α + k at most 4,095), filling."
unfoldable pub closing_fields : Closing Exp Pace → Fields
closing_fields c = (8, c.line) ∷ (12, c.pace.k) ∷ (12, c.pace.α) ∷ filling_fields c.fills

-- 01: "Certificate: line count 8; lines; closing."
unfoldable pub certificate_fields : Certificate Exp Pair Pace → Fields
certificate_fields K = (8, length K.lines) ∷ flat_map line_fields K.lines ++ closing_fields K.closing
