-- The kinds of field in the two files, how many bits each has, and the range of a field: what makes it refused with 4, 5 or 6.
use Rattle.std.specs.Prelude.{ℕ, ◌^◌, ◌≤◌, ◌<◌, ◌≡◌, ◌≢◌, List, Bool, false, cond, get_or, eqb, leb, ltb}
use Rattle.std.proofs.Math.Option.{Option, none, some}

-- 01, "Packed layout": every field of a rule book or a certificate is of one of these kinds
pub data FieldKind : Type 0 where
  -- a rule book
  symbol_count arity rule_count call_count : FieldKind
  -- a term
  tag variable symbol power_symbol power_a power_b : FieldKind
  -- a certificate and its lines
  line_count line_kind right_bit rule stop_number use_bit : FieldKind
  -- a use and a filling
  used_line index_i index_j filling_count filled_variable : FieldKind
  -- the closing
  named_line step_k start_α : FieldKind

-- how many bits a field has
abbrev pub bits : FieldKind → ℕ
bits symbol_count = 8
bits arity = 4
bits rule_count = 8
bits call_count = 4
bits tag = 2
bits variable = 6
bits symbol = 8
bits power_symbol = 8
bits power_a = 12
bits power_b = 12
bits line_count = 8
bits line_kind = 1
bits right_bit = 1
bits rule = 8
bits stop_number = 4
bits use_bit = 1
bits used_line = 8
bits index_i = 12
bits index_j = 12
bits filling_count = 7
bits filled_variable = 6
bits named_line = 8
bits step_k = 12
bits start_α = 12

-- What a field may be. `ar f` is the arity of the symbol f, 16 where there is no such symbol; `ms` lists how many calls each rule has.
pub data Range : Type 0 where
  -- whatever its bits say
  any : Range
  -- from `least` on and below `end`
  from_to : (least end : ℕ) → Range
  -- a symbol of an arity other than 1
  applied : (ar : ℕ → ℕ) → Range
  -- a symbol of arity 1, below a power of the symbol `above`
  unary : (ar : ℕ → ℕ) (above : ℕ) → Range
  -- the number b of a power with this a
  beside : (a : ℕ) → Range
  -- a rule of exactly one call
  one_call : (ms : List ℕ) → Range
  -- a node's tag from `least` on, with `left` nodes still allowed
  node : (least left : ℕ) → Range

-- 01, 4: "a field is outside the range stated above"
unfoldable pub InRange : Range → ℕ → Type 0
InRange any v = Unit {0}
InRange (from_to least end) v = (least ≤ v) × (v < end)
InRange (applied ar) v = (ar v ≢ 1) × (ar v ≤ 8)
InRange (unary ar above) v = ar v ≡ 1
InRange (beside a) v = Unit {0}
InRange (one_call ms) v = get_or ms v 0 ≡ 1
InRange (node least left) v = (least ≤ v) × (v < 3)

-- 01, 5: "a term isn't normal: at the symbol below its like, or at b if a = b = 0"
unfoldable pub Unnormal : Range → ℕ → Type 0
Unnormal any v = ⊥
Unnormal (from_to least end) v = ⊥
Unnormal (applied ar) v = ⊥
Unnormal (unary ar above) v = v ≡ above
Unnormal (beside a) v = (a ≡ 0) × (v ≡ 0)
Unnormal (one_call ms) v = ⊥
Unnormal (node least left) v = ⊥

-- 01, 6: "a 257th node would begin, found before its tag is read"
unfoldable pub Spent : Range → Type 0
Spent any = ⊥
Spent (from_to least end) = ⊥
Spent (applied ar) = ⊥
Spent (unary ar above) = ⊥
Spent (beside a) = ⊥
Spent (one_call ms) = ⊥
Spent (node least left) = left ≡ 0

-- ---- the same, as the code tests it

-- a value from `least` on and below `end`; any other is refused with m
unfoldable pub between : ℕ → ℕ → ℕ → ℕ → Option ℕ
between least end m v = cond (ltb v least) (some m) (cond (ltb v end) none (some m))

-- the number with which a value is refused, if it is
abbrev pub test : Range → ℕ → Option ℕ
test any v = none
test (from_to least end) v = between least end 4 v
test (applied ar) v = cond (eqb (ar v) 1) (some 4) (cond (leb (ar v) 8) none (some 4))
test (unary ar above) v = cond (eqb (ar v) 1) (cond (eqb v above) (some 5) none) (some 4)
test (beside a) v = cond (eqb a 0) (cond (eqb v 0) (some 5) none) none
test (one_call ms) v = cond (eqb (get_or ms v 0) 1) none (some 4)
test (node least left) v = cond (eqb left 0) (some 6) (between least 3 4 v)

-- no node is allowed any more
abbrev pub spent : Range → Bool
spent any = false
spent (from_to least end) = false
spent (applied ar) = false
spent (unary ar above) = false
spent (beside a) = false
spent (one_call ms) = false
spent (node least left) = eqb left 0

-- A field of w bits whose range is told by two bounds, and by one number for what lies outside: what the code's `take` is handed.
pub record Bounded (k : FieldKind) (r : Range) (w least end m : ℕ) : Type 0 where
  pub allowed : spent r ≡ false
  pub wide : bits k ≡ w
  pub told : (v : ℕ) → v < 2 ^ w → test r v ≡ between least end m v
