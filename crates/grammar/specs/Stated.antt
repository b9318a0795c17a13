-- 01's "Packed layout", and 02's call, as a table: the range that is stated for each kind of field. What a range is refused with, and when, is told by
-- `InRange` (4), `Unnormal` (5) and `Spent` (6) in `fields/specs/Kinds`; 3 can be given at every field.
use Rattle.std.specs.Prelude.{ℕ, ◌+◌, ◌-◌, min, List}
use Rattle.fields.specs.Kinds.{FieldKind, Range, any, from_to, applied, unary, beside, one_call, node}
use Rattle.fields.specs.Kinds.{FieldKind as kind}

pub data Stated : FieldKind → Range → Type 0 where
  -- "symbol count 8 bits; each arity 4"; "an arity of 0 to 8"
  symbol_count : Stated kind.symbol_count any
  arity : Stated kind.arity (from_to 0 9)
  -- "rule count 8; each rule: call count 4 (0 to 8)"
  rule_count : Stated kind.rule_count any
  call_count : Stated kind.call_count (from_to 0 9)
  -- "a 2-bit tag for each node"; "Tag 3 is refused"; from 1 on at the roots of rules: "Roots may not be variables (4 at the tag)"
  tag : {left : ℕ} → Stated kind.tag (node 0 left)
  root_tag : {left : ℕ} → Stated kind.tag (node 1 left)
  -- "Tag 0: variable, 6 bits. Tag 1: symbol, 8 bits, arity not 1. Tag 2: power, symbol 8 bits of arity 1, a 12 bits, b 12 bits."
  variable : Stated kind.variable any
  symbol : {ar : ℕ → ℕ} → Stated kind.symbol (applied ar)
  power_symbol : {ar : ℕ → ℕ} {above : ℕ} → Stated kind.power_symbol (unary ar above)
  power_a : Stated kind.power_a (from_to 0 4096)
  -- in rules: "Powers have a = 0."; in a call (02, Ticket 1): "a above 0 is 4"
  rule_power_a : Stated kind.power_a (from_to 0 1)
  power_b : {a : ℕ} → Stated kind.power_b (beside a)
  -- "Certificate: line count 8"; "Line: kind 1 bit [..]; a bit that says whether a right term follows"
  line_count : Stated kind.line_count any
  line_kind : Stated kind.line_kind any
  right_bit : Stated kind.right_bit any
  -- "Unfold: rule 8, i 4, [..] one bit"; "If m = 0 then i = 0; else i is 1 to m."
  rule : {count : ℕ} → Stated kind.rule (from_to 0 count)
  stop_number : (m : ℕ) → Stated kind.stop_number (from_to (min m 1) (m + 1))
  use_bit : Stated kind.use_bit any
  -- "Descent: [..] rule 8 (one of exactly one call)"
  descent_rule : {ms : List ℕ} → Stated kind.rule (one_call ms)
  -- "Use: line 8 (earlier than this line), i 12, j 12"
  used_line : {line : ℕ} → Stated kind.used_line (from_to 0 line)
  index_i : Stated kind.index_i any
  index_j : Stated kind.index_j any
  -- "Filling: count 7 (0 to 64), then variable 6, strictly rising"
  filling_count : Stated kind.filling_count (from_to 0 65)
  filled_variable : {least : ℕ} → Stated kind.filled_variable (from_to least 64)
  -- "Closing: line 8 (below the line count), k 12, α 12 (α + k at most 4,095)"
  named_line : {count : ℕ} → Stated kind.named_line (from_to 0 count)
  step_k : Stated kind.step_k any
  start_α : (k : ℕ) → Stated kind.start_α (from_to 0 (4096 - k))
