-- What fields that spell a tree are: values that fit their widths, of 1 to 16 bits each.
use mathlib.Core.List.{List, [], ◌∷◌}
use Prim.Native.Nat.{ℕ, ◌<◌, ◌≤◌}
use native.Mathlib.Omega.{arith}
use lib.ListN.{length}
use Rattle.bits.specs.Packed.{width, Sized}
use Rattle.bits.specs.Written.{Narrow}
use Rattle.fields.specs.Kinds.{FieldKind, symbol_count, arity, rule_count, call_count, tag, variable, symbol, power_symbol, power_a, power_b, line_count, line_kind, right_bit, rule, stop_number, use_bit, used_line, index_i, index_j, filling_count, filled_variable, named_line, step_k, start_α, bits}
use Rattle.fields.specs.Grammar.{Grammar, done, ask}
use Rattle.fields.specs.Spells.{Spells}

pub bits_few : (k : FieldKind) → (0 < bits k) × (bits k ≤ 16)
bits_few symbol_count = (omega arith, omega arith)
bits_few arity = (omega arith, omega arith)
bits_few rule_count = (omega arith, omega arith)
bits_few call_count = (omega arith, omega arith)
bits_few tag = (omega arith, omega arith)
bits_few variable = (omega arith, omega arith)
bits_few symbol = (omega arith, omega arith)
bits_few power_symbol = (omega arith, omega arith)
bits_few power_a = (omega arith, omega arith)
bits_few power_b = (omega arith, omega arith)
bits_few line_count = (omega arith, omega arith)
bits_few line_kind = (omega arith, omega arith)
bits_few right_bit = (omega arith, omega arith)
bits_few rule = (omega arith, omega arith)
bits_few stop_number = (omega arith, omega arith)
bits_few use_bit = (omega arith, omega arith)
bits_few used_line = (omega arith, omega arith)
bits_few index_i = (omega arith, omega arith)
bits_few index_j = (omega arith, omega arith)
bits_few filling_count = (omega arith, omega arith)
bits_few filled_variable = (omega arith, omega arith)
bits_few named_line = (omega arith, omega arith)
bits_few step_k = (omega arith, omega arith)
bits_few start_α = (omega arith, omega arith)

pub spells_sized : {A : Type 0} (p : Grammar A) (a : A) (fs : List (ℕ × ℕ)) → Spells p a fs → Sized fs
unfolding Spells Sized
spells_sized (done x) a fs h = rw h.1 tt
spells_sized (ask k r next) a [] h = absurd h
spells_sized (ask k r next) a (f ∷ fs) h = (rw h.0 h.1, spells_sized (next f.1) a fs h.3)

pub spells_narrow : {A : Type 0} (p : Grammar A) (a : A) (fs : List (ℕ × ℕ)) → Spells p a fs → Narrow fs
unfolding Spells Narrow
spells_narrow (done b) a fs h = rw h.1 tt
spells_narrow (ask k r next) a [] h = absurd h
spells_narrow (ask k r next) a (f ∷ fs) h = (rw h.0 (bits_few k).1, spells_narrow (next f.1) a fs h.3)

-- there are no more fields than bits
pub spells_few : {A : Type 0} (p : Grammar A) (a : A) (fs : List (ℕ × ℕ)) → Spells p a fs → length fs ≤ width fs
unfolding Spells width
spells_few (done b) a fs h = rw h.1 (omega arith)
spells_few (ask k r next) a [] h = absurd h
spells_few (ask k r next) a (f ∷ fs) h =
    let e = h.0 in
    let b = (bits_few k).0 in
    let n = spells_few (next f.1) a fs h.3 in
    omega arith
