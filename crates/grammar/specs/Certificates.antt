-- The grammar of the certificate. 01, "Packed layout": "Certificate", "Line", "Use", "Closing".
use Prim.Native.Nat.{ℕ, zero, suc, ◌+◌, ◌-◌, min}
use mathlib.Core.List.{List, [], ◌∷◌}
use Rattle.std.proofs.Math.Option.{Option, none, some}
use Rattle.std.specs.Prelude.{cond, length, get_or, eqb}
use Rattle.patterns.specs.First.{Exp, Pair, Pace}
use Rattle.patterns.specs.Certificate.{Fills, Mark, Claim, Use, Stop, fact, call, LineKind, unfolds, descends, Line, Closing, Certificate}
use Rattle.fields.specs.Kinds.{any, from_to, one_call}
use Rattle.fields.specs.Kinds.{FieldKind as kind}
use Rattle.fields.specs.Grammar.{Grammar, done, bind, field}
use Rattle.grammar.specs.Terms.{any_term, a_filling}

-- `ar` gives the arities, and `ms` lists how many calls each rule of the book has

-- 01: "a bit that says whether a right term follows (0 is the empty mark); the right term"
unfoldable pub a_right_if : (ℕ → ℕ) → ℕ → Grammar (Mark Exp)
a_right_if ar b = cond (eqb b 0) (done none) (bind (any_term ar) λ g. done (some g.term))

unfoldable pub a_right : (ℕ → ℕ) → Grammar (Mark Exp)
a_right ar = bind (field kind.right_bit any) (a_right_if ar)

unfoldable pub a_claim : (ℕ → ℕ) → Grammar (Claim Exp)
a_claim ar = bind (any_term ar) λ g. bind (a_right ar) λ m. done (record { left = g.term; right = m })

-- 01: "Use: line 8 (earlier than this line), i 12, j 12, filling."
unfoldable pub an_index : Grammar Pair
an_index = bind (field kind.index_i any) λ i. bind (field kind.index_j any) λ j. done (i, j)

unfoldable pub an_instance : (ℕ → ℕ) → Grammar (Pair × Fills Exp)
an_instance ar = bind an_index λ r. bind (a_filling ar) λ θ. done (r, θ)

unfoldable pub a_use : (ℕ → ℕ) → ℕ → Grammar (Use Exp Pair)
a_use ar line =
    bind (field kind.used_line (from_to 0 line)) λ l. bind (an_instance ar) λ q. done (record { line = l; index = q.0; fills = q.1 })

unfoldable pub uses_of : (ℕ → ℕ) → ℕ → ℕ → Grammar (List (Use Exp Pair))
uses_of ar line zero = done []
uses_of ar line (suc n) = bind (a_use ar line) λ u. bind (uses_of ar line n) λ us. done (u ∷ us)

-- 01: "a use for each j < i, then, if i is not 0, one bit, and a use if it is 1"
unfoldable pub a_last_if : (ℕ → ℕ) → ℕ → ℕ → Grammar (Option (Use Exp Pair))
a_last_if ar line b = cond (eqb b 0) (done none) (bind (a_use ar line) λ u. done (some u))

unfoldable pub a_last : (ℕ → ℕ) → ℕ → Grammar (Option (Use Exp Pair))
a_last ar line = bind (field kind.use_bit any) (a_last_if ar line)

unfoldable pub a_stop : (ℕ → ℕ) → ℕ → ℕ → Grammar (Stop Exp Pair)
a_stop ar line zero = done fact
a_stop ar line (suc i) = bind (uses_of ar line i) λ us. bind (a_last ar line) λ u. done (call us u)

unfoldable pub a_stopped : (ℕ → ℕ) → ℕ → ℕ → Grammar (Fills Exp × Stop Exp Pair)
a_stopped ar line i = bind (a_filling ar) λ θ. bind (a_stop ar line i) λ s. done (θ, s)

-- 01: "Unfold: rule 8, i 4, filling", and "If m = 0 then i = 0; else i is 1 to m."
unfoldable pub a_stop_at : (ℕ → ℕ) → ℕ → ℕ → Grammar (Fills Exp × Stop Exp Pair)
a_stop_at ar line m = bind (field kind.stop_number (from_to (min m 1) (m + 1))) (a_stopped ar line)

unfoldable pub an_unfold : (ℕ → ℕ) → List ℕ → ℕ → Grammar (LineKind Exp Pair)
an_unfold ar ms line =
    bind (field kind.rule (from_to 0 (length ms))) λ k. bind (a_stop_at ar line (get_or ms k 0)) λ q. done (unfolds k q.0 q.1)

-- 01: "Descent: use, rule 8 (one of exactly one call), filling."
unfoldable pub a_fall : (ℕ → ℕ) → List ℕ → Grammar (ℕ × Fills Exp)
a_fall ar ms = bind (field kind.rule (one_call ms)) λ k. bind (a_filling ar) λ θ. done (k, θ)

unfoldable pub a_descent : (ℕ → ℕ) → List ℕ → ℕ → Grammar (LineKind Exp Pair)
a_descent ar ms line = bind (a_use ar line) λ u. bind (a_fall ar ms) λ q. done (descends u q.0 q.1)

-- 01: "Line: kind 1 bit (0 unfold, 1 descent); left; [..] right"
unfoldable pub a_kind : (ℕ → ℕ) → List ℕ → ℕ → ℕ → Grammar (LineKind Exp Pair)
a_kind ar ms line n = cond (eqb n 0) (an_unfold ar ms line) (a_descent ar ms line)

unfoldable pub a_line_of : (ℕ → ℕ) → List ℕ → ℕ → ℕ → Grammar (Line Exp Pair)
a_line_of ar ms line n =
    bind (a_claim ar) λ c. bind (a_kind ar ms line n) λ q. done (record { claim = c; kind = q })

unfoldable pub a_line : (ℕ → ℕ) → List ℕ → ℕ → Grammar (Line Exp Pair)
a_line ar ms line = bind (field kind.line_kind any) (a_line_of ar ms line)

unfoldable pub lines_of : (ℕ → ℕ) → List ℕ → ℕ → ℕ → Grammar (List (Line Exp Pair))
lines_of ar ms zero line = done []
lines_of ar ms (suc n) line = bind (a_line ar ms line) λ l. bind (lines_of ar ms n (line + 1)) λ ls. done (l ∷ ls)

-- 01: "Closing: line 8 (below the line count), k 12, α 12 (α + k at most 4,095), filling."
unfoldable pub a_pace : Grammar Pace
a_pace = bind (field kind.step_k any) λ k. bind (field kind.start_α (from_to 0 (4096 - k))) λ α. done (record { k = k; α = α })

unfoldable pub a_closed : (ℕ → ℕ) → Grammar (Pace × Fills Exp)
a_closed ar = bind a_pace λ s. bind (a_filling ar) λ θ. done (s, θ)

unfoldable pub a_closing : (ℕ → ℕ) → ℕ → Grammar (Closing Exp Pace)
a_closing ar n =
    bind (field kind.named_line (from_to 0 n)) λ l. bind (a_closed ar) λ q. done (record { line = l; pace = q.0; fills = q.1 })

-- 01: "Certificate: line count 8; lines; closing."
unfoldable pub a_certificate_of : (ℕ → ℕ) → List ℕ → ℕ → Grammar (Certificate Exp Pair Pace)
a_certificate_of ar ms n =
    bind (lines_of ar ms n 0) λ ls. bind (a_closing ar n) λ c. done (record { lines = ls; closing = c })

unfoldable pub a_certificate : (ℕ → ℕ) → List ℕ → Grammar (Certificate Exp Pair Pace)
a_certificate ar ms = bind (field kind.line_count any) (a_certificate_of ar ms)
