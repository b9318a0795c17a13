-- Calls asked for, computed over bytes: 01's whole case and its book W, and the order of refusals.
use Prim.Native.Nat.{ℕ}
use mathlib.Core.Path.{◌≡◌, refl}
use mathlib.Core.List.{List, [], ◌∷◌}
use mathlib.Core.Option.{none, some}
use Rattle.answers.specs.Carried.{refusal_at}
use Rattle.answers.specs.Numbers.{Reply, covered_at, denied}
use Rattle.bits.specs.Packed.{packed}
use Rattle.patterns.specs.Reason.{certificate_place, neither_place, call_place}
use Rattle.patterns.specs.First.{Exp, Pattern, Pair, Pace}
use Rattle.patterns.specs.Certificate.{call, unfolds, Line, Closing}
use Rattle.patterns.specs.Examples.{x, y, s, o, gt, while}
use Rattle.covering.proofs.AtWork.{searching}
use Rattle.grammar.specs.Books.{RuleBook}
use Rattle.grammar.specs.Terms.{call_term}
use Rattle.grammar.specs.Calls.{a_call}
use Rattle.grammar.specs.Listing.{term_fields, book_fields, certificate_fields}
use Rattle.layout.specs.Files.{open_call}
use Rattle.table.specs.Places.{WORDS}
use Rattle.verdicts.specs.Cases.{w_file, w_certificate, whole_book, whole_certificate}
use Rattle.verdicts.proofs.Compute.{compute}
use Rattle.covers.specs.Asking.{not_covered, told_index, asking_line, asking_accepted, asking_judged, asking}

-- what computes an answer, under one name
unfoldable pub answering : Unit {0}
unfolding compute searching call_term a_call open_call told_index asking_line asking_accepted asking_judged asking
answering = tt

-- 01's whole case, "a if a", and a call in bytes
abbrev Whole : List ℕ → Reply → Type 0
Whole bytes a = asking whole_book whole_certificate bytes WORDS ≡ a

-- 01's book W, its certificate for while(s^{n+1}(x), s^n(0)), n ≥ 1, and a call
abbrev While : Pattern → Reply → Type 0
While c a = asking w_file (w_certificate 1) (packed (term_fields c)) WORDS ≡ a

-- The book "gt(x, y) if gt(s(x), y)", with the arities of s, 0 and gt; one line by its rule, from gt(t, y) to gt(u, y), with a closing;
-- and a call.
abbrev up_book : RuleBook
up_book = record { arities = 1 ∷ 0 ∷ 2 ∷ []; rules = record { head = gt x y; calls = gt (s 0 1 x) y ∷ [] } ∷ [] }

abbrev up_line : Pattern → Pattern → Line Exp Pair
up_line t u = record { claim = record { left = gt t y; right = some (gt u y) }; kind = unfolds 0 ((0, t) ∷ []) (call [] none) }

abbrev Up : Pattern → Pattern → Closing Exp Pace → Pattern → Reply → Type 0
Up t u e c a =
    asking (packed (book_fields up_book)) (packed (certificate_fields (record { lines = up_line t u ∷ []; closing = e })))
    (packed (term_fields c)) WORDS
    ≡ a

-- closings for gt(s^n(0), y), n ≥ 0, and for gt(x, y), which has no index, from 7 on
abbrev growing : Closing Exp Pace
growing = record { line = 0; pace = record { k = 1; α = 0 }; fills = [] }

abbrev level : Closing Exp Pace
level = record { line = 0; pace = record { k = 0; α = 7 }; fills = (0, s 0 1 x) ∷ [] }

pub examples :
    -- the constant itself, and a lone variable
    Whole (0x40 ∷ 0x00 ∷ []) (covered_at 0)
    × Whole (0x00 ∷ []) (denied not_covered)
    -- a call of no bytes, one that is cut short, one with a padding bit, one with a byte too many
    × Whole [] (denied (refusal_at 3 call_place 0))
    × Whole (0x40 ∷ []) (denied (refusal_at 3 call_place 2))
    × Whole (0x40 ∷ 0x01 ∷ []) (denied (refusal_at 7 call_place 10))
    × Whole (0x40 ∷ 0x00 ∷ 0x00 ∷ []) (denied (refusal_at 7 call_place 10))
    -- a symbol that is not there, and tag 3
    × Whole (0x40 ∷ 0x40 ∷ []) (denied (refusal_at 4 call_place 2))
    × Whole (0xc0 ∷ []) (denied (refusal_at 4 call_place 0))
    -- a refused certificate, and a short table, stand before all that is wrong with the call
    × (asking whole_book [] [] WORDS ≡ denied (refusal_at 3 certificate_place 0))
    × (asking whole_book whole_certificate [] 8191 ≡ denied (refusal_at 1 neither_place 0))
    -- the smallest index, no index, and only an index below α
    × While (while (s 0 5 o) (s 0 2 o)) (covered_at 2)
    × While (while (s 0 2 o) (s 0 2 o)) (denied not_covered)
    × While (while (s 0 5 o) o) (denied not_covered)
    × While (while (s 0 5 x) (s 0 4 o)) (covered_at 4)
    -- "a above 0 is 4", at a's field
    × While (while (s 1 5 o) (s 0 2 o)) (denied (refusal_at 4 call_place 20))
    -- without index: α, or nothing
    × Up x (s 0 1 x) level (gt (s 0 3 o) x) (covered_at 7)
    × Up x (s 0 1 x) level o (denied not_covered)
unfolding answering
examples = (refl, refl, refl, refl, refl, refl, refl, refl, refl, refl, refl, refl, refl, refl, refl, refl, refl)

-- 02: "a call's exponents end there": the last index is answered
pub last_answered : Up (s 1 0 o) (s 1 1 o) growing (gt (s 0 4095 o) o) (covered_at 4095)
unfolding answering
last_answered = refl
