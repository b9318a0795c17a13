-- What follows from the answer to a yes-or-no question.
use Prim.Native.Nat.{ℕ}
use mathlib.Core.Path.{◌≡◌, refl, sym}
use mathlib.Core.Bool.{Bool, true, false, not, false≢true}
use native.Mathlib.Omega.{arith}
use Rattle.table.specs.Answer.{Says, Assures}

pub says_true : {A : Type 0} (r : Bool) → Says A r → r ≡ true → A
unfolding Says
says_true true h e = h
says_true false h e = let z : ◌≡◌ {A = ℕ} 0 1 = cc in absurd (omega arith)

pub says_false : {A : Type 0} (r : Bool) → Says A r → r ≡ false → ¬ A
unfolding Says
says_false true h e = let z : ◌≡◌ {A = ℕ} 0 1 = cc in absurd (omega arith)
says_false false h e = h

pub assures_no : {A : Type 0} → Assures A false
assures_no = record { so = λ e. absurd (false≢true e) }

pub assures_yes : {A : Type 0} → A → Assures A true
assures_yes a = record { so = λ e. a }

-- where the test of a no failed
pub assured : {A : Type 0} (r : Bool) → Assures A r → not r ≡ false → A
assured true x e = x.so refl
assured false x e = absurd (false≢true (sym e))
