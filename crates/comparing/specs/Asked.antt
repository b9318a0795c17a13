-- What is asked at each part of an unfold, a descent and the closing, and the checks that this comes to. 01, "What a certificate claims".
use Rattle.std.specs.Prelude.{ℕ, List, [], ◌∷◌, ◌++◌, cond, eqb}
use Rattle.patterns.specs.Certificate.{Mark}
use Rattle.patterns.specs.First.{Exp}
use Rattle.patterns.specs.Demand.{present, level}
use Rattle.patterns.specs.Judge.{Check, check, compare}
use Rattle.table.specs.Places.{FIRST}
use Rattle.comparing.specs.declared.Whole.{Whole}
use Rattle.comparing.specs.declared.Whole.TheVariants.{Unfold, Descent, Closing}
use Rattle.comparing.specs.declared.Behind.{Behind}
use Rattle.comparing.specs.declared.Asked.{Asked}
use Rattle.comparing.specs.declared.Asked.TheVariants.{Same, Led, Level, Present}
use Rattle.comparing.specs.declared.Subject.{Subject}
use Rattle.begins.specs.Placed.{RightAt}
use Rattle.instances.specs.Lying.{KnownArities}
use Rattle.begins.specs.Known.{Below}
use Rattle.comparing.specs.Subjects.{Means}
use Rattle.comparing.specs.Found.{Found, Finds}
use Rattle.comparing.specs.Rights.{lead}

unfoldable pub asked_at : Whole → ℕ → Asked
asked_at Unfold p = cond (eqb p 0) (Same 9) (cond (eqb p 15) (Same 12) (Led 11 10))
asked_at Descent p =
    cond (eqb p 0) (Same 9) (cond (eqb p 1) (Same 12) (cond (eqb p 2) (Same 9) (cond (eqb p 3) (Same 10) (Level 13))))
asked_at Closing p = cond (eqb p 0) (Present 14) (Same 15)

-- the checks of a right r, with what stands behind its call, and of two sides m and k
unfoldable pub checks_of : Asked → ℕ → Behind → Mark Exp → Mark Exp → Mark Exp → List (Check Exp)
checks_of (Same n) p q r m k = compare n p m k
checks_of (Led l n) p q r m k = lead q l p r ++ compare n p m k
checks_of (Level n) p q r m k = check n p (level r) ∷ []
checks_of (Present n) p q r m k = check n p (present r) ∷ []

-- the bit that is told where they are met: behind the term of the first side, if sides are compared
unfoldable pub end_of : Asked → ℕ → ℕ
end_of (Same n) e = e
end_of (Led l n) e = e
end_of (Level n) e = 0
end_of (Present n) e = 0

-- a comparison was made
pub record Equals (book cert : List ℕ) (n p : ℕ) (a b : Subject) (w after : List ℕ) (r : Found) : Type 0 where
  pub told : (m : Mark Exp) (e : ℕ) → Means book cert w a m e → (k : Mark Exp) (f : ℕ) → Means book cert w b k f → Finds (compare n p m k) e r
  pub below : Below FIRST w after

-- behind a check of a right
pub record LedEquals (book cert : List ℕ) (l n p right : ℕ) (q : Behind) (a b : Subject) (w after : List ℕ) (r : Found) : Type 0 where
  pub told : (ars : List ℕ) (t : Mark Exp) → RightAt cert ars right t → (m : Mark Exp) (e : ℕ) → Means book cert w a m e
      → (k : Mark Exp) (f : ℕ) → Means book cert w b k f → Finds (lead q l p t ++ compare n p m k) e r
  pub below : Below FIRST w after

-- what is asked at a part was looked at
pub record Checks (book cert : List ℕ) (whole : Whole) (part right : ℕ) (q : Behind) (a b : Subject) (w after : List ℕ) (r : Found) : Type 0 where
  pub told : (ars : List ℕ) → KnownArities book ars → (t : Mark Exp) → RightAt cert ars right t → (m : Mark Exp) (e : ℕ) → Means book cert w a m e
      → (k : Mark Exp) (f : ℕ) → Means book cert w b k f → Finds (checks_of (asked_at whole part) part q t m k) (end_of (asked_at whole part) e) r
  pub below : Below FIRST w after
