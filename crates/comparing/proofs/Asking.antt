-- What is asked at a part is looked at.
use Rattle.std.proofs.Common.{Ok, Err}
use Prim.Native.Nat.{ℕ}
use mathlib.Core.Path.{◌≡◌, sym, subst, ◌∙◌}
use mathlib.Core.List.{List}
use Rattle.patterns.specs.Certificate.{Mark}
use Rattle.patterns.specs.First.{Exp}
use Rattle.table.specs.Places.{FIRST}
use Rattle.comparing.specs.declared.Fault.{Fault}
use Rattle.comparing.specs.declared.Whole.{Whole}
use Rattle.comparing.specs.declared.Behind.{Behind}
use Rattle.comparing.specs.declared.Behind.TheVariants.{Pending}
use Rattle.comparing.specs.declared.Asked.{Asked}
use Rattle.comparing.specs.declared.Asked.TheVariants.{Same, Led, Level, Present}
use Rattle.comparing.specs.declared.Subject.{Subject}
use Rattle.begins.specs.Placed.{RightAt}
use Rattle.instances.specs.Lying.{KnownArities}
use Rattle.begins.specs.Known.{Below}
use Rattle.comparing.specs.Subjects.{Means}
use Rattle.comparing.specs.Found.{Found, Finds}
use Rattle.comparing.specs.Rights.{lead, Looks, LooksLevel}
use Rattle.comparing.specs.Asked.{asked_at, checks_of, end_of, Equals, LedEquals, Checks}
use Rattle.begins.proofs.Frames.{below_self}
use Rattle.comparing.proofs.Finding.{finds_stop, finds_then}

-- ---- a right, and then two sides

module _ {book cert : List ℕ} {l n p right : ℕ} {q : Behind} {a b : Subject} {w : List ℕ} {x : Found} (k : Looks cert right q l p x) where
  pub led_fault : {f : Fault} → x ≡ Err f → LedEquals book cert l n p right q a b w w (Err f)
  led_fault e = record { told = λ ars t u m i y d j z. finds_stop _ (k.told ars t u) e; below = below_self FIRST w }

  pub led_on : {after : List ℕ} {i : ℕ} {r : Found} → x ≡ Ok i → Equals book cert n p a b w after r → LedEquals book cert l n p right q a b w after r
  led_on e h = record {
    told = λ ars t u m i y d j z. finds_then (k.told ars t u) e (λ o. h.told m i y d j z);
    below = h.below;
  }

-- ---- by what is asked

module _ {book cert : List ℕ} {whole : Whole} {part right : ℕ} {q : Behind} {a b : Subject} {w after : List ℕ} {r : Found} {x : Asked} (e : x ≡ asked_at whole part) where
  -- the checks of what is asked are those of the part
  made : Below FIRST w after
      → ((ars : List ℕ) → KnownArities book ars → (t : Mark Exp) → RightAt cert ars right t → (m : Mark Exp) (i : ℕ) → Means book cert w a m i
      → (k : Mark Exp) (f : ℕ) → Means book cert w b k f → Finds (checks_of x part q t m k) (end_of x i) r)
      → Checks book cert whole part right q a b w after r
  made below h = record {
    told = λ ars s t u m i y k f z. subst (λ o. Finds (checks_of o part q t m k) (end_of o i) r) e (h ars s t u m i y k f z);
    below = below;
  }

module _ {book cert : List ℕ} {whole : Whole} {part right : ℕ} {q : Behind} {a b : Subject} {w after : List ℕ} {r : Found} {x : Asked} {n : ℕ} (e : x ≡ asked_at whole part) where
  pub made_same : x ≡ Same n → Equals book cert n part a b w after r → Checks book cert whole part right q a b w after r
  unfolding checks_of end_of
  made_same s h = made (sym s ∙ e) h.below (λ ars k t u m i y d f z. h.told m i y d f z)

  pub made_led : {l : ℕ} → x ≡ Led l n → LedEquals book cert l n part right q a b w after r → Checks book cert whole part right q a b w after r
  unfolding checks_of end_of
  made_led s h = made (sym s ∙ e) h.below (λ ars k t u m i y d f z. h.told ars t u m i y d f z)

module _ {book cert : List ℕ} {whole : Whole} {part right : ℕ} {q : Behind} {a b : Subject} {w : List ℕ} {r : Found} {x : Asked} {n : ℕ} (e : x ≡ asked_at whole part) where
  pub made_level : x ≡ Level n → LooksLevel book cert right n part r → Checks book cert whole part right q a b w w r
  unfolding checks_of end_of
  made_level s h = made (sym s ∙ e) (below_self FIRST w) (λ ars k t u m i y d f z. h.told ars k t u)

  pub made_present : x ≡ Present n → Looks cert right Pending n part r → Checks book cert whole part right q a b w w r
  unfolding checks_of end_of lead
  made_present s h = made (sym s ∙ e) (below_self FIRST w) (λ ars k t u m i y d f z. h.told ars t u)
