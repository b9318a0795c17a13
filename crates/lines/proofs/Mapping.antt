-- What is mapped to a refusal was a fault, and what is not was none.
use Rattle.std.proofs.Common.{ℕ, Result, Ok, Err, IsErrAnd, MatchResult, ◌≡◌, refl}
use Rattle.answers.specs.declared.Refusal.{Refusal}
use Rattle.comparing.specs.declared.Fault.{Fault}
use Rattle.comparing.specs.Found.{Found}

module _ (P : Fault → Refusal → Type 0) (f : Found) (r : Result ℕ Refusal) where
  pub mapped_fault : (x : Refusal) → MatchResult f (λ n. r ≡ Ok n) (λ d. IsErrAnd r (λ y. P d y)) → r ≡ Err x → (d : Fault) × (f ≡ Err d) × P d x
  mapped_fault x h q = go f h
    where
      go : (f : Found) → MatchResult f (λ n. r ≡ Ok n) (λ d. IsErrAnd r (λ y. P d y)) → (d : Fault) × (f ≡ Err d) × P d x
      go (Ok n) h = absurd cc
      go (Err d) h = (d, refl, rw q at h)

  pub mapped_good : (n : ℕ) → MatchResult f (λ n. r ≡ Ok n) (λ d. IsErrAnd r (λ y. P d y)) → r ≡ Ok n → f ≡ Ok n
  mapped_good n h q = go f h
    where
      go : (f : Found) → MatchResult f (λ n. r ≡ Ok n) (λ d. IsErrAnd r (λ y. P d y)) → f ≡ Ok n
      go (Ok m) h = cc
      go (Err d) h = absurd (rw q at h)
