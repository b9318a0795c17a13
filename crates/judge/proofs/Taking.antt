-- What was read into a buffer until it was full or the reader ended: the first of the bytes that the reader had.
use Rattle.std.proofs.Common.{◌≡◌, ℕ, ◌<◌, List, Option, None, Some, IfSome, Result, Ok, Err, OnOk, length, take, arith}
use Rattle.std.proofs.lemmas.Grind.{common_steps}
use Rattle.std.specs.Counts.{IsPrefixLen}
use Rattle.std.specs.Io.KnownBytes.{Consumes, IsAtEnd}

first_taken : (a b : Option (List ℕ)) (n most : ℕ) (buf : List ℕ) → length buf ≡ most → IsPrefixLen n buf → Consumes a b (take n buf)
    → (n < length buf → IsAtEnd b) → IfSome a (λ xs. take n buf ≡ take most xs)
first_taken None b n most buf full counted taken end = tt
first_taken (Some xs) None n most buf full counted taken end = absurd taken
first_taken (Some xs) (Some ys) n most buf full counted taken end = grind (arith, common_steps, taken, end)

pub first_taken_on_ok : {T E : Type 0} (r : Result T E) (a b : Option (List ℕ)) (n most : ℕ) (buf : List ℕ) → length buf ≡ most
    → IsPrefixLen n buf → Consumes a b (take n buf) → OnOk r (n < length buf → IsAtEnd b)
    → OnOk r (IfSome a (λ xs. take n buf ≡ take most xs))
first_taken_on_ok (Ok x) a b n most buf full counted taken end = first_taken a b n most buf full counted taken end
first_taken_on_ok (Err e) a b n most buf full counted taken end = tt
