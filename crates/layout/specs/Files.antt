-- A whole file, in bytes or as a list of fields: its tree and its fields, or its first refusal. 01, "Refusal numbers".
use Rattle.std.specs.Prelude.{ℕ, ◌-◌, ◌*◌, List, [], Bool, true, false, ◌&&◌, cond, length, eqb, ltb}
use Rattle.bits.specs.Bits.{bits_at}
use Rattle.bits.specs.Packed.{bytes_for}
use Rattle.patterns.specs.Reason.{Reason, book_place, certificate_place, call_place}
use Rattle.patterns.specs.First.{Exp, Pattern, Pair, Pace}
use Rattle.patterns.specs.Certificate.{Certificate}
use Rattle.answers.specs.Carried.{refusal_at}
use Rattle.fields.specs.Source.{source, start}
use Rattle.fields.specs.Grammar.{Grammar, Outcome, outcome, trace}
use Rattle.fields.specs.Grammar.Outcome.{ok, no}
use Rattle.grammar.specs.Books.{RuleBook, arity_in, a_book}
use Rattle.grammar.specs.Calls.{a_call}
use Rattle.grammar.specs.Certificates.{a_certificate}
use Rattle.grammar.specs.Limits.{call_counts}

-- the tree with its fields, each a width and a value; or the refusal
pub data Opened (A : Type 0) : Type 0 where
  good : A → List (ℕ × ℕ) → Opened A
  bad : Reason → Opened A

-- 01: "After the last field come zero bits up to the next whole byte, and nothing more."
unfoldable pub ends_at : List ℕ → ℕ → Bool
ends_at s bit = eqb (length s) (bytes_for bit) && eqb (bits_at s bit (8 * length s - bit)) 0

-- a file in bytes; W is the file, and A is a bit offset
abbrev pub closed_bytes : {A : Type 0} → ℕ → List ℕ → Outcome A → List (ℕ × ℕ) → Opened A
closed_bytes w s (ok a c) fs = cond (ends_at s c.bit) (good a fs) (bad (refusal_at 7 w c.bit))
closed_bytes w s (no m c) fs = bad (refusal_at m w c.bit)

unfoldable pub open_bytes : {A : Type 0} → ℕ → Grammar A → List ℕ → Opened A
open_bytes w p s = closed_bytes w s (outcome (source s []) p (start false)) (trace (source s []) p (start false))

-- 01: "in the file being written, the field's number from 0 instead"; 7: "bytes or fields are left over"
abbrev pub closed_list : {A : Type 0} → ℕ → List ℕ → Outcome A → List (ℕ × ℕ) → Opened A
closed_list w l (ok a c) fs = cond (eqb c.n (length l)) (good a fs) (bad (refusal_at 7 w c.n))
closed_list w l (no m c) fs = bad (refusal_at m w c.n)

unfoldable pub open_list : {A : Type 0} → ℕ → Grammar A → List ℕ → Opened A
open_list w p l = closed_list w l (outcome (source [] l) p (start true)) (trace (source [] l) p (start true))

-- the certificate's grammar, over its book
unfoldable pub certificate_of : RuleBook → Grammar (Certificate Exp Pair Pace)
certificate_of b = a_certificate (arity_in b.arities) (call_counts b.rules)

unfoldable pub open_book : List ℕ → Opened RuleBook
open_book s = open_bytes book_place a_book s

unfoldable pub open_certificate : RuleBook → List ℕ → Opened (Certificate Exp Pair Pace)
open_certificate b s = open_bytes certificate_place (certificate_of b) s

-- 02, Ticket 1: "one packed call without index (padded as a file)"; "3 to 7 for the call, with W = 5"
unfoldable pub open_call : RuleBook → List ℕ → Opened Pattern
open_call b s = open_bytes call_place (a_call (arity_in b.arities)) s

-- ---- what is given of a file, where `refuse` says how a refusal is given

-- 01, 2: "rule book over 16,384 bytes or certificate over 32,768, read or written"
abbrev pub within_length : {B : Type 0} → (Reason → B) → ℕ → ℕ → List ℕ → B → B
within_length refuse w most s rest = cond (ltb most (length s)) (refuse (refusal_at 2 w 0)) rest

-- a file's own refusal, or what its tree leads to
abbrev pub where_good : {A B : Type 0} → (Reason → B) → Opened A → (A → B) → B
where_good refuse (good a fs) rest = rest a
where_good refuse (bad r) rest = refuse r
