-- Books, certificates and calls within the limits and the fields that spell them correspond one to one.
use mathlib.Core.Path.{◌≡◌}
use Rattle.patterns.specs.First.{Exp, Pattern, Pair, Pace}
use Rattle.patterns.specs.Certificate.{Certificate}
use Rattle.fields.specs.Grammar.{Grammar}
use Rattle.fields.specs.Spells.{Spells}
use Rattle.grammar.specs.Books.{RuleBook, arity_in, a_book}
use Rattle.grammar.specs.Certificates.{a_certificate}
use Rattle.grammar.specs.Calls.{a_call}
use Rattle.grammar.specs.Limits.{TermFits, BookFits, call_counts, CertificateFits}
use Rattle.grammar.specs.Listing.{Fields, term_fields, book_fields, certificate_fields}
use Rattle.grammar.proofs.Exactness.{only_fields, only_tree}
use Rattle.grammar.proofs.TermFields.{a_call_exactly}
use Rattle.grammar.proofs.BookFields.{a_book_exactly, book_signature}
use Rattle.grammar.proofs.CertificateFields.{a_certificate_exactly}

-- ---- books

-- what is spelled is within the limits
pub spelled_book_fits : (b : RuleBook) (fs : Fields) → Spells a_book b fs → BookFits b
spelled_book_fits b fs s = (a_book_exactly.forth b fs s).0

-- what is within the limits is spelled by its fields
pub book_spelled : (b : RuleBook) → BookFits b → Spells a_book b (book_fields b)
book_spelled b h = a_book_exactly.back b h

-- no two lists of fields spell one book
pub book_has_one_listing : (b : RuleBook) (fs gs : Fields) → Spells a_book b fs → Spells a_book b gs → fs ≡ gs
book_has_one_listing b fs gs = only_fields a_book_exactly b fs gs

-- no two books within the limits have the same fields
pub book_fields_tell : (b c : RuleBook) → BookFits b → BookFits c → book_fields b ≡ book_fields c → b ≡ c
book_fields_tell b c = only_tree a_book_exactly b c

-- ---- certificates, each over its book

module _ (b : RuleBook) (fits : BookFits b) where
  abbrev certificate_grammar : Grammar (Certificate Exp Pair Pace)
  certificate_grammar = a_certificate (arity_in b.arities) (call_counts b.rules)

  pub spelled_certificate_fits : (K : Certificate Exp Pair Pace) (fs : Fields) → Spells certificate_grammar K fs
      → CertificateFits b K
  spelled_certificate_fits K fs s = ((a_certificate_exactly b fits).forth K fs s).0

  pub certificate_spelled : (K : Certificate Exp Pair Pace) → CertificateFits b K
      → Spells certificate_grammar K (certificate_fields K)
  certificate_spelled K h = (a_certificate_exactly b fits).back K h

  pub certificate_has_one_listing : (K : Certificate Exp Pair Pace) (fs gs : Fields) → Spells certificate_grammar K fs
      → Spells certificate_grammar K gs
      → fs ≡ gs
  certificate_has_one_listing K fs gs = only_fields (a_certificate_exactly b fits) K fs gs

  pub certificate_fields_tell : (K L : Certificate Exp Pair Pace) → CertificateFits b K → CertificateFits b L
      → certificate_fields K ≡ certificate_fields L
      → K ≡ L
  certificate_fields_tell K L = only_tree (a_certificate_exactly b fits) K L

  -- ---- calls, each over its book

  pub spelled_call_fits : (t : Pattern) (fs : Fields) → Spells (a_call (arity_in b.arities)) t fs → TermFits b.arities 1 t
  spelled_call_fits t fs s = ((a_call_exactly b.arities (book_signature b fits)).forth t fs s).0

  pub call_spelled : (t : Pattern) → TermFits b.arities 1 t → Spells (a_call (arity_in b.arities)) t (term_fields t)
  call_spelled t h = (a_call_exactly b.arities (book_signature b fits)).back t h

  pub call_has_one_listing : (t : Pattern) (fs gs : Fields) → Spells (a_call (arity_in b.arities)) t fs
      → Spells (a_call (arity_in b.arities)) t gs
      → fs ≡ gs
  call_has_one_listing t fs gs = only_fields (a_call_exactly b.arities (book_signature b fits)) t fs gs

  pub call_fields_tell : (t u : Pattern) → TermFits b.arities 1 t → TermFits b.arities 1 u → term_fields t ≡ term_fields u
      → t ≡ u
  call_fields_tell t u = only_tree (a_call_exactly b.arities (book_signature b fits)) t u
