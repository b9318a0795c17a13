-- The checks of a certificate within the limits: every refusal that they can give is in 01's table, and none of them asks for what is
-- missing.
use Prim.Native.Nat.{ℕ, suc, ◌+◌, ◌≤◌, ◌<◌}
use mathlib.Core.Path.{◌≡◌, refl, subst, subst⁻¹}
use mathlib.Core.Logic.{◌≢◌}
use mathlib.Core.List.{List, [], ◌∷◌, ◌++◌}
use mathlib.Core.Option.{none, some}
use native.Mathlib.Omega.{arith}
use lib.ListN.{length, get_elem?, length-append}
use Rattle.patterns.specs.Every.{Every}
use Rattle.patterns.specs.Certificate.{Mark, Claim, LineKind, unfolds, descends, Line, Closing, Certificate}
use Rattle.patterns.specs.Reason.{Reason, line_place, closing_place}
use Rattle.patterns.specs.Demand.{missing}
use Rattle.patterns.specs.Judge.{Check, line_checks, loop_checks, closing_checks, Placed, place, reason, checks_from, checks, FirstBroken}
use Rattle.patterns.specs.First.{Exp, Pair, Pace, one}
use Rattle.patterns.proofs.Every.{below_listed, every_rest, every_append, every_weaken, every_map}
use Rattle.grammar.specs.Books.{RuleBook}
use Rattle.grammar.specs.Limits.{BookFits, call_counts, LinesFit, CertificateFits}
use Rattle.answers.specs.InTable.{Allows, Among, file_rows, unfold_rows, descent_rows, closing_rows, call_rows, line_rows, InTable}
use Rattle.answers.proofs.InTable.{among_first, among_rest}
use Rattle.verdicts.proofs.CheckedLines.{Named, named_is_there, Fine, row_at, fine_alone, fine_compare, fine_given, line_checks_fine}

-- ---- the closing

module _ (es : List (Claim Exp)) (c : Closing Exp Pace) (few : c.line ≤ 254) where
  abbrev FineClosing : Check Exp → Type 0
  FineClosing k = Fine closing_rows closing_place c.line k

  fine_loop : (l : Claim Exp) (m : Mark Exp) → Every FineClosing (loop_checks one l c m)
  unfolding loop_checks Every Allows
  fine_loop l none = tt
  fine_loop l (some t) =
      fine_compare closing_rows closing_place c.line 15 1 _ _
      (row_at closing_rows closing_place c.line 1 15 _ 1 few refl refl)
      (row_at closing_rows closing_place c.line 2 16 _ 1 few refl refl)

  closing_checks_fine : c.line < length es → Every FineClosing (closing_checks one es c)
  unfolding closing_checks Allows Named
  closing_checks_fine h =
      let l = below_listed es c.line h in
      fine_given closing_rows closing_place c.line (get_elem? es c.line) _ l.0 l.1
      (every_append FineClosing _ _
      (fine_alone closing_rows closing_place c.line 14 0 _
      (row_at closing_rows closing_place c.line 0 14 _ 0 few refl refl) tt) (fine_loop l.0 l.0.right))

-- ---- the certificate

line_in_table : {E R : Type 0} (k : LineKind E R) (r : Reason) → Among (line_rows k) r → InTable r
unfolding line_rows InTable
line_in_table (unfolds k θ s) r h =
    among_first (file_rows ++ unfold_rows ++ descent_rows ++ closing_rows) call_rows r
    (among_first (file_rows ++ unfold_rows ++ descent_rows) closing_rows r
    (among_first (file_rows ++ unfold_rows) descent_rows r (among_rest file_rows unfold_rows r h)))
line_in_table (descends u k θ) r h =
    among_first (file_rows ++ unfold_rows ++ descent_rows ++ closing_rows) call_rows r
    (among_first (file_rows ++ unfold_rows ++ descent_rows) closing_rows r (among_rest (file_rows ++ unfold_rows) descent_rows r h))

closing_in_table : (r : Reason) → Among closing_rows r → InTable r
unfolding InTable
closing_in_table r h =
    among_first (file_rows ++ unfold_rows ++ descent_rows ++ closing_rows) call_rows r
    (among_rest (file_rows ++ unfold_rows ++ descent_rows) closing_rows r h)

module _ (b : RuleBook) (book : BookFits b) where
  -- a check of the certificate: its refusal is in the table, and what it names is there
  record FineAt (p : Placed one) : Type 0 where
    listed : InTable (reason one p)
    there : Named p.check.demand

  fine_from : (es : List (Claim Exp)) (a : ℕ) (ls : List (Line Exp Pair)) (c : Closing Exp Pace) → a ≡ length es
      → a + length ls ≤ 255 → LinesFit b.arities (call_counts b.rules) a ls → c.line < a + length ls
      → Every FineAt (checks_from one b.rules es a ls c)
  unfolding checks_from LinesFit
  fine_from es a [] c e few f h =
      every_map FineAt (place one closing_place c.line) (closing_checks one es c)
      (every_weaken (λ k q. record { listed = closing_in_table _ q.listed; there = q.there }) _
      (closing_checks_fine es c (omega arith) (omega arith)))
  fine_from es a (l ∷ ls) c e few f h =
      every_append FineAt _ _
      (every_map FineAt (place one line_place a) (line_checks one es b.rules l.claim l.kind)
      (every_weaken (λ k q. record { listed = line_in_table l.kind _ q.listed; there = q.there }) _
      (line_checks_fine b book es a e (omega arith) l.claim l.kind f.1)))
      (fine_from (es ++ (l.claim ∷ [])) (suc a) ls c (omega (arith, length-append es (l.claim ∷ []))) (omega arith)
      (subst (λ n. LinesFit b.arities (call_counts b.rules) n ls) next f.2) (omega arith))
    where
      next : a + 1 ≡ suc a
      next = omega arith

  module _ (K : Certificate Exp Pair Pace) (certificate : CertificateFits b K) where
    checks_fine : Every FineAt (checks one b.rules K)
    unfolding checks
    checks_fine =
        fine_from [] 0 K.lines K.closing refl (omega (arith, certificate.count)) certificate.lines
        (omega (arith, certificate.closing.line))

    -- Every refusal that the checks can give is in 01's table.
    pub checks_in_table : Every (λ p. InTable (reason one p)) (checks one b.rules K)
    checks_in_table = every_weaken (λ p q. q.listed) _ checks_fine

    -- No check asks for what is missing: a file that was read names only what is there.
    pub nothing_missing : Every (λ p. p.check.demand ≢ missing) (checks one b.rules K)
    nothing_missing = every_weaken (λ p q. named_is_there p.check.demand q.there) _ checks_fine

    -- The refusal of the first check that is not met is in 01's table.
    pub broken_in_table : (r : Reason) → FirstBroken one b.rules K r → InTable r
    unfolding Every
    broken_in_table r f =
        let all = subst (Every (λ p. InTable (reason one p))) f.whole checks_in_table in
        let rest = every_rest (λ p. InTable (reason one p)) f.before (f.broken ∷ f.after) all in
        subst⁻¹ InTable f.told rest.0
