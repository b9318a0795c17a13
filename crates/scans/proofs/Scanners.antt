-- A scanner's walk is the walk by bits over its bytes.
use Rattle.std.specs.Prelude.{Result, Ok, Err}
use Prim.Native.Nat.{ℕ}
use mathlib.Core.Path.{◌≡◌, refl, sym, ap, ◌∙◌, subst}
use mathlib.Core.Option.{Option, none, some}
use native.Mathlib.Omega.{arith}
use Rattle.bits.specs.declared.Cursor.{Cursor}
use Rattle.fields.specs.Source.{Field}
use Rattle.fields.specs.Kinds.{bits, test}
use Rattle.fields.specs.Grammar.{Grammar, done, ask, on_field, tested}
use Rattle.fields.specs.Along.{End, asked, along, shown, told_at, Comes}
use Rattle.fields.specs.Along.End.{ok, no}
use Rattle.scans.specs.declared.Scanner.{Scanner}
use Rattle.scans.specs.Scanning.{scanning, passed}
use Rattle.scans.specs.Glance.{Glance, Scan, past, glance, glanced, Scans}
use Rattle.scans.specs.Glance.Glance.{ok as ok_glance, no as no_glance}

-- what a scanner's walk ends in, of its bytes
unfoldable pub of_end : {A : Type 0} → End A Scanner → Glance A
of_end (ok a y) = ok_glance a y.cursor
of_end (no m y) = no_glance m y.cursor

pub same_glance : {A : Type 0} (p : Grammar A) (x : Scanner) → of_end (along scanning p x) ≡ glance x.s.now p x.cursor
unfolding along glance of_end
same_glance (done a) x = refl
same_glance {A} (ask k r next) x = go (λ v. same_glance (next v) (passed (bits k) v x)) (asked scanning k r x)
  where
    under : (v : ℕ) → of_end (along scanning (next v) (passed (bits k) v x)) ≡ glance x.s.now (next v) (past k x.cursor) → (o : Option ℕ)
        → of_end (tested o (along scanning (next v) (passed (bits k) v x)) (λ m. no m x))
        ≡ tested o (glance x.s.now (next v) (past k x.cursor)) (λ m. no_glance m x.cursor)
    under v e none = e
    under v e (some m) = refl

    go : ((v : ℕ) → of_end (along scanning (next v) (passed (bits k) v x)) ≡ glance x.s.now (next v) (past k x.cursor)) → (f : Field)
        → of_end (on_field f (λ v. tested (test r v) (along scanning (next v) (passed (bits k) v x)) (λ m. no m x)) (λ m. no m x))
        ≡ on_field f (λ v. tested (test r v) (glance x.s.now (next v) (past k x.cursor)) (λ m. no_glance m x.cursor)) (λ m. no_glance m x.cursor)
    go ih (Ok v) = under v (ih v) (test r v)
    go ih (Err m) = refl

-- the same scanner elsewhere
abbrev pub at_cursor : Scanner → Cursor → Scanner
at_cursor x d = record { s = x.s; cursor = d }

-- a glance as the end of a scanner's walk
unfoldable pub as_end : {A : Type 0} → Scanner → Glance A → End A Scanner
as_end x (ok_glance a d) = ok a (at_cursor x d)
as_end x (no_glance m d) = no m (at_cursor x d)

-- the bytes stay
pub same_end : {A : Type 0} (p : Grammar A) (x : Scanner) → along scanning p x ≡ as_end x (glance x.s.now p x.cursor)
unfolding along glance as_end
same_end (done a) x = refl
same_end {A} (ask k r next) x = go (λ v. same_end (next v) (passed (bits k) v x)) (asked scanning k r x)
  where
    under : (v : ℕ) → along scanning (next v) (passed (bits k) v x) ≡ as_end x (glance x.s.now (next v) (past k x.cursor)) → (o : Option ℕ)
        → tested o (along scanning (next v) (passed (bits k) v x)) (λ m. no m x)
        ≡ as_end x (tested o (glance x.s.now (next v) (past k x.cursor)) (λ m. no_glance m x.cursor))
    under v e none = e
    under v e (some m) = refl

    go : ((v : ℕ) → along scanning (next v) (passed (bits k) v x) ≡ as_end x (glance x.s.now (next v) (past k x.cursor))) → (f : Field)
        → on_field f (λ v. tested (test r v) (along scanning (next v) (passed (bits k) v x)) (λ m. no m x)) (λ m. no m x)
        ≡ as_end x (on_field f (λ v. tested (test r v) (glance x.s.now (next v) (past k x.cursor)) (λ m. no_glance m x.cursor)) (λ m. no_glance m x.cursor))
    go ih (Ok v) = under v (ih v) (test r v)
    go ih (Err m) = refl

-- ---- what the code tells of a walk, and of a walk by bits

-- what a walk comes to, with the cursor where it stands
abbrev pub scan_of : Result ℕ ℕ → Cursor → Scan
scan_of (Ok v) d = Ok (v, d)
scan_of (Err m) d = Err (m, d)

unfoldable showing : End ℕ Scanner → Scan
showing (ok v y) = Ok (v, y.cursor)
showing (no m y) = Err (m, y.cursor)

showing_told : (r : Result ℕ ℕ) (y : Scanner) → showing (told_at r y) ≡ scan_of r y.cursor
unfolding showing told_at
showing_told (Ok v) y = refl
showing_told (Err m) y = refl

showing_shown : {A : Type 0} (val : A → ℕ) (e : End A Scanner) → showing (shown val e) ≡ glanced val (of_end e)
unfolding showing shown of_end
showing_shown val (ok a y) = refl
showing_shown val (no m y) = refl

-- a scanner's walk meets what a walk by bits is held to
pub scanner_scans : {A : Type 0} {p : Grammar A} {x y : Scanner} {val : A → ℕ} {r : Result ℕ ℕ} → Comes scanning p x val r y
    → Scans x.s.now p x.cursor val (scan_of r y.cursor)
scanner_scans {p = p} {x = x} {y = y} {val = val} {r = r} h = record {
  told = sym (showing_told r y) ∙ ap showing h.told ∙ showing_shown val (along scanning p x) ∙ ap (glanced val) (same_glance p x);
}

-- the same, of the answer that was found
pub scanner_on : {A : Type 0} {p : Grammar A} {x y : Scanner} {val : A → ℕ} {r : Result ℕ ℕ} {v : ℕ} → Comes scanning p x val r y → r ≡ Ok v
    → Scans x.s.now p x.cursor val (Ok (v, y.cursor))
scanner_on {p = p} {x = x} {y = y} {val = val} h e = subst (λ q. Scans x.s.now p x.cursor val (scan_of q y.cursor)) e (scanner_scans h)

pub scanner_no : {A : Type 0} {p : Grammar A} {x y : Scanner} {val : A → ℕ} {r : Result ℕ ℕ} {m : ℕ} → Comes scanning p x val r y → r ≡ Err m
    → Scans x.s.now p x.cursor val (Err (m, y.cursor))
scanner_no {p = p} {x = x} {y = y} {val = val} h e = subst (λ q. Scans x.s.now p x.cursor val (scan_of q y.cursor)) e (scanner_scans h)

told_here : {A : Type 0} (val : A → ℕ) (x : Scanner) (r : Result ℕ ℕ) (d : Cursor) (g : Glance A) → scan_of r d ≡ glanced val g
    → told_at r (at_cursor x d) ≡ shown val (as_end x g)
unfolding told_at shown as_end
told_here val x (Ok v) d (ok_glance a e) q =
    let t : ◌≡◌ {A = ℕ × Cursor} (v, d) (val a, e) = cc in
    λ i. ok (ap (λ (u : ℕ × Cursor). u.0) t i) (at_cursor x (ap (λ (u : ℕ × Cursor). u.1) t i))
told_here val x (Ok v) d (no_glance m e) q = let z : ◌≡◌ {A = ℕ} 0 1 = cc in absurd (omega arith)
told_here val x (Err m) d (ok_glance a e) q = let z : ◌≡◌ {A = ℕ} 0 1 = cc in absurd (omega arith)
told_here val x (Err m) d (no_glance k e) q =
    let t : ◌≡◌ {A = ℕ × Cursor} (m, d) (k, e) = cc in
    λ i. no (ap (λ (u : ℕ × Cursor). u.0) t i) (at_cursor x (ap (λ (u : ℕ × Cursor). u.1) t i))

-- and the other way round
pub scans_scanner : {A : Type 0} {p : Grammar A} {x : Scanner} {val : A → ℕ} (r : Result ℕ ℕ) (d : Cursor) → Scans x.s.now p x.cursor val (scan_of r d)
    → Comes scanning p x val r (at_cursor x d)
scans_scanner {p = p} {x = x} {val = val} r d h = record {
  told = told_here val x r d (glance x.s.now p x.cursor) h.told ∙ ap (shown val) (sym (same_end p x));
}

-- where a walk stands, with its own bytes
told_place : {A : Type 0} (val : A → ℕ) (x y : Scanner) (r : Result ℕ ℕ) (g : Glance A) → told_at r y ≡ shown val (as_end x g) → y ≡ at_cursor x y.cursor
unfolding told_at shown as_end
told_place val x y (Ok v) (ok_glance a e) q =
    let t : y ≡ at_cursor x e = cc in
    t ∙ ap (λ z. at_cursor x z.cursor) (sym t)
told_place val x y (Ok v) (no_glance m e) q = let z : ◌≡◌ {A = ℕ} 0 1 = cc in absurd (omega arith)
told_place val x y (Err m) (ok_glance a e) q = let z : ◌≡◌ {A = ℕ} 0 1 = cc in absurd (omega arith)
told_place val x y (Err m) (no_glance k e) q =
    let t : y ≡ at_cursor x e = cc in
    t ∙ ap (λ z. at_cursor x z.cursor) (sym t)

pub scanner_stays : {A : Type 0} {p : Grammar A} {x y : Scanner} {val : A → ℕ} {r : Result ℕ ℕ} → Comes scanning p x val r y → y ≡ at_cursor x y.cursor
scanner_stays {p = p} {x = x} {y = y} {val = val} {r = r} h =
    told_place val x y r (glance x.s.now p x.cursor) (h.told ∙ ap (shown val) (same_end p x))
