-- A copier's walk is the run of the grammar over its source, with its outputs.
use Rattle.std.specs.Prelude.{Result as Either, Ok, Err}
use Prim.Native.Nat.{ℕ}
use mathlib.Core.Path.{◌≡◌, refl, sym, ap, ◌∙◌, subst}
use mathlib.Core.Option.{Option, none, some}
use native.Mathlib.Omega.{arith}
use Rattle.fields.specs.declared.copier.Copier.{Copier}
use Rattle.fields.specs.Source.{Field, source}
use Rattle.fields.specs.Kinds.{bits, test}
use Rattle.fields.specs.Grammar.{Grammar, done, ask, on_field, tested}
use Rattle.fields.specs.Run.{State, state, Result, run, Shown, Ran}
use Rattle.fields.specs.Run.{shown as shown_run}
use Rattle.fields.specs.Run.Result.{ok as ok_run, no as no_run}
use Rattle.fields.specs.Along.{End, asked, along, shown, told_at, Comes}
use Rattle.fields.specs.Along.End.{ok, no}
use Rattle.fields.specs.Copying.{copying, copied, walk_of, SameOutputs}

-- where a copier stands, with its outputs
abbrev pub state_of : Copier → State
state_of x = state x.at x.words.now x.bytes.now

-- what a copier's walk ends in, of its source and its outputs
unfoldable pub of_end : {A : Type 0} → End A Copier → Result A
of_end (ok a y) = ok_run a (state_of y)
of_end (no m y) = no_run m (state_of y)

pub same_run : {A : Type 0} (p : Grammar A) (x : Copier) → of_end (along copying p x) ≡ run (source x.s.now x.l.now) p (state_of x)
unfolding along run of_end
same_run (done a) x = refl
same_run {A} (ask k r next) x = go (λ v. same_run (next v) (copied (bits k) v x)) (asked copying k r x)
  where
    under : (v : ℕ) → of_end (along copying (next v) (copied (bits k) v x)) ≡ run (source x.s.now x.l.now) (next v) (state_of (copied (bits k) v x))
        → (o : Option ℕ)
        → of_end (tested o (along copying (next v) (copied (bits k) v x)) (λ m. no m x))
        ≡ tested o (run (source x.s.now x.l.now) (next v) (state_of (copied (bits k) v x))) (λ m. no_run m (state_of x))
    under v e none = e
    under v e (some m) = refl

    go : ((v : ℕ) → of_end (along copying (next v) (copied (bits k) v x)) ≡ run (source x.s.now x.l.now) (next v) (state_of (copied (bits k) v x)))
        → (f : Field)
        → of_end (on_field f (λ v. tested (test r v) (along copying (next v) (copied (bits k) v x)) (λ m. no m x)) (λ m. no m x))
        ≡ on_field f (λ v. tested (test r v) (run (source x.s.now x.l.now) (next v) (state_of (copied (bits k) v x))) (λ m. no_run m (state_of x)))
        (λ m. no_run m (state_of x))
    go ih (Ok v) = under v (ih v) (test r v)
    go ih (Err m) = refl

unfoldable showing : End ℕ Copier → Shown
showing (ok v y) = record { walk = Ok (v, y.at); words = y.words.now; bytes = y.bytes.now }
showing (no m y) = record { walk = Err (m, y.at); words = y.words.now; bytes = y.bytes.now }

showing_told : (r : Either ℕ ℕ) (y : Copier) → showing (told_at r y) ≡ record { walk = walk_of r y.at; words = y.words.now; bytes = y.bytes.now }
unfolding showing told_at
showing_told (Ok v) y = refl
showing_told (Err m) y = refl

showing_shown : {A : Type 0} (val : A → ℕ) (e : End A Copier) → showing (shown val e) ≡ shown_run val (of_end e)
unfolding showing shown of_end
showing_shown val (ok a y) = refl
showing_shown val (no m y) = refl

-- what a run found, the copier's walk found
pub run_found : {A : Type 0} (e : End A Copier) {a : A} {τ : State} → of_end e ≡ ok_run a τ → (y : Copier) × (e ≡ ok a y)
unfolding of_end
run_found (ok b y) q = (y, ap (λ z. ok z y) (cc q))
run_found (no m y) q = let z : ◌≡◌ {A = ℕ} 0 1 = cc q in absurd (omega arith)

-- so it meets what a run is held to
pub copier_ran : {A : Type 0} {p : Grammar A} {x y : Copier} {val : A → ℕ} {r : Either ℕ ℕ} → Comes copying p x val r y
    → Ran (source x.s.now x.l.now) p x.at x.words.now x.bytes.now val (walk_of r y.at) y.words.now y.bytes.now
copier_ran {p = p} {x = x} {y = y} {val = val} {r = r} h = record {
  told = sym (showing_told r y) ∙ ap showing h.told ∙ showing_shown val (along copying p x) ∙ ap (shown_run val) (same_run p x);
}

-- ---- the outputs that were lent stay the same

unfoldable kept : {A : Type 0} → Copier → End A Copier → Type 0
kept x (ok a y) = SameOutputs x y
kept x (no m y) = SameOutputs x y

kept_along : {A : Type 0} (p : Grammar A) (x : Copier) → kept x (along copying p x)
unfolding along kept
kept_along (done a) x = record { words = refl; bytes = refl }
kept_along {A} (ask k r next) x = go (λ v. kept_along (next v) (copied (bits k) v x)) (asked copying k r x)
  where
    on : (v : ℕ) (e : End A Copier) → kept (copied (bits k) v x) e → kept x e
    on v (ok a y) h = record { words = h.words; bytes = h.bytes }
    on v (no m y) h = record { words = h.words; bytes = h.bytes }

    under : (v : ℕ) → kept (copied (bits k) v x) (along copying (next v) (copied (bits k) v x)) → (o : Option ℕ)
        → kept x (tested o (along copying (next v) (copied (bits k) v x)) (λ m. no m x))
    under v h none = on v (along copying (next v) (copied (bits k) v x)) h
    under v h (some m) = record { words = refl; bytes = refl }

    go : ((v : ℕ) → kept (copied (bits k) v x) (along copying (next v) (copied (bits k) v x))) → (f : Field)
        → kept x (on_field f (λ v. tested (test r v) (along copying (next v) (copied (bits k) v x)) (λ m. no m x)) (λ m. no m x))
    go ih (Ok v) = under v (ih v) (test r v)
    go ih (Err m) = record { words = refl; bytes = refl }

kept_shown : {A V : Type 0} (x : Copier) (val : A → V) (e : End A Copier) → kept x e → kept x (shown val e)
unfolding kept shown
kept_shown x val (ok a y) h = h
kept_shown x val (no m y) h = h

kept_told : {V : Type 0} (x y : Copier) (r : Either V ℕ) → kept x (told_at r y) → SameOutputs x y
unfolding kept told_at
kept_told x y (Ok v) h = h
kept_told x y (Err m) h = h

pub copier_keeps : {A V : Type 0} {p : Grammar A} {x y : Copier} {val : A → V} {r : Either V ℕ} → Comes copying p x val r y → SameOutputs x y
copier_keeps {p = p} {x = x} {y = y} {val = val} {r = r} h =
    kept_told x y r (subst (kept x) (sym h.told) (kept_shown x val (along copying p x) (kept_along p x)))
