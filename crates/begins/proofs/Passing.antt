-- Terms, rules and rights are passed to the bit behind them.
use Prim.Native.Nat.{ℕ, ◌+◌, ◌-◌}
use mathlib.Core.Path.{◌≡◌, sym, subst}
use mathlib.Core.Logic.{◌≢◌}
use mathlib.Core.List.{List, [], ◌∷◌, flat_map}
use mathlib.Core.Option.{none, some}
use native.Mathlib.Omega.{arith}
use lib.ListN.{length}
use Rattle.bits.specs.Packed.{width}
use Rattle.bits.proofs.Groups.{width_append}
use Rattle.patterns.specs.First.{Exp, Pattern}
use Rattle.patterns.specs.Every.{Every}
use Rattle.patterns.specs.Certificate.{Mark}
use Rattle.patterns.specs.Checks.{OnMark}
use Rattle.grammar.specs.Listing.{if_any, term_fields, rule_fields}
use Rattle.grammar.specs.Limits.{RootFits}
use Rattle.instances.specs.declared.Read.{Read}
use Rattle.instances.specs.Lying.{Lies, KnownArities}
use Rattle.instances.specs.Instances.{Skips}
use Rattle.begins.specs.Placed.{Passes, PassesRule, RightAt, PassesRight}
use Rattle.instances.specs.Taking.{Takes}
use Rattle.instances.proofs.Taking.{term_at}
use Rattle.instances.proofs.Lying.{lies_rest, lies_front, lies_back}

-- what `Passes` tells
abbrev PassesTold : List ℕ → List ℕ → (at n r : ℕ) → Type 0
PassesTold book s at n r =
    (ars : List ℕ) (ts : List Pattern) → KnownArities book ars → length ts ≡ n → Every (RootFits ars) ts
    → Lies s at (flat_map term_fields ts) → r ≡ at + width (flat_map term_fields ts)

pub passes_none : (book s : List ℕ) (at n : ℕ) → n ≡ 0 → Passes book s at n at
unfolding flat_map width
passes_none book s at n e = record { told = go }
  where
    go : PassesTold book s at n at
    go ars [] k l f p = omega arith
    go ars (t ∷ ts) k l f p = absurd (omega arith)

pub passes_one : (book s : List ℕ) (at n next r : ℕ) → n ≢ 0 → Skips book s at next → Passes book s next (n - 1) r → Passes book s at n r
unfolding flat_map Every
passes_one book s at n next r ne skips rest = record { told = go }
  where
    go : PassesTold book s at n r
    go ars [] k l f p = absurd (ne (sym l))
    go ars (t ∷ ts) k l f p =
        let here = skips.told t (term_at k f.0.fits (lies_front s at (term_fields t) (flat_map term_fields ts) p)) in
        let behind = lies_back s at (term_fields t) (flat_map term_fields ts) p in
        omega (
          arith,
          width_append (term_fields t) (flat_map term_fields ts),
          here,
          rest.told ars ts k (omega arith) f.1 (subst (λ a. Lies s a (flat_map term_fields ts)) (sym here) behind),
        )

-- what the loop over terms keeps: where the m terms left end, all n do
pub record PassesOn (book s : List ℕ) (at n here m : ℕ) : Type 0 where
  pub whole : {r : ℕ} → Passes book s here m r → Passes book s at n r

pub terms_here : {book s : List ℕ} {at n m : ℕ} → m ≡ n → PassesOn book s at n at m
terms_here {book} {s} {at} e = record { whole = λ {r} h. subst (λ k. Passes book s at k r) e h }

module _ {book s : List ℕ} {at n here m : ℕ} (P : PassesOn book s at n here m) where
  pub terms_end : m ≡ 0 → Passes book s at n here
  terms_end z = P.whole (passes_none book s here m z)

  pub terms_on : {next less : ℕ} → m ≢ 0 → less ≡ m - 1 → Skips book s here next → PassesOn book s at n next less
  terms_on {next} ne l skips = record { whole = λ {r} h. P.whole (passes_one book s here m next r ne skips (subst (λ k. Passes book s next k r) l h)) }

pub passes_rule : (book : List ℕ) (at r : ℕ) (c : Read) → Takes book 4 at c → Passes book book c.at (c.value + 1) r → PassesRule book at r
unfolding rule_fields flat_map width Every
passes_rule book at r c t p = record {
  told = λ ars u k h.
      let all = flat_map term_fields (u.head ∷ u.calls) in
      let x = t.told (length u.calls) all h.lies in
      let behind = lies_rest book at 4 (length u.calls) all h.lies in
      omega (
        arith,
        x.1,
        p.told ars (u.head ∷ u.calls) k (omega (arith, x.0)) (h.fits.head, h.fits.calls)
            (subst (λ a. Lies book a all) (sym x.1) behind),
      );
}

pub passes_no_right : (book cert : List ℕ) (at : ℕ) (c : Read) → Takes cert 1 at c → c.value ≡ 0 → PassesRight book cert at c.at
unfolding if_any width
passes_no_right book cert at c t z = record { told = go }
  where
    go : (ars : List ℕ) (m : Mark Exp) → KnownArities book ars → RightAt cert ars at m → c.at ≡ at + width (if_any term_fields m)
    go ars none k h = omega (arith, (t.told 0 [] h.lies).1)
    go ars (some u) k h = absurd (omega (arith, (t.told 1 (term_fields u) h.lies).0))

pub passes_some_right : (book cert : List ℕ) (at r : ℕ) (c : Read) → Takes cert 1 at c → c.value ≢ 0 → Skips book cert c.at r → PassesRight book cert at r
unfolding if_any width OnMark
passes_some_right book cert at r c t ne s = record { told = go }
  where
    go : (ars : List ℕ) (m : Mark Exp) → KnownArities book ars → RightAt cert ars at m → r ≡ at + width (if_any term_fields m)
    go ars none k h = absurd (ne (t.told 0 [] h.lies).0)
    go ars (some u) k h =
        let x = t.told 1 (term_fields u) h.lies in
        let behind = lies_rest cert at 1 1 (term_fields u) h.lies in
        omega (arith, x.1, s.told u (term_at k h.fits (subst (λ a. Lies cert a (term_fields u)) (sym x.1) behind)))
