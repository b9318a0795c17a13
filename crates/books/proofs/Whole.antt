-- The walk over a whole book: its rules are read with the arities that stand before them.
use Rattle.std.specs.Prelude.{Result, Ok, Err}
use Prim.Native.Nat.{ℕ}
use mathlib.Core.Path.{◌≡◌, refl, sym, ◌∙◌, ap, subst}
use mathlib.Core.List.{List}
use native.Mathlib.Omega.{arith}
use Rattle.patterns.specs.First.{Exp}
use Rattle.patterns.specs.Derive.{Book}
use Rattle.fields.specs.Grammar.{done}
use Rattle.fields.specs.Along.{Steps, End, along, Comes}
use Rattle.fields.specs.Along.End.{ok, no}
use Rattle.fields.proofs.Alongs.{go_on, along_bind, found, refused, seq_no, seq_found, seq_last}
use Rattle.grammar.specs.Books.{RuleBook, arity_in, a_signature, a_rule_list, a_book}
use Rattle.grammar.specs.Limits.{call_counts}
use Rattle.books.specs.Counts.{noted, how_many_rules, CountedAlong, CountedBookAlong}
use Rattle.books.specs.Whole.{Agrees, ReadsBook, CountsBook}

module _ {V S : Type 0} {st : Steps S} (ar : ℕ → ℕ) {val : List ℕ → V} {x y : S} {r : Result V ℕ} (first : Comes st a_signature x val r y) where
  pub book_no : {m : ℕ} {r₂ : Result ℕ ℕ} → r ≡ Err m → r₂ ≡ Err m → ReadsBook st ar x r₂ y
  unfolding a_book
  book_no e q = record { comes = λ known. seq_no first _ e q }

  pub book_on : {v : V} {r₂ : Result ℕ ℕ} {z : S} → r ≡ Ok v → Comes st (a_rule_list ar) y how_many_rules r₂ z → ReadsBook st ar x r₂ z
  unfolding a_book
  book_on {v} {r₂} {z} e second = record {
    comes = λ known.
        seq_found first _ e
        (λ ars n q. seq_last _ (λ rs. refl) (subst (λ f. Comes st (a_rule_list f) y how_many_rules r₂ z) (known ars y q) second));
  }

  pub book_counted : {v : V} {cs after : List ℕ} → r ≡ Ok v → CountedAlong st (a_rule_list ar) y 0 cs after → CountsBook st ar x cs after
  unfolding a_book go_on
  book_counted {v} {cs} {after} e rest = record { counted = λ known. go known }
    where
      last : (ars : List ℕ) → CountedAlong st (a_rule_list (arity_in ars)) y 0 cs after → (b : RuleBook) (z : S) (w : End (Book Exp) S)
          → along st (a_rule_list (arity_in ars)) y ≡ w
          → go_on st (λ rs. done (record { arities = ars; rules = rs })) w ≡ ok b z
          → after ≡ noted cs 0 (call_counts b.rules)
      last ars k b z (ok rs t) g q = k.all rs t g ∙ ap (λ (c : RuleBook). noted cs 0 (call_counts c.rules)) (same q)
        where
          same : along st (done (record { arities = ars; rules = rs })) t ≡ ok b z → record { arities = ars; rules = rs } ≡ b
          same e = unfold along in cc e
      last ars k b z (no m t) g q = let o : ◌≡◌ {A = ℕ} 0 1 = cc in absurd (omega arith)

      go : Agrees st ar x → CountedBookAlong st x cs after
      go known =
          let f = found first e in
          let k = subst (λ g. CountedAlong st (a_rule_list g) y 0 cs after) (known f.0 y f.2) rest in
          record {
            all = λ b z q.
                last f.0 k b z (along st (a_rule_list (arity_in f.0)) y) refl
                (sym
                (along_bind st _ a_signature x ∙ ap (go_on st _) f.2
                ∙ along_bind st (λ rs. done (record { arities = f.0; rules = rs })) (a_rule_list (arity_in f.0)) y)
                ∙ q);
          }

  pub book_uncounted : {m : ℕ} {cs : List ℕ} → r ≡ Err m → CountsBook st ar x cs cs
  unfolding a_book go_on
  book_uncounted {m} e = record {
    counted = λ known. record {
      all = λ b z q.
          let o : ◌≡◌ {A = End RuleBook S} (no m y) (ok b z) =
          sym (along_bind st _ a_signature x ∙ ap (go_on st _) (refused first e)) ∙ q in
          let u : ◌≡◌ {A = ℕ} 0 1 = cc in absurd (omega arith);
    };
  }
