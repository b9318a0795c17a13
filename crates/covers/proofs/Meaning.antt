-- What an answer says of the accepted family: the call is in it and never gets stuck; no lone variable is in it; how large its index is.
use Prim.Native.Nat.{ℕ, ◌≤◌}
use mathlib.Core.Logic.{◌↔◌}
use mathlib.Core.Path.{◌≡◌, refl, sym, ◌∙◌, ap, subst}
use mathlib.Core.List.{List}
use mathlib.Core.Option.{Option, none, some, some-injective}
use native.Mathlib.Omega.{arith}
use Rattle.answers.specs.Numbers.{covered_at}
use Rattle.patterns.specs.Term.{var, All}
use Rattle.patterns.specs.Edition.{at}
use Rattle.patterns.specs.First.{Level, one}
use Rattle.patterns.specs.Claims.{Family}
use Rattle.patterns.specs.Judge.{accept, judge}
use Rattle.covering.specs.Covers.{Covers, Smallest, Answers}
use Rattle.covering.proofs.Covering.{none_beyond, covers_at_start}
use Rattle.covering.proofs.Family.{family_exactly, covered_never_stuck, variable_not_covered}
use Rattle.grammar.specs.Books.{arity_in}
use Rattle.grammar.proofs.FixedBooks.{book_fixed}
use Rattle.verdicts.proofs.Demands.{trees_judged, acceptable_accepted}
use Rattle.covers.specs.Asking.{told_index, asking}
use Rattle.covers.specs.Covered.{Asked, CoversAt, Uncovered, CallNeverStuck}
use Rattle.covers.proofs.Fitting.{is_call, book_rooted}
use Rattle.covers.proofs.Exactly.{search_of, asked_told, search_exactly}

module _ {book certificate call : List ℕ} {size : ℕ} (g : Asked book certificate call size) where
  -- the trees of both files are accepted
  trees_accepted : judge one g.accepted.rule_book.rules g.accepted.tree ≡ accept g.line g.pace
  trees_accepted =
      let a = g.accepted in
      sym (trees_judged book certificate size a.table a.rule_book a.book_file a.tree a.certificate_file)
      ∙ acceptable_accepted book certificate size g.line g.pace a

  -- ---- the index

  -- whatever is answered is the smallest
  pub told_smallest : (i : ℕ) → asking book certificate call size ≡ covered_at i → Smallest g.claim.left g.pace.α g.term i
  unfolding told_index Answers
  told_smallest i e = go (search_of g) refl (sym (asked_told g) ∙ e)
    where
      go : (o : Option ℕ) → search_of g ≡ o → told_index o ≡ covered_at i → Smallest g.claim.left g.pace.α g.term i
      go none s q = let z : ◌≡◌ {A = ℕ} 0 1 = cc in absurd (omega arith)
      go (some j) s q = let k : j ≡ i = cc in (search_exactly g (some i)).0 (s ∙ ap {B = Option ℕ} some k)

  -- 02: "No search beyond index 4,095 is needed when the pattern has a power with a above 0"
  pub none_covers_beyond : ¬ All Level g.claim.left → (i : ℕ) → CoversAt g i → i ≤ 4095
  none_covers_beyond moves i v =
      none_beyond (arity_in g.accepted.rule_book.arities) g.claim.left g.pace.α g.term g.call_file.limits.formed
      (is_call g.call_file.limits) moves i v

  -- 02: "A pattern without index answers α."
  pub level_starts : All Level g.claim.left → (i : ℕ) → Smallest g.claim.left g.pace.α g.term i → i ≡ g.pace.α
  level_starts still i s =
      let l = s.least g.pace.α (covers_at_start g.claim.left g.pace.α g.term still i s.covers) in
      let m = s.covers.from in
      omega arith

  -- ---- the family

  -- some index is answered exactly if the call is in the accepted family
  pub told_family : ((i : ℕ) × (asking book certificate call size ≡ covered_at i)) ↔ Family one g.claim g.pace (at one 0 g.term)
  unfolding told_index Answers
  told_family = (
    λ t. (family_exactly g.claim g.pace g.term).1 (t.0, (told_smallest t.0 t.1).covers),
    λ f. go (search_of g) refl ((family_exactly g.claim g.pace g.term).0 f),
  )
    where
      go : (o : Option ℕ) → search_of g ≡ o → (i : ℕ) × CoversAt g i → (i : ℕ) × (asking book certificate call size ≡ covered_at i)
      go none s v = absurd ((search_exactly g none).0 s v.0 v.1)
      go (some i) s v = (i, asked_told g ∙ ap told_index s)

  -- no lone variable is in the accepted family
  pub no_variable : (x : ℕ) → g.term ≡ var x → Uncovered book certificate call size
  no_variable x e =
      let a = g.accepted in
      let n =
      variable_not_covered a.rule_book.rules (book_fixed a.rule_book a.book_file.limits)
      (book_rooted a.rule_book a.book_file.limits) a.tree g.line g.pace.k g.pace.α trees_accepted in
      let p = some-injective g.claim n.0 (sym g.named ∙ n.1) in
      record {
        asked = g;
        never = λ i v.
            n.2 x i (subst (λ c. Covers n.0.left g.pace.α c i) e (subst (λ q. Covers q.left g.pace.α g.term i) p v));
      }

  pub covered_derives : (i : ℕ) → CoversAt g i → CallNeverStuck book call
  covered_derives i v =
      let a = g.accepted in
      let n =
      covered_never_stuck a.rule_book.rules (book_fixed a.rule_book a.book_file.limits) a.tree g.line g.pace.k
      g.pace.α trees_accepted in
      let p = some-injective g.claim n.0 (sym g.named ∙ n.1) in
      record {
        rule_book = a.rule_book;
        book_file = a.book_file;
        term = g.term;
        call_file = g.call_file;
        derives = n.2 g.term i (subst (λ q. Covers q.left g.pace.α g.term i) p v);
      }
