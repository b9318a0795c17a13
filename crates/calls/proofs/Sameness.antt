-- The same term at two places: as many nodes, the same ones, the first less what is used up.
use Prim.Native.Nat.{ℕ, zero, suc, ◌+◌, ◌*◌, ◌-◌, ◌≤◌, ◌<◌, ◌%◌, ◌/◌}
use mathlib.Core.Path.{◌≡◌, refl, sym, ◌∙◌, ap, ap₂, subst}
use mathlib.Core.Logic.{◌↔◌, ◌≢◌}
use mathlib.Core.Bool.{Bool, true, false}
use mathlib.Core.List.{List, [], ◌∷◌, ◌++◌, append_cancel_right}
use native.Mathlib.Decide.{ℕ_discrete, dec_le}
use native.Mathlib.Omega.{arith}
use lib.ListN.{length, get_or}
use lib.Dec.{eqb, leb}
use borrow.Author.Tests.{eq-eqb, ne_eqb, le-leb, lt-leb}
use Rattle.patterns.specs.Term.{Node, nvar, nfun, npow}
use Rattle.patterns.specs.First.{Exp}
use Rattle.covering.specs.Left.{Left, taken}
use Rattle.covering.proofs.Passing.{both}
use Rattle.table.specs.Places.{FIRST}
use Rattle.table.specs.Nodes.{node_of, node_at}
use Rattle.table.specs.Answer.{Says}
use Rattle.table.proofs.Nodes.{TellsNode, is_var, is_fun, is_pow, tells, is_power, no_power}
use Rattle.table.proofs.Answer.{says_true, says_false}
use Rattle.calls.specs.Standing.{counted, counted_node, nodes_from, rest, less, lessened, left_at, end_of, Spans, Ends}
use Rattle.calls.specs.Moving.{Term, SameTerms}
use Rattle.calls.specs.declared.Place.{Place}
use Rattle.calls.proofs.Standing.{rest_end, nodes_split, nodes_length, lessened_none, taken_lessened}

-- ---- two nodes

-- the first word of a node
code : Node ℕ → ℕ
code (nvar x) = 3 * x
code (nfun f) = 3 * f + 1
code (npow s n) = 3 * s + 2

code_told : (u c a b : ℕ) → code (less u (counted (node_of c a b))) ≡ c
unfolding code less counted
code_told u c a b = go (tells c a b)
  where
    go : {m : Node Exp} → TellsNode c a b m → code (less u (counted m)) ≡ c
    go (is_var x p) = sym p
    go (is_fun f p) = sym p
    go (is_pow s p) = sym p

-- what is left of nothing but a power is the node
less_plain : (u v c a b x y : ℕ) → c % 3 ≢ 2 → less u (counted (node_of c a b)) ≡ less v (counted (node_of c x y))
unfolding less counted
less_plain u v c a b x y h = subst (λ m. less u (counted (node_of c a b)) ≡ less v (counted m)) (no_power c a b x y h) (go (tells c a b))
  where
    go : {m : Node Exp} → TellsNode c a b m → less u (counted m) ≡ less v (counted m)
    go (is_var z p) = refl
    go (is_fun f p) = refl
    go (is_pow s p) = absurd (h (omega arith))

module _ (w : List ℕ) (p q : Place) where
  abbrev a : ℕ
  a = FIRST + 3 * p.node

  abbrev b : ℕ
  b = FIRST + 3 * q.node

  abbrev pub Alike : Bool → Type 0
  Alike r = Says (less p.used (counted_node w p.node) ≡ less q.used (counted_node w q.node)) r

  pub alike_code : get_or w a 0 ≢ get_or w b 0 → Alike false
  unfolding Says counted_node node_at
  alike_code h z = h (sym (code_told p.used _ _ _) ∙ ap code z ∙ code_told q.used _ _ _)

  module _ (e : get_or w a 0 ≡ get_or w b 0) where
    pub alike_plain : get_or w a 0 % 3 ≢ 2 → Alike true
    unfolding Says counted_node node_at
    alike_plain h =
        subst (λ c. less p.used (counted (node_at w a)) ≡ less q.used (counted (node_of c (get_or w (b + 1) 0) (get_or w (b + 2) 0)))) e
        (less_plain p.used q.used (get_or w a 0) _ _ _ _ h)

    module _ (h : get_or w a 0 % 3 ≡ 2) where
      left_power : less p.used (counted_node w p.node) ≡ npow (get_or w a 0 / 3) (get_or w (a + 2) 0 - p.used)
      unfolding counted_node node_at counted less
      left_power = ap (λ m. less p.used (counted m)) (is_power (get_or w a 0) _ _ h)

      right_power : less q.used (counted_node w q.node) ≡ npow (get_or w a 0 / 3) (get_or w (b + 2) 0 - q.used)
      unfolding counted_node node_at counted less
      right_power =
          ap (λ m. less q.used (counted m)) (is_power (get_or w b 0) _ _ (sym (ap (λ c. c % 3) e) ∙ h))
          ∙ ap (λ c. npow (c / 3) (get_or w (b + 2) 0 - q.used)) (sym e)

      pub alike_power : {m n : ℕ} → m ≡ get_or w (a + 2) 0 - p.used → n ≡ get_or w (b + 2) 0 - q.used → Alike (eqb m n)
      unfolding Says
      alike_power {m} {n} x y = go (ℕ_discrete m n)
        where
          go : Dec (m ≡ n) → Alike (eqb m n)
          go (yes g) = rw (eq-eqb m n g) (left_power ∙ ap (npow (get_or w a 0 / 3)) (sym x ∙ g ∙ y) ∙ sym right_power)
          go (no g) = rw (ne_eqb m n g) (λ z. g (x ∙ numbers (sym left_power ∙ z ∙ right_power) ∙ sym y))
            where
              numbers : {s i j : ℕ} → ◌≡◌ {A = Node ℕ} (npow s i) (npow s j) → i ≡ j
              numbers z = cc

-- ---- so many nodes

abbrev Equal : List ℕ → Place → Place → ℕ → Type 0
Equal w p q n = lessened p.used (nodes_from w p.node n) ≡ lessened q.used (nodes_from w q.node n)

abbrev next : Place → Place
next p = record { node = p.node + 1; used = 0 }

-- of n nodes from p and from q on, i were met and are the same; the others stand from a and from b on
pub record Comparing (w : List ℕ) (p q : Place) (n : ℕ) (a b : Place) (i : ℕ) : Type 0 where
  pub whole : Equal w a b (n - i) ↔ Equal w p q n
  pub first : a.node ≡ p.node + i
  pub second : b.node ≡ q.node + i

module _ {w : List ℕ} {p q : Place} {n : ℕ} where
  pub comparing_start : Comparing w p q n p q 0
  comparing_start =
      let all : n - 0 ≡ n = omega arith in
      record { whole = (subst (Equal w p q) all, subst (Equal w p q) (sym all)); first = omega arith; second = omega arith }

  module _ {a b : Place} {i : ℕ} (h : Comparing w p q n a b i) where
    pub comparing_over : n ≤ i → Says (Equal w p q n) true
    unfolding Says nodes_from lessened
    comparing_over z = h.whole.0 (go (n - i) (omega arith))
      where
        go : (m : ℕ) → m ≡ 0 → Equal w a b m
        go zero e = refl
        go (suc m) e = absurd (omega arith)

    module _ (some : i < n) where
      heads : (u : Place)
          → lessened u.used (nodes_from w u.node (n - i)) ≡ less u.used (counted_node w u.node) ∷ nodes_from w (u.node + 1) (n - (i + 1))
      unfolding nodes_from lessened
      heads u =
          let x : n - i ≡ suc (n - (i + 1)) = omega arith in
          let y : suc u.node ≡ u.node + 1 = omega arith in
          ap (λ m. lessened u.used (nodes_from w u.node m)) x
          ∙ ap (λ j. less u.used (counted_node w u.node) ∷ nodes_from w j (n - (i + 1))) y

      pub comparing_not : (r : Bool) → Alike w a b r → r ≡ false → Says (Equal w p q n) false
      unfolding Says
      comparing_not r s e z = says_false r s e (front (sym (heads a) ∙ h.whole.1 z ∙ heads b))
        where
          front : {m k : Node ℕ} {ms ks : Left} → ◌≡◌ {A = Left} (m ∷ ms) (k ∷ ks) → m ≡ k
          front z = cc

      pub comparing_on : (r : Bool) → Alike w a b r → r ≡ true → Comparing w p q n (next a) (next b) (i + 1)
      comparing_on r s e = record {
        whole = (
          λ z.
              h.whole.0
              (heads a
              ∙ ap₂ ◌∷◌ (says_true r s e) (sym (lessened_none _) ∙ z ∙ lessened_none _)
              ∙ sym (heads b)),
          λ z. lessened_none _ ∙ back (sym (heads a) ∙ h.whole.1 z ∙ heads b) ∙ sym (lessened_none _),
        );
        first = omega (arith, h.first);
        second = omega (arith, h.second);
      }
        where
          back : {m k : Node ℕ} {ms ks : Left} → ◌≡◌ {A = Left} (m ∷ ms) (k ∷ ks) → ms ≡ ks
          back z = cc

-- ---- a whole term

module _ {w : List ℕ} {k : ℕ} (s : Spans w k 0) where
  -- its nodes are those up to its end
  pub term_nodes : {j : ℕ} → j < k → Term w k j (end_of w j - j)
  unfolding rest
  term_nodes {j} h = record {
    told = λ ar e. told ar e;
    some = omega (arith, s.after j (omega arith) h);
    within = omega (arith, s.after j (omega arith) h, s.within j (omega arith) h);
  }
    where
      n : ℕ
      n = end_of w j - j

      split : rest w k j ≡ nodes_from w j n ++ rest w k (end_of w j)
      split =
          let x : k - j ≡ n + (k - end_of w j) = omega (arith, s.after j (omega arith) h, s.within j (omega arith) h) in
          let y : j + n ≡ end_of w j = omega (arith, s.after j (omega arith) h) in
          ap (nodes_from w j) x ∙ nodes_split w n (k - end_of w j) j ∙ ap (λ i. nodes_from w j n ++ nodes_from w i (k - end_of w j)) y

      told : (ar : ℕ → ℕ) → Ends ar w k 0 → taken ar (rest w k j) 1 ≡ nodes_from w j n
      told ar e =
          let cut : taken ar (rest w k j) 1 ++ rest w k (end_of w j) ≡ nodes_from w j n ++ rest w k (end_of w j) =
          ap (λ ms. taken ar (rest w k j) 1 ++ ms) (sym (e.each j (omega arith) h)) ∙ both ar (rest w k j) 1 ∙ split in
          append_cancel_right _ _ _ cut

module _ (w : List ℕ) (k : ℕ) where
  -- nothing is left from a place on
  gone : (u : Place) → k ≤ u.node → (ar : ℕ → ℕ) → taken ar (left_at w k u) 1 ≡ []
  unfolding left_at lessened taken
  gone u h ar = ap (λ ms. taken ar (lessened u.used ms) 1) (rest_end w k u.node h)

  module _ (n : ℕ) (u : Place) (t : Term w k u.node n) where
    -- a term has its nodes, the first less what is used up
    pub own : (ar : ℕ → ℕ) → Ends ar w k 0 → taken ar (left_at w k u) 1 ≡ lessened u.used (nodes_from w u.node n)
    unfolding left_at
    own ar e = taken_lessened ar u.used (rest w k u.node) ∙ ap (lessened u.used) (t.told ar e)

    own_length : (ar : ℕ → ℕ) → Ends ar w k 0 → length (taken ar (left_at w k u) 1) ≡ n
    unfolding lessened
    own_length ar e = ap length (own ar e) ∙ kept u.used (nodes_from w u.node n) ∙ nodes_length w u.node n
      where
        kept : (i : ℕ) (ms : Left) → length (lessened i ms) ≡ length ms
        kept i [] = refl
        kept i (m ∷ ms) = refl

  module _ (s : Spans w k 0) where
    there : (u : Place) → u.node < k → (ar : ℕ → ℕ) → Ends ar w k 0 → taken ar (left_at w k u) 1 ≢ []
    there u h ar e z = let t = term_nodes s h in omega (arith, t.some, own_length _ u t ar e, ap length z)

    -- nothing is left from p on: the same as nothing
    pub same_gone : (p q : Place) → k ≤ p.node → SameTerms w k p q (leb k q.node)
    unfolding Says
    same_gone p q x = go (dec_le k q.node)
      where
        go : Dec (k ≤ q.node) → SameTerms w k p q (leb k q.node)
        go (yes y) = record { told = λ ar e. rw (le-leb k q.node y) (gone p x ar ∙ sym (gone q y ar)) }
        go (no y) = record { told = λ ar e. rw (lt-leb k q.node (omega arith)) (λ z. there q (omega arith) ar e (sym z ∙ gone p x ar)) }

    pub same_not_gone : (p q : Place) → p.node < k → k ≤ q.node → SameTerms w k p q false
    unfolding Says
    same_not_gone p q x y = record { told = λ ar e z. there p x ar e (z ∙ gone q y ar) }

  module _ (n m : ℕ) (p q : Place) (t : Term w k p.node n) (u : Term w k q.node m) where
    pub same_longer : m ≢ n → SameTerms w k p q false
    unfolding Says
    same_longer d = record { told = λ ar e z. d (sym (own_length _ q u ar e) ∙ sym (ap length z) ∙ own_length _ p t ar e) }

    pub same_nodes : {r : Bool} → m ≡ n → Says (Equal w p q n) r → SameTerms w k p q r
    same_nodes {r} e h = record {
      told = λ ar x.
          subst (λ ms. Says (ms ≡ taken ar (left_at w k q) 1) r) (sym (own _ p t ar x))
          (subst (λ ms. Says (lessened p.used (nodes_from w p.node n) ≡ ms) r)
          (sym (own _ q u ar x ∙ ap (λ i. lessened q.used (nodes_from w q.node i)) e)) h);
    }
