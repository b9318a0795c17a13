-- Where two terms part: if they differ and keep to one arity table, at exactly one number; if they are equal, nowhere.
use Prim.Native.Nat.{ℕ, zero, suc, ◌<◌}
use mathlib.Core.Path.{◌≡◌, refl, sym, ◌∙◌, ap, ap₂}
use mathlib.Core.Logic.{◌≢◌, ite}
use mathlib.Core.HLevel.{Discrete}
use mathlib.Core.List.{List, [], ◌∷◌, ◌++◌}
use mathlib.Core.Option.{Option, none, some, map, some-injective, none-ne-some, some-ne-none}
use native.Mathlib.Decide.{ℕ_discrete, dec_le}
use native.Mathlib.Omega.{arith}
use lib.ListN.{get_elem?}
use Rattle.patterns.specs.Term.{Term, var, fun, pow, Node, Node-discrete, nodes}
use Rattle.patterns.specs.Formed.{Formed}
use Rattle.patterns.specs.Edition.{Edition, form}
use Rattle.patterns.specs.Certificate.{Mark}
use Rattle.patterns.specs.Checks.{OnMark, SameMark}
use Rattle.patterns.specs.Parting.{Parts, PartMarks, nodes_of_mark, common, PartLists}
use Rattle.patterns.specs.Demand.{Demand, small, same, empty, present, level, missing, Comparable, Met, ApartAt, parting}
use Rattle.patterns.proofs.Formed.{begun_inj, nodes_inj, formed_norm}

module _ {E : Type 0} where
  -- ---- lists

  -- Two lists part at one number,
  pub lists_once : {ns ms : List (Node E)} {c d : ℕ} → PartLists ns ms c → PartLists ns ms d → c ≡ d
  lists_once {ns} {ms} {c} {d} p q = go (dec_le (suc c) d) (dec_le (suc d) c)
    where
      go : Dec (c < d) → Dec (d < c) → c ≡ d
      go (yes h) k = absurd (p.differ (q.before c h))
      go (no h) (yes k) = absurd (q.differ (p.before d k))
      go (no h) (no k) = omega arith

  -- and equal ones nowhere.
  pub lists_differ : {ns ms : List (Node E)} {c : ℕ} → PartLists ns ms c → ns ≢ ms
  lists_differ {c = c} p e = p.differ (ap (λ l. get_elem? l c) e)

  parts_at_once : (ns ms : List (Node E)) → get_elem? ns 0 ≢ get_elem? ms 0 → PartLists ns ms 0
  parts_at_once ns ms h = record { before = λ i z. absurd (omega arith); differ = h }

  both_go_on : {n m : Node E} {ns ms : List (Node E)} {c : ℕ} → n ≡ m → PartLists ns ms c → PartLists (n ∷ ns) (m ∷ ms) (suc c)
  both_go_on {n} {m} {ns} {ms} {c} e p = record { before = go; differ = p.differ }
    where
      go : (i : ℕ) → i < suc c → get_elem? (n ∷ ns) i ≡ get_elem? (m ∷ ms) i
      go zero z = ap {B = Option (Node E)} some e
      go (suc i) z = p.before i (omega arith)

  module _ (exponent? : Discrete E) where
    -- Different lists part behind what they have in common.
    pub common_parts : (ns ms : List (Node E)) → ns ≢ ms → PartLists ns ms (common exponent? ns ms)
    unfolding common
    common_parts [] [] h = absurd (h refl)
    common_parts [] (m ∷ ms) h = parts_at_once [] (m ∷ ms) (none-ne-some m)
    common_parts (n ∷ ns) [] h = parts_at_once (n ∷ ns) [] (some-ne-none n)
    common_parts (n ∷ ns) (m ∷ ms) h = go (Node-discrete ℕ_discrete exponent? n m) (common_parts ns ms)
      where
        go : (d : Dec (n ≡ m)) → (ns ≢ ms → PartLists ns ms (common exponent? ns ms))
            → PartLists (n ∷ ns) (m ∷ ms) (ite d (suc (common exponent? ns ms)) 0)
        go (yes e) f = both_go_on e (f (λ q. h (ap₂ {C = List (Node E)} ◌∷◌ e q)))
        go (no e) f = parts_at_once (n ∷ ns) (m ∷ ms) (λ q. e (some-injective n m q))

    pub common_once : {ns ms : List (Node E)} {c : ℕ} → PartLists ns ms c → common exponent? ns ms ≡ c
    common_once {ns} {ms} p = lists_once (common_parts ns ms (lists_differ p)) p

  -- a list that ends where another has as many nodes, all equal, begins it
  begins : (ns ms : List (Node E)) (c : ℕ) → get_elem? ns c ≡ none → ((i : ℕ) → i < c → get_elem? ns i ≡ get_elem? ms i)
      → (rest : List (Node E)) × (ns ++ rest ≡ ms)
  begins [] ms c e f = (ms, refl)
  begins (n ∷ ns) ms zero e f = absurd (some-ne-none n e)
  begins (n ∷ ns) [] (suc c) e f = absurd (some-ne-none n (f 0 (omega arith)))
  begins (n ∷ ns) (m ∷ ms) (suc c) e f =
      let b = begins ns ms c e (λ i z. f (suc i) (omega arith)) in
      (b.0, ap₂ {C = List (Node E)} ◌∷◌ (some-injective n m (f 0 (omega arith))) b.1)

  -- ---- terms

  pub parts_lists : {t u : Term E} {c : ℕ} → Parts t u c → PartLists (nodes t) (nodes u) c
  parts_lists {t} {u} {c} p = record {
    before = p.before;
    differ = λ e. p.differ (some-injective p.here p.there (sym p.first ∙ e ∙ p.second));
  }

  -- Two terms part at one number at most,
  pub parts_once : {t u : Term E} {c d : ℕ} → Parts t u c → Parts t u d → c ≡ d
  parts_once p q = lists_once (parts_lists p) (parts_lists q)

  -- equal ones nowhere,
  pub parts_differ : {t u : Term E} {c : ℕ} → Parts t u c → t ≢ u
  parts_differ p e = lists_differ (parts_lists p) (ap nodes e)

  -- and it is the same number from either side.
  pub parts_sym : {t u : Term E} {c : ℕ} → Parts t u c → Parts u t c
  parts_sym p = record {
    before = λ i z. sym (p.before i z);
    here = p.there;
    there = p.here;
    first = p.second;
    second = p.first;
    differ = λ e. p.differ (sym e);
  }

  module _ (ar : ℕ → ℕ) (t u : Term E) (h : Formed ar t) (k : Formed ar u) where
    -- Since a symbol has one arity, no list of nodes is a proper beginning of another: where two lists part, both have a node.
    pub lists_parts : {c : ℕ} → PartLists (nodes t) (nodes u) c → Parts t u c
    lists_parts {c} p = go (get_elem? (nodes t) c) refl (get_elem? (nodes u) c) refl
      where
        go : (n : Option (Node E)) → get_elem? (nodes t) c ≡ n → (m : Option (Node E)) → get_elem? (nodes u) c ≡ m → Parts t u c
        go none e none f = absurd (p.differ (e ∙ sym f))
        go none e (some m) f =
            let b = begins (nodes t) (nodes u) c e p.before in
            absurd (lists_differ p (ap nodes (begun_inj ar t u b.0 h k b.1)))
        go (some n) e none f =
            let b = begins (nodes u) (nodes t) c f (λ i z. sym (p.before i z)) in
            absurd (lists_differ p (ap nodes (sym (begun_inj ar u t b.0 k h b.1))))
        go (some n) e (some m) f = record {
          before = p.before;
          here = n;
          there = m;
          first = e;
          second = f;
          differ = λ q. p.differ (e ∙ ap {B = Option (Node E)} some q ∙ sym f);
        }

    -- Exactly one number fits two different terms over one arity table.
    pub one_parting : Discrete E → t ≢ u → (c : ℕ) × Parts t u c × ((d : ℕ) → Parts t u d → d ≡ c)
    one_parting exponent? n =
        let p = lists_parts (common_parts exponent? (nodes t) (nodes u) (λ e. n (nodes_inj ar t u h k e))) in
        (_, p, λ d q. parts_once q p)

  -- ---- marks

  has_root : (t : Term E) → (n : Node E) × (get_elem? (nodes t) 0 ≡ some n)
  unfolding nodes
  has_root (var x) = (_, refl)
  has_root (fun f ts) = (_, refl)
  has_root (pow s e t) = (_, refl)

  pub marks_lists : (m k : Mark E) {c : ℕ} → PartMarks m k c → PartLists (nodes_of_mark m) (nodes_of_mark k) c
  unfolding PartMarks nodes_of_mark
  marks_lists none none p = absurd p
  marks_lists none (some u) p =
      let r = has_root u in rw p (parts_at_once [] (nodes u) (λ e. none-ne-some r.0 (e ∙ r.1)))
  marks_lists (some t) none p =
      let r = has_root t in rw p (parts_at_once (nodes t) [] (λ e. some-ne-none r.0 (sym r.1 ∙ e)))
  marks_lists (some t) (some u) p = parts_lists p

  module _ (ar : ℕ → ℕ) where
    pub lists_marks : (m k : Mark E) → OnMark (Formed ar) m → OnMark (Formed ar) k → {c : ℕ} → PartLists (nodes_of_mark m) (nodes_of_mark k) c
        → PartMarks m k c
    unfolding PartMarks nodes_of_mark OnMark
    lists_marks none none h j p = absurd (p.differ refl)
    lists_marks none (some u) h j p = lists_once p (marks_lists none (some u) refl)
    lists_marks (some t) none h j p = lists_once p (marks_lists (some t) none refl)
    lists_marks (some t) (some u) h j p = lists_parts ar t u h j p

    pub mark_nodes_inj : (m k : Mark E) → OnMark (Formed ar) m → OnMark (Formed ar) k → nodes_of_mark m ≡ nodes_of_mark k → m ≡ k
    unfolding nodes_of_mark OnMark PartMarks
    mark_nodes_inj none none h j e = refl
    mark_nodes_inj none (some u) h j e = absurd (lists_differ (marks_lists none (some u) refl) e)
    mark_nodes_inj (some t) none h j e = absurd (lists_differ (marks_lists (some t) none refl) e)
    mark_nodes_inj (some t) (some u) h j e = ap {B = Mark E} some (nodes_inj ar t u h j e)

-- ---- what the refusal of a demand tells

module _ {E I R S : Type 0} (𝓔 : Edition E I R S) where
  pub formed_mark : (ar : ℕ → ℕ) (m : Mark E) → OnMark (Formed ar) m → OnMark (Formed ar) (map (form 𝓔) m)
  unfolding OnMark form
  formed_mark ar none h = tt
  formed_mark ar (some t) h = formed_norm ar 𝓔.exponents t h

  -- Sides that keep to one arity table and differ part where it is computed,
  pub parted_at : (ar : ℕ → ℕ) (d : Demand E) → Comparable ar d → ¬ (Met 𝓔 d) → ApartAt 𝓔 d (parting 𝓔 d)
  unfolding Comparable Met ApartAt parting SameMark
  parted_at ar (small m) h n = refl
  parted_at ar (same m k) h n =
      let a = formed_mark ar m h.0 in
      let b = formed_mark ar k h.1 in
      lists_marks ar (map (form 𝓔) m) (map (form 𝓔) k) a b
      (common_parts 𝓔.exponent? _ _ (λ e. n (mark_nodes_inj ar _ _ a b e)))
  parted_at ar (empty m) h n = refl
  parted_at ar (present m) h n = refl
  parted_at ar (level m) h n = refl
  parted_at ar missing h n = refl

  -- and nowhere else.
  pub parting_is : (d : Demand E) {c : ℕ} → ApartAt 𝓔 d c → parting 𝓔 d ≡ c
  unfolding ApartAt parting
  parting_is (small m) p = sym p
  parting_is (same m k) p = common_once 𝓔.exponent? (marks_lists (map (form 𝓔) m) (map (form 𝓔) k) p)
  parting_is (empty m) p = sym p
  parting_is (present m) p = sym p
  parting_is (level m) p = sym p
  parting_is missing p = sym p

  -- Sides that part are not equal.
  pub parts_unmet : (m k : Mark E) (c : ℕ) → ApartAt 𝓔 (same m k) c → ¬ (Met 𝓔 (same m k))
  unfolding ApartAt Met SameMark
  parts_unmet m k c p e = lists_differ (marks_lists (map (form 𝓔) m) (map (form 𝓔) k) p) (ap nodes_of_mark e)
