-- Where two terms part. 02, Ticket 3: "the number, in preorder of the normal forms and counted from 0, of the first node that differs".
use Rattle.std.specs.Prelude.{ℕ, suc, ◌<◌, ◌≡◌, ◌≢◌, List, [], ◌∷◌}
use Rattle.std.proofs.Math.Logic.{ite}
use mathlib.Core.HLevel.{Discrete}
use Rattle.std.proofs.Math.Option.{none, some}
use Rattle.std.proofs.Math.Decide.{ℕ_discrete}
use Rattle.std.proofs.Math.ListN.{get_elem?}
use Rattle.patterns.specs.Term.{Term, Node, Node-discrete, nodes}
use Rattle.patterns.specs.Certificate.{Mark}

-- the nodes before number c are equal, one for one, and the nodes at c are there on both sides and differ
pub record Parts {E : Type 0} (t u : Term E) (c : ℕ) : Type 0 where
  pub before : (i : ℕ) → i < c → get_elem? (nodes t) i ≡ get_elem? (nodes u) i
  pub here : Node E
  pub there : Node E
  pub first : get_elem? (nodes t) c ≡ some here
  pub second : get_elem? (nodes u) c ≡ some there
  pub differ : here ≢ there

-- of two sides of a comparison. 02: "if only one side is the empty mark, [..] C is 0"
unfoldable pub PartMarks : {E : Type 0} → Mark E → Mark E → ℕ → Type 0
PartMarks none none c = ⊥
PartMarks none (some u) c = c ≡ 0
PartMarks (some t) none c = c ≡ 0
PartMarks (some t) (some u) c = Parts t u c

-- 01: "The empty mark has no nodes"
unfoldable pub nodes_of_mark : {E : Type 0} → Mark E → List (Node E)
nodes_of_mark none = []
nodes_of_mark (some t) = nodes t

-- how many nodes two lists have in common, from the first on
module _ {E : Type 0} (exponent? : Discrete E) where
  unfoldable pub common : List (Node E) → List (Node E) → ℕ
  common [] ms = 0
  common (n ∷ ns) [] = 0
  common (n ∷ ns) (m ∷ ms) = let more = suc (common ns ms) in ite (Node-discrete ℕ_discrete exponent? n m) more 0

-- the same of any two lists of nodes: number c is the first at which they have not the same, be it that one has ended
pub record PartLists {E : Type 0} (ns ms : List (Node E)) (c : ℕ) : Type 0 where
  pub before : (i : ℕ) → i < c → get_elem? ns i ≡ get_elem? ms i
  pub differ : get_elem? ns c ≢ get_elem? ms c
