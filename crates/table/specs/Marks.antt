-- What a side of a comparison holds: the normal form of a term, or nothing for the empty mark.
use Rattle.std.specs.Prelude.{ℕ, ◌≤◌, ◌<◌, ◌≡◌, List, [], length}
use Rattle.std.proofs.Math.Option.{none, some, map}
use Rattle.patterns.specs.Term.{Node, nodes}
use Rattle.patterns.specs.Edition.{form}
use Rattle.patterns.specs.Certificate.{Mark}
use Rattle.patterns.specs.First.{Exp, one}
use Rattle.table.specs.Places.{NODES}
use Rattle.table.specs.Nodes.{side}
use Rattle.std.specs.Prelude.{Option, Some, None}

-- 01: "The empty mark has no nodes"
unfoldable pub mark_nodes : Mark Exp → List (Node Exp)
mark_nodes none = []
mark_nodes (some t) = nodes t

-- 01: "Instances are compared by normal form"
abbrev pub form_nodes : Mark Exp → List (Node Exp)
form_nodes m = mark_nodes (map (form one) m)

-- the nodes of the normal form stand at `base`, or there are more than 1,024
unfoldable pub Built : ℕ → Mark Exp → List ℕ → Option ℕ → Type 0
Built base m after (Some k) = (k ≤ NODES) × (side after base k ≡ form_nodes m)
Built base m after None = NODES < length (form_nodes m)
