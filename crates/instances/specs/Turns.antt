-- A turn of the walk over a packed term: the node that comes next, and where the walk stands behind it.
use Rattle.std.specs.Prelude.{ℕ, ◌<◌, ◌≡◌, List, Option, Some, None}
use Rattle.instances.specs.Walks.{single, first_stand, ahead, ended, walk, Named}
use Rattle.instances.specs.declared.Header.{Header}
use Rattle.instances.specs.declared.Stand.{Stand}
use Rattle.instances.specs.declared.nodes.Walk.{Walk}

-- no node of the term at a bit was met yet
pub record Begins (book s : List ℕ) (at : ℕ) (r : Walk) : Type 0 where
  pub book_is : r.book.now ≡ book
  pub s_is : r.s.now ≡ s
  pub stand_is : r.stand ≡ first_stand at
  pub left_is : r.left ≡ 256

-- a node is met from where a walk stands, and then it stands at q, with fewer nodes allowed; 01: "a node is followed at once by its arguments"
pub record Meets (book s : List ℕ) (left : ℕ) (p : Stand) (h : Header) (rest : ℕ) (q : Stand) : Type 0 where
  pub some : rest < left
  pub named : Named h
  pub more : walk book s left p ≡ ahead (single h) (walk book s rest q)

-- the next node is met, or the walk is over
unfoldable pub Turned : List ℕ → List ℕ → ℕ → Stand → ℕ → Stand → Option Header → Type 0
Turned book s left p rest q (Some h) = Meets book s left p h rest q
Turned book s left p rest q None = walk book s left p ≡ ended q

pub record Turns (t u : Walk) (r : Option Header) : Type 0 where
  pub book_is : u.book.now ≡ t.book.now
  pub s_is : u.s.now ≡ t.s.now
  pub turned : Turned t.book.now t.s.now t.left t.stand u.left u.stand r
