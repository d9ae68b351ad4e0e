-- Vertices and edges as objects, and how two of them lie to one another.
--   Object, IsObject            a vertex or an edge; one of the sides' vertices and edges
--   bottom, top, left, right    an object's lowest and highest vertex, and the nodes on its left and right
--   Before g o p, LeftOf g o p  a walk, possibly empty, leads up from the top of o to the bottom of p; one of the dual leads
--                               from the right of o to the left of p
--   Compared, OneOfFour         o is before or left of p, or p of o: some of the four holds; exactly one does
--   Trichotomy g                of every two different objects exactly one of the four holds
-- Letters: g sides, o and p objects.
use Rattle.std.specs.Prelude.{ℕ, ◌≢◌, ◌<◌}
use Rattle.st_ids.specs.Walks.{Reaches}
use Rattle.st_sides.specs.Sides.{SidesValue, edge_count, edge_tail, edge_head, face_left, face_right, left_of, right_of, primal, dual}

-- a vertex or an edge, by number
pub data Object : Type 0 where
  vertex : ℕ → Object
  edge : ℕ → Object

-- the number is that of a vertex or an edge of the sides
abbrev pub IsObject : SidesValue → Object → Type 0
IsObject g (vertex v) = v < g.vertices
IsObject g (edge e) = e < edge_count g

-- an edge's tail and head; a vertex itself
abbrev pub bottom : SidesValue → Object → ℕ
bottom g (vertex v) = v
bottom g (edge e) = edge_tail g e

abbrev pub top : SidesValue → Object → ℕ
top g (vertex v) = v
top g (edge e) = edge_head g e

-- the dual nodes on the left and on the right
abbrev pub left : SidesValue → Object → ℕ
left g (vertex v) = left_of g v
left g (edge e) = face_left g e

abbrev pub right : SidesValue → Object → ℕ
right g (vertex v) = right_of g v
right g (edge e) = face_right g e

-- of two different objects: a walk leads from o up to p
abbrev pub Before : SidesValue → Object → Object → Type 0
Before g o p = Reaches (primal g) (top g o) (bottom g p)

-- a walk of the dual, possibly empty, leads from the right of o to the left of p
abbrev pub LeftOf : SidesValue → Object → Object → Type 0
LeftOf g o p = Reaches (dual g) (right g o) (left g p)

-- how one object lies to another
pub data Compared (g : SidesValue) (o p : Object) : Type 0 where
  before : Before g o p → Compared g o p
  after : Before g p o → Compared g o p
  leftward : LeftOf g o p → Compared g o p
  rightward : LeftOf g p o → Compared g o p

-- Exactly one of the four holds.
pub record OneOfFour (g : SidesValue) (o p : Object) : Type 0 where
  pub some : Compared g o p
  pub not_before_after : Before g o p → Before g p o → ⊥
  pub not_before_left : Before g o p → LeftOf g o p → ⊥
  pub not_before_right : Before g o p → LeftOf g p o → ⊥
  pub not_after_left : Before g p o → LeftOf g o p → ⊥
  pub not_after_right : Before g p o → LeftOf g p o → ⊥
  pub not_left_right : LeftOf g o p → LeftOf g p o → ⊥

-- of every two different objects exactly one of the four holds
abbrev pub Trichotomy : SidesValue → Type 0
Trichotomy g = (o p : Object) → IsObject g o → IsObject g p → o ≢ p → OneOfFour g o p
