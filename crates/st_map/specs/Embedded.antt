-- A digraph with a clockwise list of the edge ends at each vertex, and the faces that these lists make.
-- Letters: g graph, v vertex, e edge, d end (a dart), all by number. Edge e has the end 2e at its tail and the end
-- 2e + 1 at its head. With all edges going up, a clockwise list has the edges out from left to right and then the
-- edges in from right to left, from any of them on.
--   bare g            the digraph without the lists
--   edges g, darts g  how many edges, and how many ends
--   tail g e, head g e, at g d   the vertices of an edge, and the vertex of an end
--   order g v         the list of v, from its first end on
--   after first l d   the entry after d in a list, and first after the last entry
--   next g d          the clockwise next of d at its vertex
--   phi g d           the next end of the face of d: the clockwise next of its twin
--   face g d          the least end of the face of d, which stands for the face
--   faces g           how many faces: how many ends are least in their face
--   Touches g d v     the face of d has an end at v
--   HasOrders g       each list has each end at its vertex once, and no other
-- Rotation systems, with faces as the orbits of a permutation. No definition follows a walk of a program: a face is
-- given by all steps of phi.
use Rattle.std.specs.Prelude.{ℕ, ◌≡◌, ◌≢◌, ◌*◌, ◌<◌, ◌==◌, cond, List, [], ◌∷◌, length, slice_index, slice_index_or}
use Rattle.st_ids.specs.Ends.{twin, edge_of, is_out}
use Rattle.st_ids.specs.Graph.{Graph, HasEnds, tail_of, head_of}
use Rattle.st_map.specs.Counting.{count_below}
use Rattle.st_map.specs.Orbits.{SameOrbit, least_within}

pub record Embedded : Type 0 where
  pub vertices : ℕ
  -- the tail and the head of each edge
  pub ends : List (ℕ × ℕ)
  -- the ends of edges at each vertex, clockwise
  pub orders : List (List ℕ)

-- the digraph without the lists
abbrev pub bare : Embedded → Graph
bare g = record { vertices = g.vertices; ends = g.ends }

abbrev pub edges : Embedded → ℕ
edges g = length g.ends

-- how many ends there are
abbrev pub darts : Embedded → ℕ
darts g = 2 * edges g

abbrev pub tail : Embedded → ℕ → ℕ
tail g e = tail_of g.ends e

abbrev pub head : Embedded → ℕ → ℕ
head g e = head_of g.ends e

-- the list of v
abbrev pub order : Embedded → ℕ → List ℕ
order g v = slice_index_or g.orders v []

-- the vertex of an end
unfoldable pub at : Embedded → ℕ → ℕ
at g d = cond (is_out d) (tail g (edge_of d)) (head g (edge_of d))

-- the entry after d in a list, and first after the last entry
abbrev pub after : ℕ → List ℕ → ℕ → ℕ
after first [] d = first
after first (x ∷ xs) d = cond (x == d) (slice_index_or xs 0 first) (after first xs d)

-- the clockwise next in the cyclic list of the end's vertex
unfoldable pub next : Embedded → ℕ → ℕ
next g d = after (slice_index_or (order g (at g d)) 0 d) (order g (at g d)) d

-- the next end of the face
unfoldable pub phi : Embedded → ℕ → ℕ
phi g d = next g (twin d)

-- the least end of the face of d, which stands for the face
unfoldable pub face : Embedded → ℕ → ℕ
face g d = least_within (darts g) (phi g) d

-- how many ends are least in their face
unfoldable pub faces : Embedded → ℕ
faces g = count_below (darts g) (λ d. face g d == d)

-- one of the ends of the face of d is at v
abbrev pub Touches : Embedded → ℕ → ℕ → Type 0
Touches g d v = (c : ℕ) × (SameOrbit (phi g) d c) × (at g c ≡ v)

-- the list of each vertex has each end at the vertex once, and no other
pub record HasOrders (g : Embedded) : Type 0 where
  pub own : (v i : ℕ) → v < g.vertices → i < length (order g v) → (slice_index (order g v) i < darts g) × (at g (slice_index (order g v) i) ≡ v)
  pub listed : (d : ℕ) → d < darts g → (i : ℕ) × (i < length (order g (at g d))) × (slice_index (order g (at g d)) i ≡ d)
  pub once : (v i j : ℕ) → v < g.vertices → i < j → j < length (order g v) → slice_index (order g v) i ≢ slice_index (order g v) j

-- What holds of the graph of every map: its edges join vertices, and its lists are lawful.
pub record IsRotation (g : Embedded) : Type 0 where
  pub ends : HasEnds (bare g)
  pub orders : HasOrders g

-- What a map is seen as: its graph, and how many edges and vertices it has room for.
pub record MapValue : Type 0 where
  pub graph : Embedded
  pub spare : ℕ
