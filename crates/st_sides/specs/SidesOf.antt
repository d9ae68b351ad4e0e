-- A value of sides is that of an embedded graph.
-- Letters: g graph with its lists, s source, t sink, outer an end on the outer face, x value of sides.
--   IsSidesOf g s t outer x    x has the sides of g
--   told_graph x               the graph that x tells: at each vertex the edges out and then those in, clockwise
--   IsOwn x                    x has the sides of that graph
--   ExistLaw                   each planar st-graph has a value of sides
-- Of the sides of every planar st-graph:
--   MeaningLaw                 all holds near each vertex and each face
--   OwnLaw                     they are the sides of the graph that they tell
--   SweptLaw                   there are boundaries that grow face by face, and a sweep
--   TrichotomyLaw              of two different objects exactly one is before or left of the other
use Rattle.std.specs.Prelude.{ℕ, ◌≡◌, ◌≢◌, ◌*◌, ◌<◌, map}
use Rattle.std.specs.List.{range_with_len}
use Rattle.st_sides.specs.Normal.{clockwise}
use Rattle.st_map.specs.Embedded.{Embedded, faces}
use Rattle.st_map.specs.Embedded.{edges as edges_of}
use Rattle.st_test.specs.Planar.{IsPlanarSt}
use Rattle.st_sides.specs.Conditions.{AreSides, left_face, right_face}
use Rattle.st_sides.specs.LocalSides.{first, last}
use Rattle.st_sides.specs.Objects.{Trichotomy}
use Rattle.st_sides.specs.Sweep.{BoundaryLaw, SweepLaw}
use Rattle.st_sides.specs.Sides.{SidesValue, IsSides, face_left, face_right, outs, ins, low, high, left_path, right_path, left_of, right_of}

-- x has the sides of g: the nodes left and right of each edge, the edges out and in from left to right, the two paths of
-- each node, and the nodes left and right of each vertex.
pub record IsSidesOf (g : Embedded) (s t outer : ℕ) (x : SidesValue) : Type 0 where
  pub vertices : x.vertices ≡ g.vertices
  pub ends : x.ends ≡ g.ends
  pub source : x.source ≡ s
  pub sink : x.sink ≡ t
  pub nodes : x.t_star ≡ faces g
  pub left_of_edge : (e : ℕ) → e < edges_of g → face_left x e ≡ left_face g outer e
  pub right_of_edge : (e : ℕ) → e < edges_of g → face_right x e ≡ right_face g outer e
  pub are : AreSides g s t outer (outs x) (ins x) (low x) (high x) (left_path x) (right_path x)
  pub left_of_inner : (v : ℕ) → v < g.vertices → v ≢ s → v ≢ t → left_of x v ≡ left_face g outer (first (outs x v))
  pub right_of_inner : (v : ℕ) → v < g.vertices → v ≢ s → v ≢ t → right_of x v ≡ right_face g outer (last (outs x v))
  pub left_of_s : left_of x s ≡ 0
  pub left_of_t : left_of x t ≡ 0
  pub right_of_s : right_of x s ≡ faces g
  pub right_of_t : right_of x t ≡ faces g

-- The sides of a planar st-graph have all that holds near each vertex and each face.
abbrev pub MeaningLaw : Type 0
MeaningLaw = (g : Embedded) (s t outer : ℕ) (x : SidesValue) → IsPlanarSt g s t outer → IsSidesOf g s t outer x → IsSides x

-- Each planar st-graph has sides.
abbrev pub ExistLaw : Type 0
ExistLaw = (g : Embedded) (s t outer : ℕ) → IsPlanarSt g s t outer → (x : SidesValue) × IsSidesOf g s t outer x

-- The graph that the sides tell: the list at v is the edges out from left to right and then the edges in from right to left.
abbrev pub told_graph : SidesValue → Embedded
told_graph x = record { vertices = x.vertices; ends = x.ends; orders = map (λ v. clockwise (outs x v) (ins x v)) (range_with_len 0 x.vertices) }

-- x is the sides of the graph that it tells, whose outer face has the tail end of the first edge out of the source.
pub record IsOwn (x : SidesValue) : Type 0 where
  pub planar : IsPlanarSt (told_graph x) x.source x.sink (2 * first (outs x x.source))
  pub sides : IsSidesOf (told_graph x) x.source x.sink (2 * first (outs x x.source)) x

abbrev pub OwnLaw : Type 0
OwnLaw = (g : Embedded) (s t outer : ℕ) (x : SidesValue) → IsPlanarSt g s t outer → IsSidesOf g s t outer x → IsOwn x

-- The sides of a planar st-graph have boundaries that grow face by face, and a sweep.
abbrev pub SweptLaw : Type 0
SweptLaw = (g : Embedded) (s t outer : ℕ) (x : SidesValue) → IsPlanarSt g s t outer → IsSidesOf g s t outer x → BoundaryLaw x × SweepLaw x

-- In the sides of a planar st-graph, of two different objects exactly one is before or left of the other.
abbrev pub TrichotomyLaw : Type 0
TrichotomyLaw = (g : Embedded) (s t outer : ℕ) (x : SidesValue) → IsPlanarSt g s t outer → IsSidesOf g s t outer x → Trichotomy x
