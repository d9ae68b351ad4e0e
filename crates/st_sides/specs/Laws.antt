-- Laws of every planar st-graph with source s, sink t and an end `outer` on its outer face.
--   VertexTurns g v        round v there are the ends out and then the ends in
--   FaceTurns g d          the face of d is two walks from one vertex to another
--   Corners g s t outer    all inner vertices and all faces are like this, and the outer face runs from s to t
--   CornersLaw             every planar st-graph has such corners
--   SidesLaw               there are sides as defined
--   LocalLaw               all sides as defined fit together at each vertex and each face
--   IsOrderedSt g s t      a planar st-graph but for Euler's formula and the outer face
--   EulerBoundLaw          such a graph has no more faces than Euler's formula says
use Rattle.std.specs.Prelude.{ℕ, ◌≡◌, ◌≢◌, ◌+◌, ◌-◌, ◌<◌, ◌≤◌, true, false, List}
use Rattle.st_map.specs.Orbits.{iterate, SameOrbit}
use Rattle.st_sides.specs.Runs.{TwoRuns}
use Rattle.st_ids.specs.Ends.{is_out}
use Rattle.st_ids.specs.Graph.{HasEnds}
use Rattle.st_map.specs.Embedded.{Embedded, HasOrders, bare, edges, darts, at, next, phi, faces}
use Rattle.st_sides.specs.GraphWalks.{IsWalk, HasNoCycle}
use Rattle.st_sides.specs.Stretches.{forward, backward}
use Rattle.st_test.specs.Planar.{IsPlanarSt}
use Rattle.st_test.specs.Poles.{IsOnlySource, IsOnlySink}
use Rattle.st_sides.specs.Conditions.{AreSides}
use Rattle.st_sides.specs.LocalSides.{AtVertices, AtFaces}

-- Round an inner vertex, clockwise from x on, there are the ends out and then the ends in.
pub record VertexTurns (g : Embedded) (v : ℕ) : Type 0 where
  pub x : ℕ
  pub k : ℕ
  pub p : ℕ
  pub x_in : x < darts g
  pub at_x : at g x ≡ v
  pub runs : TwoRuns (next g) is_out x k p
  pub all : (d : ℕ) → d < darts g → at g d ≡ v → (j : ℕ) × (j < p) × (iterate j (next g) x ≡ d)

-- The face of d is a walk up on its right and a walk up on its left, from one vertex to another.
pub record FaceTurns (g : Embedded) (d low high : ℕ) : Type 0 where
  pub x : ℕ
  pub k : ℕ
  pub p : ℕ
  pub x_in : x < darts g
  pub on_face : SameOrbit (phi g) d x
  pub runs : TwoRuns (phi g) is_out x k p
  pub right : IsWalk g low (forward k (phi g) x) high
  pub left : IsWalk g low (backward (p - k) (phi g) (iterate k (phi g) x)) high

-- each vertex but the poles turns once, the poles never, each face is two walks, and the outer face's run from s to t
pub record Corners (g : Embedded) (s t outer : ℕ) : Type 0 where
  pub vertices : (v : ℕ) → v < g.vertices → v ≢ s → v ≢ t → VertexTurns g v
  pub source : (d : ℕ) → d < darts g → at g d ≡ s → is_out d ≡ true
  pub sink : (d : ℕ) → d < darts g → at g d ≡ t → is_out d ≡ false
  pub faces : (d : ℕ) → d < darts g → (low : ℕ) × (high : ℕ) × FaceTurns g d low high
  pub outer_face : FaceTurns g outer s t
  pub poles : s ≢ t

-- each planar st-graph has such corners
abbrev pub CornersLaw : Type 0
CornersLaw = (g : Embedded) (s t outer : ℕ) → IsPlanarSt g s t outer → Corners g s t outer

-- each planar st-graph has sides
abbrev pub SidesLaw : Type 0
SidesLaw = (g : Embedded) (s t outer : ℕ) → IsPlanarSt g s t outer
    → (outs : ℕ → List ℕ) × (ins : ℕ → List ℕ) × (low : ℕ → ℕ) × (high : ℕ → ℕ) × (left_path : ℕ → List ℕ) × (right_path : ℕ → List ℕ)
    × AreSides g s t outer outs ins low high left_path right_path

-- whatever sides are as defined fit together
abbrev pub LocalLaw : Type 0
LocalLaw = (g : Embedded) (s t outer : ℕ) → IsPlanarSt g s t outer
    → (outs ins : ℕ → List ℕ) (low high : ℕ → ℕ) (left_path right_path : ℕ → List ℕ)
    → AreSides g s t outer outs ins low high left_path right_path
    → AtVertices g s t outer outs ins low high × AtFaces g outer outs ins low high left_path right_path

-- no cycle, one source, one sink and lawful lists: all of a planar st-graph but Euler's formula and the outer face
pub record IsOrderedSt (g : Embedded) (s t : ℕ) : Type 0 where
  pub ends_in : HasEnds (bare g)
  pub no_cycle : HasNoCycle g
  pub source : IsOnlySource (bare g) s
  pub sink : IsOnlySink (bare g) t
  pub orders : HasOrders g

-- such a graph has no more faces than Euler's formula says, and fewer where it isn't planar
abbrev pub EulerBoundLaw : Type 0
EulerBoundLaw = (g : Embedded) (s t : ℕ) → IsOrderedSt g s t → g.vertices + faces g ≤ edges g + 2
