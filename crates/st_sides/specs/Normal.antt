-- The graph whose clockwise lists begin with the leftmost edge out.
--   clockwise outs ins    the ends of the edges out from left to right, and then of the edges in from right to left
--   reordered g os        the same edges with the lists os
--   normal g outs ins     the same edges with such lists at all vertices
--   NormalLaw             this is a planar st-graph with the same sides
use Rattle.std.specs.Prelude.{ℕ, ◌≡◌, ◌+◌, ◌*◌, ◌<◌, List, ◌++◌, map, reverse}
use Rattle.std.specs.List.{range_with_len}
use Rattle.st_map.specs.Embedded.{Embedded, edges, faces}
use Rattle.st_test.specs.Planar.{IsPlanarSt}
use Rattle.st_sides.specs.Conditions.{AreSides, left_face, right_face}
use Rattle.st_sides.specs.LocalSides.{first}

-- the ends of the edges out from left to right, and then those of the edges in from right to left
abbrev pub clockwise : List ℕ → List ℕ → List ℕ
clockwise outs ins = map (λ e. 2 * e) outs ++ reverse (map (λ e. 2 * e + 1) ins)

-- the same edges with other lists
abbrev pub reordered : Embedded → List (List ℕ) → Embedded
reordered g os = record { vertices = g.vertices; ends = g.ends; orders = os }

-- the same edges with such lists at all vertices
abbrev pub normal : Embedded → (ℕ → List ℕ) → (ℕ → List ℕ) → Embedded
normal g outs ins = reordered g (map (λ v. clockwise (outs v) (ins v)) (range_with_len 0 g.vertices))

-- With such lists, and the first edge out of the source to name the outer face, the graph and its sides are the same.
abbrev pub NormalLaw : Type 0
NormalLaw = (g : Embedded) (s t outer : ℕ) → IsPlanarSt g s t outer
    → (outs ins : ℕ → List ℕ) (low high : ℕ → ℕ) (left_path right_path : ℕ → List ℕ)
    → AreSides g s t outer outs ins low high left_path right_path
    → IsPlanarSt (normal g outs ins) s t (2 * first (outs s))
    × AreSides (normal g outs ins) s t (2 * first (outs s)) outs ins low high left_path right_path
    × ((e : ℕ) → e < edges g → (left_face (normal g outs ins) (2 * first (outs s)) e ≡ left_face g outer e)
    × (right_face (normal g outs ins) (2 * first (outs s)) e ≡ right_face g outer e))
    × (faces (normal g outs ins) ≡ faces g)
