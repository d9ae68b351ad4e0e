-- What a value of sides is known to be, wherever there is one.
--   HasSizes x    the lists have an entry for each vertex, edge or node, and there are few nodes
--   IsHeld x      x has the sides of the graph that it tells, and such lists
--   OneValueLaw   a planar st-graph has one value of sides with such lists
use Rattle.std.specs.Prelude.{ℕ, ◌≡◌, ◌+◌, ◌<◌, ◌^◌, length}
use Rattle.st_map.specs.Embedded.{Embedded}
use Rattle.st_test.specs.Planar.{IsPlanarSt}
use Rattle.st_sides.specs.Sides.{SidesValue}
use Rattle.st_sides.specs.SidesOf.{IsOwn, IsSidesOf}

-- The lists have an entry for each of what they speak of.
pub record HasSizes (x : SidesValue) : Type 0 where
  pub nodes : x.t_star < 2 ^ 31
  pub lefts_of_edges : length x.lefts_of_edges ≡ length x.ends
  pub rights_of_edges : length x.rights_of_edges ≡ length x.ends
  pub out_lists : length x.out_lists ≡ x.vertices
  pub in_lists : length x.in_lists ≡ x.vertices
  pub lows : length x.lows ≡ x.t_star + 1
  pub highs : length x.highs ≡ x.t_star + 1
  pub left_paths : length x.left_paths ≡ x.t_star + 1
  pub right_paths : length x.right_paths ≡ x.t_star + 1
  pub lefts_of_vertices : length x.lefts_of_vertices ≡ x.vertices
  pub rights_of_vertices : length x.rights_of_vertices ≡ x.vertices

-- The sides of the graph that they tell.
pub record IsHeld (x : SidesValue) : Type 0 where
  pub own : IsOwn x
  pub sizes : HasSizes x

-- Two values of sides of one planar st-graph, with an entry for each of what they speak of, are the same.
abbrev pub OneValueLaw : Type 0
OneValueLaw = (g : Embedded) (s t outer : ℕ) (x y : SidesValue) → IsPlanarSt g s t outer
    → IsSidesOf g s t outer x → HasSizes x → IsSidesOf g s t outer y → HasSizes y → x ≡ y
