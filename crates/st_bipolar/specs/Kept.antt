-- What an orientation keeps of the file: each vertex's list of edges.
-- Letters: f digraph and lists the edges at each vertex, as a file gives them; b which edges are turned, h the
-- orientation.
--   KeepsLists   the lists of h are the old ones, and the turned digraph with the old lists is that orientation too
-- So it is enough to write the turned digraph, the old lists and the outer end: what is read again passes every test
-- of a planar st-graph, and is an orientation.
use Rattle.std.specs.Prelude.{ℕ, ◌≡◌, ◌<◌, Bool, List, length}
use Rattle.st_ids.specs.Graph.{Graph}
use Rattle.st_map.specs.Embedded.{Embedded, IsRotation, bare}
use Rattle.st_map.specs.Orders.{HasNoLoop, IsOrderAt, embed, order_at}
use Rattle.st_test.specs.Poles.{ArePoles}
use Rattle.st_bipolar.specs.Orientation.{IsOrientation}
use Rattle.st_bipolar.specs.Turning.{edges_at}

pub record KeepsLists (f : Graph) (lists : List (List ℕ)) (s t outer : ℕ) (b : ℕ → Bool) (h : Embedded) : Type 0 where
  -- the edges of each vertex are in the order of the file
  pub lists_are : (v : ℕ) → v < f.vertices → edges_at h v ≡ order_at lists v
  -- each test on the turned digraph and on the old lists holds
  pub poles : ArePoles (bare h) s t
  pub lawful : (v : ℕ) → v < f.vertices → IsOrderAt h.ends v (order_at lists v)
  -- and their graph is an orientation
  pub read_again : IsOrientation (embed f lists) s t outer b (embed (bare h) lists)

abbrev pub OrientationKeepsLists : Type 0
OrientationKeepsLists = (f : Graph) (lists : List (List ℕ)) (s t outer : ℕ) (b : ℕ → Bool) (h : Embedded) → length lists ≡ f.vertices → IsRotation (embed f lists) → HasNoLoop f
    → IsOrientation (embed f lists) s t outer b h → KeepsLists f lists s t outer b h
