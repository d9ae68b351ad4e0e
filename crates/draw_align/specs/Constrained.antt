-- The constrained visibility picture: the edges of each path stand in one column.
-- Letters: g sides, w weights of the edges, ps the listed paths, N names, d picture, y heights, x columns of the nodes of the
-- alignment graph, P all paths, v vertex, e edge.
--   path_column g P x e       the column of the path of e
--   IsConstrained g w ps N d  d is the constrained visibility picture of the paths under the weights w
--   IsAligned g ps d          the edges of each listed path stand in one column
--   ConstrainedLaw g ps       each such picture is drawn right, and its paths are aligned
use Rattle.std.specs.Prelude.{ℕ, ℤ, List, [], ◌∷◌, ◌≡◌, ◌<◌, ◌+◌, Some, length, slice_get}
use Rattle.st_ids.specs.declared.ids.EdgeId.{EdgeId}
use Rattle.st_ids.specs.declared.names.Names.{Names}
use Rattle.st_ids.specs.Lists.{In}
use Rattle.st_shape.specs.declared.item.Item.TheVariants.{Line}
use Rattle.st_shape.specs.declared.picture.Form.TheVariants.{Constrained}
use Rattle.st_shape.specs.Rules.{Drawing}
use Rattle.st_sides.specs.Sides.{SidesValue, edge_count}
use Rattle.st_number.specs.Greatest.{IsGreatest}
use Rattle.st_number.specs.Numbers.{AreWeights, GivesHeights}
use Rattle.st_picture.specs.Bars.{bars}
use Rattle.st_picture.specs.Drawn.{IsDrawn}
use Rattle.st_picture.specs.Naming.{AreNames}
use Rattle.draw_align.specs.Alignment.{Paths, path_count, path_of, AreCompleted, node_of_path, alignment, alignment_weight}
use Rattle.draw_align.specs.Listed.{path_at}

-- the column of the path of e
abbrev pub path_column : SidesValue → Paths → (ℕ → ℕ) → ℕ → ℕ
path_column g P x e = x (node_of_path g (path_of P e))

-- The bar of a vertex lies at its height, from the column of its left to the one before that of its right; the line of an
-- edge stands in the column of its path.
pub record IsConstrained (g : SidesValue) (w : ℕ → ℕ) (ps : List (List ℕ)) (N : Names) (d : Drawing) : Type 0 where
  pub y : ℕ → ℕ
  pub paths : Paths
  pub x : ℕ → ℕ
  pub heights : GivesHeights g w y
  pub completed : AreCompleted g ps paths
  pub columns : (f : ℕ) → f < g.t_star + 1 + path_count paths → IsGreatest (alignment g paths) (alignment_weight g) 0 f (x f)
  pub is : d ≡ bars g N Constrained y x (path_column g paths x)

-- The picture is that under weights from 1, of which each is one that a closure may answer on the edge.
pub record IsConstrainedBy (answer : EdgeId → ℕ → Type 0) (g : SidesValue) (ps : List (List ℕ)) (N : Names) (d : Drawing) : Type 0 where
  pub weight : ℕ → ℕ
  pub taken : (e : ℕ) → e < edge_count g → answer (record { 0 = e }) (weight e)
  pub from_one : AreWeights g weight
  pub picture : IsConstrained g weight ps N d

-- the line of e is upright in the column x
pub record StandsIn (g : SidesValue) (d : Drawing) (x : ℤ) (e : ℕ) : Type 0 where
  pub name : ℤ
  pub tail : ℤ
  pub head : ℤ
  pub low : ℤ
  pub high : ℤ
  pub is : slice_get d.items (g.vertices + e) ≡ Some (Line name tail head (record { x = x; y = low } ∷ record { x = x; y = high } ∷ []))

-- the edges of path p stand in one column
pub record HasColumn (g : SidesValue) (ps : List (List ℕ)) (d : Drawing) (p : ℕ) : Type 0 where
  pub column : ℤ
  pub stands : (e : ℕ) → In e (path_at ps p) → StandsIn g d column e

-- the edges of each listed path stand in one column
abbrev pub IsAligned : SidesValue → List (List ℕ) → Drawing → Type 0
IsAligned g ps d = (p : ℕ) → p < length ps → HasColumn g ps d p

-- Each picture of sound paths is drawn right, and its paths are aligned, for all weights from 1.
pub record ConstrainedLaw (g : SidesValue) (ps : List (List ℕ)) : Type 0 where
  pub drawn : (w : ℕ → ℕ) → AreWeights g w → (N : Names) → AreNames g N → (d : Drawing) → IsConstrained g w ps N d → IsDrawn g d
  pub aligned : (w : ℕ → ℕ) (N : Names) (d : Drawing) → IsConstrained g w ps N d → IsAligned g ps d
