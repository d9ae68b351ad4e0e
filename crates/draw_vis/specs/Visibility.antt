-- The visibility picture: vertices as level bars at their heights, edges as upright lines in the columns of their left faces.
--   in_left_column g c e    the column of the node on the left of e
--   IsVisibility g w N d    d is the visibility picture under the weights w
--   IsVisibilityBy answer g N d   it is that under some weights which a closure may answer
-- Letters: g sides, w weights of the edges, N names, d picture, y heights, c columns, e edge.
-- After Di Battista, Eades, Tamassia, Tollis, Graph Drawing (1999), ch. 4.
use Rattle.std.specs.Prelude.{ℕ, ◌≡◌, ◌<◌}
use Rattle.st_ids.specs.declared.ids.EdgeId.{EdgeId}
use Rattle.st_ids.specs.declared.names.Names.{Names}
use Rattle.st_shape.specs.declared.picture.Form.TheVariants.{Visibility}
use Rattle.st_shape.specs.Rules.{Drawing}
use Rattle.st_sides.specs.Sides.{SidesValue, edge_count, face_left}
use Rattle.st_number.specs.Numbers.{AreNumbers, AreWeights}
use Rattle.st_picture.specs.Bars.{bars}

-- the column of the node on the left of e
abbrev pub in_left_column : SidesValue → (ℕ → ℕ) → ℕ → ℕ
in_left_column g c e = c (face_left g e)

-- The bar of a vertex lies at its height, from the column of its left to the one before that of its right; the line of an
-- edge stands in the column of its left.
pub record IsVisibility (g : SidesValue) (w : ℕ → ℕ) (N : Names) (d : Drawing) : Type 0 where
  pub y : ℕ → ℕ
  pub c : ℕ → ℕ
  pub numbers : AreNumbers g w y c
  pub is : d ≡ bars g N Visibility y c (in_left_column g c)

-- The picture is that under weights from 1, of which each is one that a closure may answer on the edge.
pub record IsVisibilityBy (answer : EdgeId → ℕ → Type 0) (g : SidesValue) (N : Names) (d : Drawing) : Type 0 where
  pub weight : ℕ → ℕ
  pub taken : (e : ℕ) → e < edge_count g → answer (record { 0 = e }) (weight e)
  pub from_one : AreWeights g weight
  pub picture : IsVisibility g weight N d
