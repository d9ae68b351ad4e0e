-- At which heights the vertices of a picture stand.
use Rattle.std.proofs.Common.{ℕ, List, ◌++◌, ◌≡◌, ◌<◌, ap, ◌∙◌, pos}
use Rattle.st_ids.specs.declared.names.Names.{Names}
use Rattle.st_shape.specs.declared.item.Item.{Item}
use Rattle.st_shape.specs.declared.picture.Form.{Form}
use Rattle.st_shape.specs.declared.point.Point.{Point}
use Rattle.st_shape.specs.Rules.{Drawing}
use Rattle.st_sides.specs.Sides.{SidesValue}
use Rattle.st_picture.specs.Items.{drawing, items_by, place_at, item_place}
use Rattle.st_picture.specs.Standing.{StandAt}
use Rattle.st_picture.proofs.LabelLemmas.{place_is}
use Rattle.st_picture.proofs.PlaceLemmas.{first_place}

-- a picture whose items begin with a figure of each vertex
pub figures_stand : (g : SidesValue) (figure : ℕ → Item) (rest : List Item) (y : ℕ → ℕ) (d : Drawing) → d.items ≡ items_by figure g.vertices ++ rest
    → ((v : ℕ) → v < g.vertices → (item_place (figure v)).y ≡ pos (y v)) → StandAt g y d
figures_stand g figure rest y d q h v l =
    ap (λ z. (place_at z v).y) q ∙ ap (λ (p : Point). p.y) (place_is (items_by figure g.vertices ++ rest) v (figure v) (first_place figure g.vertices rest v l)) ∙ h v l

-- a picture of figures, lines and labels
pub drawing_stands : (g : SidesValue) (N : Names) (form : Form) (frame : Point) (figure : ℕ → Item) (points : ℕ → List Point) (place : ℕ → Point) (y : ℕ → ℕ) (d : Drawing)
    → d ≡ drawing g N form frame figure points place → ((v : ℕ) → v < g.vertices → (item_place (figure v)).y ≡ pos (y v)) → StandAt g y d
drawing_stands g N form frame figure points place y d q h = figures_stand g figure _ y d (ap (λ (z : Drawing). z.items) q) h
