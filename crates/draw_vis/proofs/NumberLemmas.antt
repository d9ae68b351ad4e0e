-- Heights and columns of a graph grow, so the visibility picture is drawn right.
use Rattle.std.proofs.Common.{ℕ, sym, subst, arith}
use Rattle.st_ids.specs.declared.ids.EdgeId.{EdgeId}
use Rattle.st_ids.specs.declared.names.Names.{Names}
use Rattle.st_shape.specs.declared.picture.Form.TheVariants.{Visibility}
use Rattle.st_shape.specs.Rules.{Drawing}
use Rattle.st_sides.specs.Sides.{SidesValue, IsSides}
use Rattle.st_number.specs.Numbers.{AreWeights}
use Rattle.st_number.proofs.Public.{numbers_law}
use Rattle.st_picture.specs.Drawn.{IsDrawn}
use Rattle.st_picture.specs.Naming.{AreNames}
use Rattle.st_picture.proofs.Public.{bars_law}
use Rattle.draw_vis.specs.Visibility.{IsVisibility, IsVisibilityBy, in_left_column}

pub visibility_drawn : (g : SidesValue) → IsSides g → (w : ℕ → ℕ) → AreWeights g w → (N : Names) → AreNames g N → (d : Drawing) → IsVisibility g w N d → IsDrawn g d
visibility_drawn g S w W N A d D =
    let L = numbers_law g S in
    let up = L.heights_grow w D.y W D.numbers.height in
    let rightward = L.columns_grow D.c D.numbers.column in
    subst (IsDrawn g) (sym D.is) (bars_law g S D.y D.c (in_left_column g D.c) up rightward (record { after_left = λ e a. omega arith; before_right = rightward }) N A Visibility (λ q. cc q) (λ q. cc q))

pub drawn_by : (answer : EdgeId → ℕ → Type 0) (g : SidesValue) → IsSides g → (N : Names) → AreNames g N → (d : Drawing) → IsVisibilityBy answer g N d → IsDrawn g d
drawn_by answer g S N A d V = visibility_drawn g S V.weight V.from_one N A d V.picture
