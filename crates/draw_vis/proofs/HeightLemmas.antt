-- At which heights the vertices of the two pictures stand.
use Rattle.std.proofs.Common.{ℕ, ◌≡◌, ap, pos}
use Rattle.st_shape.specs.Rules.{Drawing}
use Rattle.st_sides.specs.Sides.{SidesValue, IsSides}
use Rattle.st_number.proofs.Public.{numbers_law}
use Rattle.st_picture.proofs.Public.{drawing_stands, figures_stand}
use Rattle.draw_vis.specs.Heights.{VisibilityHeights, TessellationHeights}
use Rattle.draw_vis.specs.Tessellation.{full_bar}

pub visibility_heights : (g : SidesValue) → IsSides g → VisibilityHeights g
visibility_heights g S w y N d h H = drawing_stands g N _ _ _ _ _ y d h.is (λ v l. ap (λ n. pos n) ((numbers_law g S).same_heights w h.y y h.numbers.height H v l))

pub tessellation_heights : (g : SidesValue) → IsSides g → TessellationHeights g
tessellation_heights g S w y N d h H =
    figures_stand g (full_bar g N h.y h.c) _ y d (ap (λ (z : Drawing). z.items) h.is) (λ v l. ap (λ n. pos n) ((numbers_law g S).same_heights w h.y y h.numbers.height H v l))
