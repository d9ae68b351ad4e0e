-- At which heights the vertices of a constrained picture stand.
use Rattle.std.proofs.Common.{ℕ, ap, pos}
use Rattle.st_sides.specs.Sides.{SidesValue, IsSides}
use Rattle.st_number.proofs.Public.{numbers_law}
use Rattle.st_picture.proofs.Public.{drawing_stands}
use Rattle.draw_align.specs.Heights.{ConstrainedHeights}

pub constrained_heights : (g : SidesValue) → IsSides g → ConstrainedHeights g
constrained_heights g S w y ps N d h H = drawing_stands g N _ _ _ _ _ y d h.is (λ v l. ap (λ n. pos n) ((numbers_law g S).same_heights w h.y y h.heights H v l))
