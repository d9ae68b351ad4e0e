-- At which heights the vertices of a polyline picture stand.
use Rattle.std.proofs.Common.{ℕ, ap, pos}
use Rattle.st_sides.specs.Sides.{SidesValue, IsSides}
use Rattle.st_number.proofs.Public.{numbers_law}
use Rattle.st_picture.proofs.Public.{drawing_stands}
use Rattle.draw_poly.specs.Heights.{PolylineHeights}

pub polyline_heights : (g : SidesValue) → IsSides g → PolylineHeights g
polyline_heights g S w y p N d h H = drawing_stands g N _ _ _ _ _ y d h.is (λ v l. ap (λ n. pos n) ((numbers_law g S).same_heights w h.y y h.numbers.height H v l))
