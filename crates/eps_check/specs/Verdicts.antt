-- A picture has one verdict.
--   HasOneVerdict   at most one fault is the first of a picture, and none is where nothing is wrong
use Rattle.std.specs.Prelude.{◌≡◌}
use Rattle.st_shape.specs.declared.picture.Fault.{Fault}
use Rattle.st_shape.specs.Rules.{Drawing, IsPicture}
use Rattle.st_shape.specs.Verdict.{IsRight, IsWrong}

-- a picture has at most one first fault, and none where it is right
pub record HasOneVerdict : Type 0 where
  pub same : (d : Drawing) (f g : Fault) → IsWrong d f → IsWrong d g → f ≡ g
  pub none : (d : Drawing) (f : Fault) → IsPicture d → IsRight d → ¬ IsWrong d f
