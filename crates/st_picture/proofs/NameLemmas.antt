-- Names and labels.
--   has_labels   names of a graph have labels that can be shown
use Rattle.std.proofs.Common.{◌≡◌, length, arith}
use Rattle.st_ids.specs.declared.names.Names.{Names}
use Rattle.st_sides.specs.Sides.{SidesValue}
use Rattle.st_picture.specs.Naming.{AreNames, HasLabels}

pub has_labels : (g : SidesValue) (N : Names) → AreNames g N → HasLabels N
has_labels g N A =
    let a : length N.vertex ≡ g.vertices = A.vertices in
    let b : length N.label ≡ g.vertices = A.labels in
    record { named = omega arith; texts = λ v text l q. A.texts v text (omega arith) q }
