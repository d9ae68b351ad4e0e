-- A picture has one verdict.
use Rattle.std.proofs.Common.{◌≡◌, List, refl}
use Rattle.std.specs.List.{AllByRecursion}
use Rattle.st_shape.specs.declared.item.Item.{Item}
use Rattle.st_shape.specs.declared.point.Point.{Point}
use Rattle.st_shape.specs.declared.picture.Fault.{Fault}
use Rattle.st_shape.specs.declared.picture.Fault.TheVariants.{Alone, Pair, Area}
use Rattle.st_shape.specs.declared.picture.Form.{Form}
use Rattle.st_shape.specs.declared.picture.Form.TheVariants.{Visibility, Tessellation, Constrained, Polyline, Dominance}
use Rattle.st_shape.specs.Boxes.{IsTiled, IsTilingFault}
use Rattle.st_shape.specs.Rules.{Drawing, FitsFrame, IsFrame, IsPicture}
use Rattle.st_shape.specs.Verdict.{IsRightIn, IsWrongIn}
use Rattle.st_shape.proofs.Public.{IsFault-clean, IsFault-unique, IsTilingFault-unique, picture_fits, NoPair-tiled, Sum-tiled}
use Rattle.eps_check.specs.Verdicts.{HasOneVerdict}

same_in : (form : Form) (d : Drawing) (f g : Fault) → IsWrongIn form d f → IsWrongIn form d g → f ≡ g
same_in Visibility d f g h k = IsFault-unique Visibility d.items f g h k
same_in Tessellation d f g h k = IsTilingFault-unique d.frame d.items f g h k
same_in Constrained d f g h k = IsFault-unique Constrained d.items f g h k
same_in Polyline d f g h k = IsFault-unique Polyline d.items f g h k
same_in Dominance d f g h k = IsFault-unique Dominance d.items f g h k

none_tiled : (frame : Point) (items : List Item) (f : Fault) → IsFrame frame → AllByRecursion (FitsFrame frame) items →
    IsTiled frame items → ¬ IsTilingFault frame items f
none_tiled frame items (Alone i) g fits t h = h
none_tiled frame items (Pair i j) g fits t h = NoPair-tiled frame items fits t i j h.order h.within h.faulty
none_tiled frame items Area g fits t h = h.sum (Sum-tiled frame items g fits t)

none_in : (form : Form) (d : Drawing) (f : Fault) → IsPicture d → IsRightIn form d → ¬ IsWrongIn form d f
none_in Visibility d f p r h = IsFault-clean Visibility d.items f r h
none_in Tessellation d f p r h = none_tiled d.frame d.items f p.frame (picture_fits d d.frame d.items refl refl p) r h
none_in Constrained d f p r h = IsFault-clean Constrained d.items f r h
none_in Polyline d f p r h = IsFault-clean Polyline d.items f r h
none_in Dominance d f p r h = IsFault-clean Dominance d.items f r h

pub one_verdict : HasOneVerdict
one_verdict =
    record {
      same = λ d f g h k. same_in d.form d f g h k;
      none = λ d f p r h. none_in d.form d f p r h;
    }
