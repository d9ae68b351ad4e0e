use Rattle.std.proofs.Common.{subst}
use Rattle.std.specs.Prelude.{slice_index}
use Rattle.stdraw_core.specs.Drawing.{edge_length, IsPlacedPolyline}
use Rattle.stdraw_core.proofs.DrawingLemmas.{answers_there, lengths_there, visibility_by, tessellation_by}
use Rattle.stdraw_core.proofs.drawing.picture_of.Goals as goal

pub returns-in_ok-visibility-in-Visibility-clause-picture : goal.returns-in_ok-visibility-in-Visibility-clause-picture
returns-in_ok-visibility-in-Visibility-clause-picture g c =
    rw c.in-Visibility.is (visibility_by _ c.args.sides.now (edge_length c.args.spec.now) c.args.names.now c.in_ok-visibility-in-Visibility.field-0
    (answers_there _ c.args.spec.now c.args.graph c.args.sides.now c.requires.tables c.requires.found c.requires.sides.sides c.requires.rows) c.in_ok-visibility-in-Visibility.ensures.picture)

pub returns-in_ok-tessellation-in-Tessellation-clause-picture : goal.returns-in_ok-tessellation-in-Tessellation-clause-picture
returns-in_ok-tessellation-in-Tessellation-clause-picture g c =
    rw c.in-Tessellation.is (tessellation_by _ c.args.sides.now (edge_length c.args.spec.now) c.args.names.now c.in_ok-tessellation-in-Tessellation.field-0
    (answers_there _ c.args.spec.now c.args.graph c.args.sides.now c.requires.tables c.requires.found c.requires.sides.sides c.requires.rows) c.in_ok-tessellation-in-Tessellation.ensures.picture)

pub returns-in_ok-polyline_of-in-Polyline-clause-picture : goal.returns-in_ok-polyline_of-in-Polyline-clause-picture
returns-in_ok-polyline_of-in-Polyline-clause-picture g c =
    rw c.in-Polyline.is (subst (λ ls. IsPlacedPolyline c.in-Polyline.spot c.args.graph.map.graph (slice_index ls) c.args.sides.now c.args.names.now c.in_ok-polyline_of-in-Polyline.field-0)
    c.requires.lengths c.in_ok-polyline_of-in-Polyline.ensures)
