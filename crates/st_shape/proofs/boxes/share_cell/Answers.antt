use Rattle.st_shape.proofs.BoxLemmas.{ShareCell-box}
use Rattle.st_shape.proofs.boxes.share_cell.Goals as goal

pub returns-in-Some-corners_of : goal.returns-in-Some-corners_of
returns-in-Some-corners_of c =
    let w = ShareCell-box c.args.e.now c.args.f.now _ _ _ _ c.in-Some.ensures c.in-Some-corners_of.ensures in
    (λ t. w.0 (c.share_cells.ensures.0 t), λ h. c.share_cells.ensures.1 (w.1 h))
