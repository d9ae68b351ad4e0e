use Rattle.st_sides.proofs.DualLemmas.{arcs_more}
use Rattle.st_sides.proofs.sweeping.dual_arcs.Goals as goal

pub loop-e-preserved : goal.loop-e-preserved
loop-e-preserved c = arcs_more c.args.sides.now c.loop-e.e c.loop-e.arcs.items c.put_arc.new.list.items c.face_left-left.result.0 c.face_right-right.result.0
    c.loop-e.invariant c.in_ok-put_arc.ensures c.face_left-left.ensures.value c.face_right-right.ensures.value
