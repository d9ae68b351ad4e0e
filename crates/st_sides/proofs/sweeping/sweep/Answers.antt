use Rattle.std.proofs.Common.{sym, ap, ◌∙◌, subst, length, arith}
use Rattle.st_sides.specs.Sides.{edge_count}
use Rattle.st_sides.specs.Sweep.{AreDualArcs, AreSwept, IsSweep}
use Rattle.st_sides.proofs.DualLemmas.{arcs_acyclic, order_is_sweep, order_is_swept}
use Rattle.st_sides.proofs.sweeping.sweep.Goals as goal

pub order_arcs-requires-clause-few : goal.order_arcs-requires-clause-few
order_arcs-requires-clause-few c = omega (arith, c.dual_arcs.ensures.few, c.in_ok-arcs.ensures.arcs.count, ap length c.deref.ensures.value)

pub order_arcs-requires-clause-acyclic : goal.order_arcs-requires-clause-acyclic
order_arcs-requires-clause-acyclic c = arcs_acyclic c.args.sides.now c.faces.result c.deref.result.now
    (subst (AreDualArcs c.args.sides.now (edge_count c.args.sides.now)) (sym c.deref.ensures.value) c.in_ok-arcs.ensures.arcs) c.boundary.ensures.sweep.acyclic

pub returns-clause-sweep : goal.returns-clause-sweep
returns-clause-sweep c =
    let s : IsSweep c.args.sides.now c.in_ok-order.order.vertices = order_is_sweep c.args.sides.now c.faces.result c.deref.result.now
    (subst (AreDualArcs c.args.sides.now (edge_count c.args.sides.now)) (sym c.deref.ensures.value) c.in_ok-arcs.ensures.arcs)
    c.in_ok-order.order.vertices c.in_ok-order.order.edges c.faces.ensures.value c.in_ok-order.ensures.order in
    subst (IsSweep c.args.sides.now) (sym (c.of.ensures ∙ c.in_ok-nodes.ensures ∙ c.vertices.ensures)) s

pub returns-clause-places : goal.returns-clause-places
returns-clause-places c =
    let s : AreSwept c.args.sides.now c.in_ok-order.order.vertices = order_is_swept c.args.sides.now c.faces.result c.deref.result.now
    (subst (AreDualArcs c.args.sides.now (edge_count c.args.sides.now)) (sym c.deref.ensures.value) c.in_ok-arcs.ensures.arcs)
    c.in_ok-order.order.vertices c.in_ok-order.order.edges c.faces.ensures.value c.in_ok-order.ensures.places in
    subst (AreSwept c.args.sides.now) (sym (c.of.ensures ∙ c.in_ok-nodes.ensures ∙ c.vertices.ensures)) s
