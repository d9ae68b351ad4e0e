use Rattle.std.proofs.Common.{◌≡◌, ℕ, ◌+◌, ◌*◌, ◌^◌, ◌<◌, true, [], get_or, ap, subst, ◌∙◌}
use Rattle.st_map.specs.Embedded.{Embedded, bare, edges, faces}
use Rattle.st_test.specs.FaceNumbers.{orbit_number}
use Rattle.st_sides.specs.Beside.{IsBeside}
use Rattle.st_sides.specs.Filled.{IsFilled, node_number}
use Rattle.st_sides.specs.Held.{IsHeld}
use Rattle.st_sides.specs.SidesOf.{IsSidesOf}
use Rattle.st_sides.proofs.OfLemmas.{sides_are, are_held, at_last}
use Rattle.st_sides.proofs.sides.Sides.of.Goals as goal

pub invariant_of-result : goal.invariant_of-result
invariant_of-result c =
    let g : Embedded = c.args.graph.now.map.graph in
    let s : ℕ = c.args.graph.now.source in
    let t : ℕ = c.args.graph.now.sink in
    let o : ℕ = c.args.graph.now.outer in
    let n : c.count_faces-last.result ≡ faces g = c.count_faces-last.ensures.value in
    let few : faces g < 2 ^ 31 = subst (λ z. z < 2 ^ 31) n c.count_faces-last.ensures.few in
    let copy : c.in_ok-copy.copy ≡ bare g = c.in_ok-copy.ensures.value ∙ ap (λ z. bare z.graph) c.map-map.ensures.value in
    let ri : IsFilled 0 (λ e z. z ≡ node_number (orbit_number g o) (faces g) (orbit_number g (2 * e + 1))) (edges g) c.in_ok-edge_rights.edge_rights =
    subst (λ h. IsFilled 0 (λ e z. z ≡ node_number (orbit_number g o) h (orbit_number g (2 * e + 1))) (edges g) c.in_ok-edge_rights.edge_rights) n c.in_ok-edge_rights.ensures in
    let vr : IsFilled 0 (λ v z. IsBeside s t c.in_ok-edge_rights.edge_rights true (faces g) (get_or c.in_ok-outs.outs v []) v z) g.vertices c.in_ok-vertex_rights.vertex_rights =
    subst (λ h. IsFilled 0 (λ v z. IsBeside s t c.in_ok-edge_rights.edge_rights true h (get_or c.in_ok-outs.outs v []) v z) g.vertices c.in_ok-vertex_rights.vertex_rights) n c.in_ok-vertex_rights.ensures in
    at_last g s t o c.map-map.ensures.planar c.in_ok-edge_lefts.edge_lefts c.in_ok-edge_rights.edge_rights c.in_ok-outs.outs c.in_ok-outs.ins c.in_ok-nodes.nodes.lows c.in_ok-nodes.nodes.highs
    c.in_ok-nodes.nodes.lefts c.in_ok-nodes.nodes.rights c.in_ok-vertex_lefts.vertex_lefts c.in_ok-vertex_rights.vertex_rights few c.in_ok-edge_lefts.ensures ri
    c.in_ok-outs.ensures.outs c.in_ok-outs.ensures.ins c.in_ok-nodes.ensures c.in_ok-vertex_lefts.ensures vr IsHeld c.in_ok-copy.copy c.source.result.0 c.sink.result.0 c.count_faces-last.result
    copy c.source.ensures.value c.sink.ensures.value n
    (are_held g s t o c.map-map.ensures.planar c.in_ok-edge_lefts.edge_lefts c.in_ok-edge_rights.edge_rights c.in_ok-outs.outs c.in_ok-outs.ins c.in_ok-nodes.nodes.lows c.in_ok-nodes.nodes.highs
    c.in_ok-nodes.nodes.lefts c.in_ok-nodes.nodes.rights c.in_ok-vertex_lefts.vertex_lefts c.in_ok-vertex_rights.vertex_rights few c.in_ok-edge_lefts.ensures ri
    c.in_ok-outs.ensures.outs c.in_ok-outs.ensures.ins c.in_ok-nodes.ensures c.in_ok-vertex_lefts.ensures vr)

pub returns : goal.returns
returns c =
    let g : Embedded = c.args.graph.now.map.graph in
    let s : ℕ = c.args.graph.now.source in
    let t : ℕ = c.args.graph.now.sink in
    let o : ℕ = c.args.graph.now.outer in
    let n : c.count_faces-last.result ≡ faces g = c.count_faces-last.ensures.value in
    let few : faces g < 2 ^ 31 = subst (λ z. z < 2 ^ 31) n c.count_faces-last.ensures.few in
    let copy : c.in_ok-copy.copy ≡ bare g = c.in_ok-copy.ensures.value ∙ ap (λ z. bare z.graph) c.map-map.ensures.value in
    let ri : IsFilled 0 (λ e z. z ≡ node_number (orbit_number g o) (faces g) (orbit_number g (2 * e + 1))) (edges g) c.in_ok-edge_rights.edge_rights =
    subst (λ h. IsFilled 0 (λ e z. z ≡ node_number (orbit_number g o) h (orbit_number g (2 * e + 1))) (edges g) c.in_ok-edge_rights.edge_rights) n c.in_ok-edge_rights.ensures in
    let vr : IsFilled 0 (λ v z. IsBeside s t c.in_ok-edge_rights.edge_rights true (faces g) (get_or c.in_ok-outs.outs v []) v z) g.vertices c.in_ok-vertex_rights.vertex_rights =
    subst (λ h. IsFilled 0 (λ v z. IsBeside s t c.in_ok-edge_rights.edge_rights true h (get_or c.in_ok-outs.outs v []) v z) g.vertices c.in_ok-vertex_rights.vertex_rights) n c.in_ok-vertex_rights.ensures in
    at_last g s t o c.map-map.ensures.planar c.in_ok-edge_lefts.edge_lefts c.in_ok-edge_rights.edge_rights c.in_ok-outs.outs c.in_ok-outs.ins c.in_ok-nodes.nodes.lows c.in_ok-nodes.nodes.highs
    c.in_ok-nodes.nodes.lefts c.in_ok-nodes.nodes.rights c.in_ok-vertex_lefts.vertex_lefts c.in_ok-vertex_rights.vertex_rights few c.in_ok-edge_lefts.ensures ri
    c.in_ok-outs.ensures.outs c.in_ok-outs.ensures.ins c.in_ok-nodes.ensures c.in_ok-vertex_lefts.ensures vr (λ x. IsSidesOf g s t o x) c.in_ok-copy.copy c.source.result.0 c.sink.result.0 c.count_faces-last.result
    copy c.source.ensures.value c.sink.ensures.value n
    (sides_are g s t o c.map-map.ensures.planar c.in_ok-edge_lefts.edge_lefts c.in_ok-edge_rights.edge_rights c.in_ok-outs.outs c.in_ok-outs.ins c.in_ok-nodes.nodes.lows c.in_ok-nodes.nodes.highs
    c.in_ok-nodes.nodes.lefts c.in_ok-nodes.nodes.rights c.in_ok-vertex_lefts.vertex_lefts c.in_ok-vertex_rights.vertex_rights few c.in_ok-edge_lefts.ensures ri
    c.in_ok-outs.ensures.outs c.in_ok-outs.ensures.ins c.in_ok-nodes.ensures c.in_ok-vertex_lefts.ensures vr)
