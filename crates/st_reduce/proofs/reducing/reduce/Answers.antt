use Rattle.std.proofs.Common.{◌≡◌, ◌∙◌, length, sym, ap, subst, arith}
use Rattle.st_map.specs.Embedded.{Embedded, MapValue, edges}
use Rattle.st_test.specs.Planar.{IsPlanarSt, StValue}
use Rattle.st_reduce.specs.Marks.{AreMarks, dummy_numbers, marked_below}
use Rattle.st_reduce.specs.Reduced.{IsReduced, ReducedIs}
use Rattle.st_reduce.proofs.MarkedLemmas.{marks_of, length-marks}
use Rattle.st_reduce.proofs.ReducedLemmas.{reduced_law}
use Rattle.st_reduce.proofs.reducing.reduce.Goals as goal

pub split_marked-requires-clause-marks : goal.split_marked-requires-clause-marks
split_marked-requires-clause-marks c =
    let same : c.reserve.new.self.graph ≡ c.args.graph.map.graph = c.reserve.ensures.graph ∙ ap (λ (m : MapValue). m.graph) c.into_map-map.ensures in
    let st : IsPlanarSt c.args.graph.map.graph c.args.graph.source c.args.graph.sink c.args.graph.outer = c.map.ensures.planar in
    subst (λ (g : Embedded). AreMarks g c.in_ok-marks.marks) (sym same) (marks_of c.args.graph.map.graph c.args.graph.source c.args.graph.sink c.args.graph.outer c.args.sides.now c.in_ok-marks.marks st c.requires.sides c.in_ok-marks.ensures)

pub known-requires : goal.known-requires
known-requires c =
    let same : c.reserve.new.self.graph ≡ c.args.graph.map.graph = c.reserve.ensures.graph ∙ ap (λ (m : MapValue). m.graph) c.into_map-map.ensures in
    let st : IsPlanarSt c.args.graph.map.graph c.args.graph.source c.args.graph.sink c.args.graph.outer = c.map.ensures.planar in
    let r : IsReduced c.args.graph.map.graph (dummy_numbers c.in_ok-dummy.dummy) c.split_marked.new.map.graph = subst (λ (g : Embedded). IsReduced g (dummy_numbers c.in_ok-dummy.dummy) c.split_marked.new.map.graph) same c.in_ok-dummy.ensures in
    let law : ReducedIs c.args.graph.map.graph c.args.graph.source c.args.graph.sink c.args.graph.outer (dummy_numbers c.in_ok-dummy.dummy) c.split_marked.new.map.graph = (reduced_law c.args.graph.map.graph c.args.graph.source c.args.graph.sink c.args.graph.outer st).1 (dummy_numbers c.in_ok-dummy.dummy) c.split_marked.new.map.graph r in
    subst (λ z. IsPlanarSt c.split_marked.new.map.graph c.source.result.0 c.sink.result.0 z) (sym c.outer_end-outer.ensures.value)
    (subst (λ z. IsPlanarSt c.split_marked.new.map.graph c.source.result.0 z c.args.graph.outer) (sym c.sink.ensures.value)
    (subst (λ z. IsPlanarSt c.split_marked.new.map.graph z c.args.graph.sink c.args.graph.outer) (sym c.source.ensures.value) law.keeps.planar))

pub returns-clause-law : goal.returns-clause-law
returns-clause-law c =
    let same : c.reserve.new.self.graph ≡ c.args.graph.map.graph = c.reserve.ensures.graph ∙ ap (λ (m : MapValue). m.graph) c.into_map-map.ensures in
    let st : IsPlanarSt c.args.graph.map.graph c.args.graph.source c.args.graph.sink c.args.graph.outer = c.map.ensures.planar in
    let r : IsReduced c.args.graph.map.graph (dummy_numbers c.in_ok-dummy.dummy) c.split_marked.new.map.graph = subst (λ (g : Embedded). IsReduced g (dummy_numbers c.in_ok-dummy.dummy) c.split_marked.new.map.graph) same c.in_ok-dummy.ensures in
    let law : ReducedIs c.args.graph.map.graph c.args.graph.source c.args.graph.sink c.args.graph.outer (dummy_numbers c.in_ok-dummy.dummy) c.split_marked.new.map.graph = (reduced_law c.args.graph.map.graph c.args.graph.source c.args.graph.sink c.args.graph.outer st).1 (dummy_numbers c.in_ok-dummy.dummy) c.split_marked.new.map.graph r in
    subst (λ (g : Embedded). ReducedIs c.args.graph.map.graph c.args.graph.source c.args.graph.sink c.args.graph.outer (dummy_numbers c.in_ok-dummy.dummy) g) (sym (ap (λ (z : StValue). z.map.graph) c.in_ok-graph.ensures)) law

pub count_marks-count-requires : goal.count_marks-count-requires
count_marks-count-requires c =
    let l : length c.in_ok-marks.marks ≡ edges c.args.graph.map.graph =
    length-marks c.args.graph.map.graph c.args.graph.source c.args.graph.sink c.args.graph.outer c.args.sides.now c.in_ok-marks.marks c.requires.sides c.in_ok-marks.ensures in
    let v : c.map.result.now.graph ≡ c.args.graph.map.graph = ap (λ (m : MapValue). m.graph) c.map.ensures.value in
    let n : c.edges.result ≡ edges c.args.graph.map.graph = c.edges.ensures.value ∙ ap (λ (g : Embedded). edges g) v in
    omega arith

pub reserve-requires-clause-vertices : goal.reserve-requires-clause-vertices
reserve-requires-clause-vertices c =
    let v : c.map.result.now.graph ≡ c.args.graph.map.graph = ap (λ (m : MapValue). m.graph) c.map.ensures.value in
    let n : c.edges.result ≡ edges c.args.graph.map.graph = c.edges.ensures.value ∙ ap (λ (g : Embedded). edges g) v in
    let w : c.into_map-map.result.graph.vertices ≡ c.args.graph.map.graph.vertices = ap (λ (m : MapValue). m.graph.vertices) c.into_map-map.ensures in
    omega (arith, c.requires.room, c.count_marks-count.ensures.few)

pub reserve-requires-clause-edges : goal.reserve-requires-clause-edges
reserve-requires-clause-edges c =
    let v : c.map.result.now.graph ≡ c.args.graph.map.graph = ap (λ (m : MapValue). m.graph) c.map.ensures.value in
    let n : c.edges.result ≡ edges c.args.graph.map.graph = c.edges.ensures.value ∙ ap (λ (g : Embedded). edges g) v in
    let w : edges c.into_map-map.result.graph ≡ edges c.args.graph.map.graph = ap (λ (m : MapValue). edges m.graph) c.into_map-map.ensures in
    omega (arith, c.requires.room, c.count_marks-count.ensures.few)

pub split_marked-requires-clause-room : goal.split_marked-requires-clause-room
split_marked-requires-clause-room c =
    let v : c.map.result.now.graph ≡ c.args.graph.map.graph = ap (λ (m : MapValue). m.graph) c.map.ensures.value in
    let n : c.edges.result ≡ edges c.args.graph.map.graph = c.edges.ensures.value ∙ ap (λ (g : Embedded). edges g) v in
    let w : edges c.reserve.new.self.graph ≡ edges c.args.graph.map.graph = ap (λ (g : Embedded). edges g) c.reserve.ensures.graph ∙ ap (λ (m : MapValue). edges m.graph) c.into_map-map.ensures in
    let q : c.count_marks-count.result ≡ marked_below c.in_ok-marks.marks (edges c.reserve.new.self.graph) = c.count_marks-count.ensures.value ∙ ap (marked_below c.in_ok-marks.marks) (n ∙ sym w) in
    omega (arith, c.in_ok-reserve.ensures.room)
