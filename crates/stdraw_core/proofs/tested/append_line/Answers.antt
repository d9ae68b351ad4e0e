use Rattle.std.proofs.Common.{◌≡◌, [], codes, pos, sym, rules, w64, FitsSigned}
use Rattle.std.proofs.lemmas.Int.{to_z-of_z}
use Rattle.std.proofs.lemmas.Option.{get_or_from_slice_get}
use Rattle.std.proofs.lemmas.Result.{on_ok_weaker}
use Rattle.st_map.specs.Embedded.{edges, faces}
use Rattle.st_report.specs.Lines.{numbered}
use Rattle.st_verdict.specs.Verdict.{file_vertex_name}
use Rattle.st_report.proofs.Public.{six_pieces}
use Rattle.stdraw_core.proofs.tested.append_line.Goals as goal

pub returns : goal.returns
returns c =
    let names = c.args.spec.now.vertex_names in
    let st = c.args.graph.now in
    let vertex_count : c.vertices.result ≡ st.map.graph.vertices = search rules in
    let edge_count : c.edges.result ≡ edges st.map.graph = search rules in
    let face_count : c.count.result ≡ faces st.map.graph = search rules in
    let source_read = rw (c.names-names.ensures.vertex, c.source.ensures.value) at c.get.ensures.value in
    let sink_read = rw (c.names-names.ensures.vertex, c.sink.ensures.value) at c.get-2.ensures.value in
    let source_name : file_vertex_name c.args.spec.now st.source ≡ c.get.result.now = get_or_from_slice_get names st.source c.get.result.now (pos 0) source_read in
    let sink_name : file_vertex_name c.args.spec.now st.sink ≡ c.get-2.result.now = get_or_from_slice_get names st.sink c.get-2.result.now (pos 0) sink_read in
    let source_fits : FitsSigned w64 c.get.result.now = search rules in
    let sink_fits : FitsSigned w64 c.get-2.result.now = search rules in
    let vertices_added = rw vertex_count at c.in_ok-append_number.ensures in
    let edges_added = rw edge_count at c.in_ok-append_number-2.ensures in
    let faces_added = rw face_count at c.in_ok-append_number-3.ensures in
    let source_added = rw (to_z-of_z w64 c.get.result.now source_fits, sym source_name) at c.in_ok-append_number-4.ensures in
    let sink_added = rw (to_z-of_z w64 c.get-2.result.now sink_fits, sym sink_name) at c.append_number-5.ensures in
    on_ok_weaker c.append_number-5.result
    (six_pieces c.args.text.now c.append.new.self c.append_number.new.text c.append_number-2.new.text c.append_number-3.new.text c.append_number-4.new.text c.append_number-5.new.text
    (codes "planar st-graph: ") (numbered [] (pos st.map.graph.vertices) (codes " vertices, "))
    (numbered [] (pos (edges st.map.graph)) (codes " edges, ")) (numbered [] (pos (faces st.map.graph)) (codes " faces, source "))
    (numbered [] (file_vertex_name c.args.spec.now st.source) (codes ", sink ")) (numbered [] (file_vertex_name c.args.spec.now st.sink) (codes "\n"))
    c.in_ok-append.ensures.ok vertices_added edges_added faces_added source_added)
    sink_added
