use Rattle.std.proofs.Common.{[], ◌∷◌, codes, map, refl, rules, w64, FitsSigned}
use Rattle.std.proofs.lemmas.Int.{to_z-of_z}
use Rattle.std.proofs.lemmas.Result.{on_ok_weaker}
use Rattle.st_report.specs.Lines.{spaced}
use Rattle.st_sides.specs.Sides.{primal}
use Rattle.st_verdict.specs.Verdict.{file_vertex_name, file_edge_name}
use Rattle.stdraw_core.specs.Lattice.{walk_line}
use Rattle.stdraw_core.proofs.LatticeLemmas.{edges_there, five_pieces}
use Rattle.stdraw_core.proofs.lattice.append_walk.Goals as goal

pub append_edges-requires : goal.append_edges-requires
append_edges-requires c =
    edges_there c.items.result.now c.in_ok-edges.edges _ c.items.ensures (primal c.args.sides.now) c.args.from.0 c.args.to.0
    (c.leftmost.ensures.walk c.args.from.0 c.args.to.0 c.in_ok-edges.edges c.requires.from_there c.in_ok-edges.ensures) c.requires.edges

pub returns : goal.returns
returns c =
    let g = c.args.spec.now in
    let names = map (file_edge_name g) c.in_ok-edges.edges in
    let from_fits : FitsSigned w64 c.name_of_vertex.result = search rules in
    let to_fits : FitsSigned w64 c.name_of_vertex-2.result = search rules in
    let two = rw (to_z-of_z w64 c.name_of_vertex.result from_fits, to_z-of_z w64 c.name_of_vertex-2.result to_fits, c.name_of_vertex.ensures, c.name_of_vertex-2.ensures) at c.in_ok-append_two.ensures in
    let more = rw c.items.ensures at c.in_ok-append_edges.ensures in
    on_ok_weaker c.append-3.result
    (λ e. (
      walk_line (file_vertex_name g c.args.from.0) (file_vertex_name g c.args.to.0) names,
      record { walk = c.in_ok-edges.edges; leftmost = c.in_ok-edges.ensures; text = refl },
      five_pieces c.args.text.now c.append.new.self c.append_two.new.text c.append-2.new.self c.append_edges.new.text c.append-3.new.self
          (codes "walk") (spaced (file_vertex_name g c.args.from.0 ∷ file_vertex_name g c.args.to.0 ∷ [])) (codes ":") (spaced names) (codes "\n")
          c.in_ok-append.ensures.ok two c.in_ok-append-2.ensures.ok more e,
    ))
    c.append-3.ensures.ok
