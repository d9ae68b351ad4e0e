use Rattle.std.proofs.Common.{rules, w64, FitsSigned}
use Rattle.std.proofs.lemmas.Int.{to_z-of_z}
use Rattle.st_verdict.specs.Verdict.{file_vertex_name}
use Rattle.stdraw_core.specs.Lattice.{bound_line}
use Rattle.stdraw_core.proofs.LatticeLemmas.{three_lines}
use Rattle.stdraw_core.proofs.lattice.lines_of.Goals as goal

pub returns : goal.returns
returns c =
    let g = c.args.spec.now in
    let u_fits : FitsSigned w64 c.name_of_vertex.result = search rules in
    let v_fits : FitsSigned w64 c.name_of_vertex-2.result = search rules in
    let bound_fits : FitsSigned w64 c.name_of_vertex-3.result = search rules in
    let line = rw (
      to_z-of_z w64 c.name_of_vertex.result u_fits,
      to_z-of_z w64 c.name_of_vertex-2.result v_fits,
      to_z-of_z w64 c.name_of_vertex-3.result bound_fits,
      c.name_of_vertex.ensures,
      c.name_of_vertex-2.ensures,
      c.name_of_vertex-3.ensures,
    ) at c.in_ok-append_bound.ensures in
    record {
      bound = c.bound_of-bound.result.0;
      is = c.bound_of-bound.ensures.is;
      first = c.in_ok-append_shown.ensures.0;
      shows_first = c.in_ok-append_shown.ensures.1;
      second = c.in_ok-append_shown-2.ensures.0;
      shows_second = c.in_ok-append_shown-2.ensures.1;
      text = three_lines c.new-text.result c.append_bound.new.text c.append_shown.new.text c.append_shown-2.new.text
          (bound_line c.args.op (file_vertex_name g c.args.u.0) (file_vertex_name g c.args.v.0) (file_vertex_name g c.bound_of-bound.result.0)) c.in_ok-append_shown.ensures.0 c.in_ok-append_shown-2.ensures.0
          c.new-text.ensures line c.in_ok-append_shown.ensures.2 c.in_ok-append_shown-2.ensures.2;
    }
