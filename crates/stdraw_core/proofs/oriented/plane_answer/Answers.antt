use Rattle.std.proofs.Common.{◌≡◌, ◌<◌, ◌*◌, length, sym, ap, subst, ◌∙◌}
use Rattle.gml_core.specs.Printing.{printed}
use Rattle.gml_core.specs.Sound.{IsSound}
use Rattle.st_bipolar.specs.Orientation.{IsOrientation, turned_end}
use Rattle.st_bipolar.specs.OrientFault.{IsOrientFault}
use Rattle.st_bipolar.specs.Turning.{is_turned, with_lists}
use Rattle.st_input.specs.WithEnds.{with_ends}
use Rattle.st_writer.specs.Written.{written_entries}
use Rattle.st_map.specs.Embedded.{Embedded}
use Rattle.st_test.specs.Planar.{outer_of}
use Rattle.st_verdict.proofs.Public.{outer_same}
use Rattle.stdraw_core.specs.Oriented.{outer_at}
use Rattle.stdraw_core.proofs.OrientOne.{plane_stop}
use Rattle.stdraw_core.proofs.oriented.plane_answer.Goals as goal

pub file_of-requires-clause-vertices : goal.file_of-requires-clause-vertices
file_of-requires-clause-vertices c = c.in-Ok.ensures.orientation.turned.vertices ∙ ap (λ (z : Embedded). z.vertices) c.requires.map.0

pub file_of-requires-clause-edges : goal.file_of-requires-clause-edges
file_of-requires-clause-edges c = c.in-Ok.ensures.orientation.turned.count ∙ ap (λ (z : Embedded). length z.ends) c.requires.map.0

pub file_of-requires-clause-outer : goal.file_of-requires-clause-outer
file_of-requires-clause-outer c = subst (λ z. z < 2 * length c.in-Ok.directed.graph.ends) (sym c.in-Ok.ensures.outer) c.in-Ok.ensures.orientation.planar.outer_in

pub returns-in-Err : goal.returns-in-Err
returns-in-Err c =
    plane_stop c.args.spec c.args.poles c.args.map.graph c.in-Err.fault c.fault_stop.result
    (subst (λ z. IsOrientFault c.args.map.graph c.args.poles.source.0 c.args.poles.sink.0 z c.in-Err.fault) (outer_same c.args.spec c.args.map.graph c.args.poles.source.0 c.outer.result c.outer.ensures.value) c.in-Err.ensures.fault)
    c.fault_stop.ensures

pub returns-in-Ok-file_of : goal.returns-in-Ok-file_of
returns-in-Ok-file_of c =
    let g = c.args.spec in
    let m = c.args.map.graph in
    let f = c.in-Ok.directed.graph in
    let b = is_turned c.in-Ok.directed.turned in
    let same : outer_of c.args.map.graph c.args.poles.source.0 c.outer.result ≡ outer_at c.args.spec c.args.poles c.args.map.graph =
    outer_same c.args.spec c.args.map.graph c.args.poles.source.0 c.outer.result c.outer.ensures.value in
    let end : c.in-Ok.directed.outer.0 ≡ turned_end (is_turned c.in-Ok.directed.turned) (outer_at c.args.spec c.args.poles c.args.map.graph) =
    c.in-Ok.ensures.outer ∙ ap (turned_end b) same in
    record {
      b = b;
      h = with_lists m b f;
      is = subst (λ z. IsOrientation m c.args.poles.source.0 c.args.poles.sink.0 z b (with_lists m b f)) same c.in-Ok.ensures.orientation;
      sound = subst (λ z. IsSound (written_entries (with_ends g f z))) end c.in-Ok-file_of.ensures.sound;
      text = c.in-Ok-file_of.ensures.text ∙ ap (λ z. printed (written_entries (with_ends g f z))) end;
    }
