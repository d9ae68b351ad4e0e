use Rattle.std.proofs.Common.{◌∙◌, ap, subst, sym, rules, w64, FitsSigned}
use Rattle.std.proofs.lemmas.Int.{to_z-of_z}
use Rattle.draw_align.specs.declared.path_fault.PathFault.{PathFault}
use Rattle.st_report.specs.declared.stop.BadPath.TheVariants.{SharedEdge, Crossing}
use Rattle.stdraw_core.specs.Paths.{TellsPath}
use Rattle.stdraw_core.proofs.PathLemmas.{crossing_there, path_told, shared_there, told_by}
use Rattle.stdraw_core.proofs.paths.fault_stop.Goals.{in-NotAPath, in-SharedEdge, in-Crossing}
use Rattle.stdraw_core.proofs.paths.fault_stop.Goals as goal

pub name_of_edge-requires : goal.name_of_edge-requires
name_of_edge-requires c = shared_there c.args.spec.now c.args.graph.now c.args.sides.now c.requires.found c.requires.sides.sides c.args.paths.now c.requires.edges c.in-SharedEdge.path c.in-SharedEdge.edge (rw c.in-SharedEdge.is at c.requires.fault)

pub name_of_vertex-requires : goal.name_of_vertex-requires
name_of_vertex-requires c = crossing_there c.args.spec.now c.args.graph.now c.args.sides.now c.requires.found c.requires.sides.sides c.local.ensures c.args.paths.now c.requires.edges c.in-Crossing.path c.in-Crossing.other c.in-Crossing.vertex (rw c.in-Crossing.is at c.requires.fault)

pub returns : goal.returns
returns c =
    let told = λ (h : TellsPath c.args.spec.now c.args.fault c.match-fault.why). told_by c.args.spec.now c.args.graph.now c.match-fault.why (path_told c.args.spec.now c.args.graph.now c.args.sides.now c.args.paths.now c.requires.paths c.requires.known c.requires.sides c.args.fault c.match-fault.why c.requires.fault h) in
    elim c.match-fault.branch [
      | in-NotAPath w ↦ told (subst (λ (z : PathFault). TellsPath c.args.spec.now z c.match-fault.why) (sym w.in-NotAPath.is) w.why-is)
      | in-SharedEdge w ↦
          let fit : FitsSigned w64 w.name_of_edge.result = search rules in
          told (subst (λ (z : PathFault). TellsPath c.args.spec.now z c.match-fault.why) (sym w.in-SharedEdge.is)
          (w.why-is ∙ ap (λ z. SharedEdge w.in-SharedEdge.path z) (to_z-of_z w64 w.name_of_edge.result fit ∙ w.name_of_edge.ensures)))
      | in-Crossing w ↦
          let fit : FitsSigned w64 w.name_of_vertex.result = search rules in
          told (subst (λ (z : PathFault). TellsPath c.args.spec.now z c.match-fault.why) (sym w.in-Crossing.is)
          (w.why-is ∙ ap (λ z. Crossing w.in-Crossing.path w.in-Crossing.other z) (to_z-of_z w64 w.name_of_vertex.result fit ∙ w.name_of_vertex.ensures)))
    ]
