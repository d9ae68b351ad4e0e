use Rattle.std.proofs.Common.{◌≡◌, ◌≤◌, ◌+◌, [], length, drop, codes, option_map, ap, ◌∙◌, arith}
use Rattle.std.proofs.lemmas.List.{drop_all}
use Rattle.gml_core.specs.Trees.{listed}
use Rattle.gml_core.specs.Views.{entry_view, view}
use Rattle.st_parts.specs.Kinds.{part_wrong}
use Rattle.st_parts.specs.Parts.{edge_in, label_in, node_in, outer_in, path_in}
use Rattle.st_parts.proofs.StepLemmas.{first_step, each_step, few_step, earliest_step, each_done, first_done, parts_are}
use Rattle.st_parts.proofs.parts.scan_list.Goals as goal

pub loop-i-preserved : goal.loop-i-preserved
loop-i-preserved c =
    let es = listed (view c.args.tree.now) in
    let d = drop c.loop-i.i es in
    let rest = drop (c.loop-i.i + 1) es in
    let e = entry_view c.pair_at-pair.result.now in
    record {
      nodes = each_step (codes "node") node_in es d rest e c.loop-i.lists.nodes c.take.new.lists.nodes c.pair_at-pair.ensures.rest c.in_ok-take.ensures.nodes c.loop-i.invariant.nodes;
      labels = each_step (codes "node") label_in es d rest e c.loop-i.lists.labels c.take.new.lists.labels c.pair_at-pair.ensures.rest c.in_ok-take.ensures.labels c.loop-i.invariant.labels;
      edges = each_step (codes "edge") edge_in es d rest e c.loop-i.lists.edges c.take.new.lists.edges c.pair_at-pair.ensures.rest c.in_ok-take.ensures.edges c.loop-i.invariant.edges;
      paths = each_step (codes "path") path_in es d rest e c.loop-i.lists.paths c.take.new.lists.paths c.pair_at-pair.ensures.rest c.in_ok-take.ensures.paths c.loop-i.invariant.paths;
      few_nodes = few_step (codes "node") node_in e c.loop-i.lists.nodes c.take.new.lists.nodes c.loop-i.i c.in_ok-take.ensures.nodes c.loop-i.invariant.few_nodes;
      few_labels = few_step (codes "node") label_in e c.loop-i.lists.labels c.take.new.lists.labels c.loop-i.i c.in_ok-take.ensures.labels c.loop-i.invariant.few_labels;
      few_edges = few_step (codes "edge") edge_in e c.loop-i.lists.edges c.take.new.lists.edges c.loop-i.i c.in_ok-take.ensures.edges c.loop-i.invariant.few_edges;
      few_paths = few_step (codes "path") path_in e c.loop-i.lists.paths c.take.new.lists.paths c.loop-i.i c.in_ok-take.ensures.paths c.loop-i.invariant.few_paths;
      wrong = earliest_step part_wrong es d rest e c.loop-i.lists.wrong c.take.new.lists.wrong c.pair_at-pair.ensures.rest c.in_ok-take.ensures.wrong c.loop-i.invariant.wrong;
      outer = first_step (codes "outer") es d rest e _ _ c.pair_at-pair.ensures.rest c.or_outer-outer.ensures.outer c.loop-i.invariant.outer;
      sound = c.or_outer-outer.ensures.sound;
    }

pub returns-clause-parts : goal.returns-clause-parts
returns-clause-parts c =
    let es = listed (view c.args.tree.now) in
    let d = drop c.loop-i.i es in
    let past : length es ≤ c.loop-i.i = omega arith in
    let done : d ≡ [] = drop_all c.loop-i.i es past in
    let nodes = each_done (codes "node") node_in es d c.loop-i.lists.nodes done c.loop-i.invariant.nodes in
    let labels = each_done (codes "node") label_in es d c.loop-i.lists.labels done c.loop-i.invariant.labels in
    let edges = each_done (codes "edge") edge_in es d c.loop-i.lists.edges done c.loop-i.invariant.edges in
    let paths = each_done (codes "path") path_in es d c.loop-i.lists.paths done c.loop-i.invariant.paths in
    let outer = first_done (codes "outer") es d _ done c.loop-i.invariant.outer in
    c.scan_of.ensures.parts ∙ parts_are es c.loop-i.lists.nodes c.loop-i.lists.labels c.loop-i.lists.edges c.outer_of.result.outer c.loop-i.lists.paths nodes labels edges (c.outer_of.ensures.outer ∙ ap (option_map outer_in) outer) paths
