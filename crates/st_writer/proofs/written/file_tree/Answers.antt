use Rattle.gml_core.specs.Views.{view}
use Rattle.st_writer.proofs.WrittenLemmas.{whole_made}
use Rattle.st_writer.proofs.written.file_tree.Goals as goal

pub returns-clause-entries : goal.returns-clause-entries
returns-clause-entries c = whole_made c.args.extent c.args.spec.now (view c.new-tree.result) (view c.push_list.new.self) (view c.in_ok-graph.graph) c.new-tree.ensures.empty c.in_ok-graph.ensures.pairs c.in_ok-push_list.ensures.ok
