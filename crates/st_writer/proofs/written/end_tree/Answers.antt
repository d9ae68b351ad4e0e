use Rattle.std.proofs.Common.{length}
use Rattle.st_writer.proofs.WrittenLemmas.{edge_below}
use Rattle.st_writer.proofs.written.end_tree.Goals as goal

pub push_name-requires-clause-there : goal.push_name-requires-clause-there
push_name-requires-clause-there c = edge_below c.args.d.0 c.edge.result.0 (length c.args.names.now) c.edge.ensures c.requires.there
