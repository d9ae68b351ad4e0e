use Rattle.std.proofs.Common.{[], ◌++◌}
use Rattle.gml_core.proofs.tests.said_in_two.Goals as goal

pub finish-requires : goal.finish-requires
finish-requires c = (c.args.first.now ++ c.args.second.now, c.in_ok-reader.ensures c.args.first.now (c.in_ok-feed.ensures [] c.new.ensures))
