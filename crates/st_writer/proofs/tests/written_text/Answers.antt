use Rattle.std.proofs.Common.{arith}
use Rattle.gml_core.specs.Views.{view}
use Rattle.st_writer.proofs.tests.written_text.Goals as goal

pub written_tree-requires : goal.written_tree-requires
written_tree-requires c = c.read_is_writable.ensures (view c.in_ok-tree.tree) 3 4 c.in_ok-spec.spec c.in_ok-tree.ensures.sound (omega arith) (omega arith) c.in_ok-spec.ensures.none c.in_ok-spec.ensures.value
