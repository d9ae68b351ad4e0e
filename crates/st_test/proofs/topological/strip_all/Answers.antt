use Rattle.st_test.specs.Poles.{graph_of}
use Rattle.st_test.proofs.TopologicalLemmas.{ordered, topological}
use Rattle.st_test.proofs.topological.strip_all.Goals as goal

pub returns-in-Ok-clause-order : goal.returns-in-Ok-clause-order
returns-in-Ok-clause-order c =
    topological (graph_of c.args.n c.args.arcs.now) c.in-Ok.order.vertices.items c.in-Ok.order.edges.items c.requires.within c.requires.acyclic c.in-Ok.ensures

pub returns-in-Ok-clause-places : goal.returns-in-Ok-clause-places
returns-in-Ok-clause-places c =
    ordered (graph_of c.args.n c.args.arcs.now) c.in-Ok.order.vertices.items c.in-Ok.order.edges.items c.requires.within c.requires.acyclic c.in-Ok.ensures
