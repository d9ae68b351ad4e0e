use Rattle.st_input.proofs.PlainLemmas.{free_within, filled_default}
use Rattle.st_input.proofs.plain.default_table.Goals as goal

pub fill_free-requires-clause-within : goal.fill_free-requires-clause-within
fill_free-requires-clause-within c = free_within c.args.graph.now c.vertices.result c.in_ok-free.free c.ends.result.now c.in_ok-free.ensures c.vertices.ensures.value c.ends.ensures.value c.ends.ensures.within

pub returns : goal.returns
returns c = filled_default c.args.graph.now c.in_ok-free.free c.in_ok-orders.orders c.fill_free.new.orders c.vertices.result c.vertices-2.result c.ends.result.now c.in_ok-free.ensures c.vertices.ensures.value c.in_ok-orders.ensures c.vertices-2.ensures.value c.ends.ensures.value c.in_ok-fill_free.ensures.filled
