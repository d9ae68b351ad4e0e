use Rattle.st_verdict.proofs.Public.{found}
use Rattle.stdraw_core.proofs.GeneratedLemmas.{not_accepted, bench_gives}
use Rattle.stdraw_core.specs.Generated.{IsGenerated}
use Rattle.stdraw_core.proofs.bench.answer_bench.Goals as goal

pub returns-in-Err-accept : goal.returns-in-Err-accept
returns-in-Err-accept c =
    let is : IsGenerated c.args.recipe c.in-Ok.spec = record { vertices = c.in-Ok.ensures.vertices; edges = c.in-Ok.ensures.edges; plain = c.in-Ok.ensures.plain; tables = c.in-Ok.ensures.consistent } in
    not_accepted c.accepted.ensures c.args.recipe c.args.form c.in-Ok.spec c.requires.least is c.in-Err-accept.stop c.in-Err-accept.ensures

pub line_on-requires-clause-found : goal.line_on-requires-clause-found
line_on-requires-clause-found c = found c.in-Ok.spec c.in-Ok-accept.graph c.in-Ok-accept.ensures

pub returns : goal.returns
returns c =
    let is : IsGenerated c.args.recipe c.in-Ok.spec = record { vertices = c.in-Ok.ensures.vertices; edges = c.in-Ok.ensures.edges; plain = c.in-Ok.ensures.plain; tables = c.in-Ok.ensures.consistent } in
    bench_gives c.args.recipe c.args.form c.in-Ok.spec c.in-Ok-accept.graph is c.in-Ok-accept.ensures c.line_on.result c.line_on.ensures.ok c.line_on.ensures.err
