use Rattle.std.proofs.Common.{◌≤◌, length, subst}
use Rattle.std.proofs.lemmas.Result.{IfOk-weaker}
use Rattle.st_test.specs.Poles.{NoneIn, graph_of}
use Rattle.st_test.specs.StripState.{AreZeros}
use Rattle.st_test.specs.PolesAnswer.{AreInOrder}
use Rattle.st_test.proofs.PoleLists.{are_sources, some_source, those-short}
use Rattle.st_test.proofs.finding_poles.list_sources.Goals as goal

pub returns-clause-those : goal.returns-clause-those
returns-clause-those c = IfOk-weaker c.list_zeros.result (λ v. AreZeros c.args.n c.deref.result.now v.items) (λ v. AreInOrder c.args.n (NoneIn (graph_of c.args.n c.args.ends.now)) v.items)
    (λ v z. are_sources c.args.n c.args.ends.now c.in_ok-degree.degree.items v.items c.in_ok-degree.ensures (subst (λ d. AreZeros c.args.n d v.items) c.deref.ensures.value z)) c.list_zeros.ensures

pub returns-clause-some : goal.returns-clause-some
returns-clause-some c = IfOk-weaker c.list_zeros.result (λ v. AreInOrder c.args.n (NoneIn (graph_of c.args.n c.args.ends.now)) v.items) (λ v. 1 ≤ length v.items)
    (λ v h. some_source c.args.n c.args.ends.now c.args.order.now.vertices.items c.args.order.now.edges.items c.requires.within c.requires.stripped c.requires.all c.requires.some v.items h) (returns-clause-those c)

pub returns-clause-fits : goal.returns-clause-fits
returns-clause-fits c = IfOk-weaker c.list_zeros.result (λ v. AreInOrder c.args.n (NoneIn (graph_of c.args.n c.args.ends.now)) v.items) (λ v. length v.items ≤ c.args.n)
    (λ v h. those-short c.args.n (NoneIn (graph_of c.args.n c.args.ends.now)) v.items h) (returns-clause-those c)
