use Rattle.std.proofs.Common.{◌≡◌, ◌<◌, ◌≤◌, length, get_or, ◌∙◌, sym, subst, arith}
use Rattle.std.proofs.lemmas.List.{get_or_default}
use Rattle.st_ids.specs.Graph.{arcs_of}
use Rattle.st_test.specs.Poles.{IsOnlySource, IsOnlySink, NoneIn, NoneOut, graph_of}
use Rattle.st_ids.specs.Walks.{IsAcyclic}
use Rattle.st_test.proofs.LongWalks.{acyclic}
use Rattle.st_test.proofs.PoleLists.{first_two, only_source, only_sink}
use Rattle.st_test.proofs.finding_poles.find_poles.Goals as goal

pub returns-then-len-gt1 : goal.returns-then-len-gt1
returns-then-len-gt1 c =
    let no_cycle : IsAcyclic (arcs_of (graph_of c.args.n c.args.ends.now)) =
    acyclic c.args.n c.args.ends.now c.args.order.now.vertices.items c.args.order.now.edges.items c.requires.within c.requires.stripped c.requires.all in
    let more : 1 < c.len.result = c.if-len-gt1.true in
    let len : length c.in_ok-sources.sources.items ≡ c.len-then-len-gt1.result = omega (arith, c.len-then-len-gt1.ensures, c.in_ok-sources.sources.ok.0) in
    let l1 : 1 < c.len-then-len-gt1.result = omega (arith, c.len-then-len-gt1.ensures, c.len.ensures) in (
      c.requires.some,
      no_cycle,
      first_two c.args.n (NoneIn (graph_of c.args.n c.args.ends.now)) c.in_ok-sources.sources.items c.index.result.now c.index-then-len-gt1.result.now c.len-then-len-gt1.result
          c.in_ok-sources.ensures.those len l1 c.index.ensures c.index-then-len-gt1.ensures,
    )

pub returns-then-len-gt1-2 : goal.returns-then-len-gt1-2
returns-then-len-gt1-2 c =
    let no_cycle : IsAcyclic (arcs_of (graph_of c.args.n c.args.ends.now)) =
    acyclic c.args.n c.args.ends.now c.args.order.now.vertices.items c.args.order.now.edges.items c.requires.within c.requires.stripped c.requires.all in
    let one : length c.in_ok-sources.sources.items ≤ 1 = omega (arith, c.if-len-gt1.false, c.len.ensures, c.in_ok-sources.sources.ok.0) in
    let more : 1 < c.len-2.result = c.if-len-gt1-2.true in
    let len : length c.in_ok-sinks.sinks.items ≡ c.len-then-len-gt1-2.result = omega (arith, c.len-then-len-gt1-2.ensures, c.in_ok-sinks.sinks.ok.0) in
    let l1 : 1 < c.len-then-len-gt1-2.result = omega (arith, c.len-then-len-gt1-2.ensures, c.len-2.ensures) in (
      c.requires.some,
      no_cycle,
      (get_or c.in_ok-sources.sources.items 0 0, only_source c.args.n c.args.ends.now c.in_ok-sources.sources.items c.in_ok-sources.ensures.those c.in_ok-sources.ensures.some one),
      first_two c.args.n (NoneOut (graph_of c.args.n c.args.ends.now)) c.in_ok-sinks.sinks.items c.index-then-len-gt1-2.result.now c.index-then-len-gt1-2-2.result.now c.len-then-len-gt1-2.result
          c.in_ok-sinks.ensures.those len l1 c.index-then-len-gt1-2.ensures c.index-then-len-gt1-2-2.ensures,
    )

pub returns : goal.returns
returns c =
    let no_cycle : IsAcyclic (arcs_of (graph_of c.args.n c.args.ends.now)) =
    acyclic c.args.n c.args.ends.now c.args.order.now.vertices.items c.args.order.now.edges.items c.requires.within c.requires.stripped c.requires.all in
    let one : length c.in_ok-sources.sources.items ≤ 1 = omega (arith, c.if-len-gt1.false, c.len.ensures, c.in_ok-sources.sources.ok.0) in
    let one2 : length c.in_ok-sinks.sinks.items ≤ 1 = omega (arith, c.if-len-gt1-2.false, c.len-2.ensures, c.in_ok-sinks.sinks.ok.0) in
    let some : 1 ≤ length c.in_ok-sources.sources.items = c.in_ok-sources.ensures.some in
    let some2 : 1 ≤ length c.in_ok-sinks.sinks.items = c.in_ok-sinks.ensures.some in
    record {
      two = c.requires.some;
      no_cycle = no_cycle;
      source = subst (λ z. IsOnlySource (graph_of c.args.n c.args.ends.now) z)
          (sym (c.index-2.ensures ∙ get_or_default c.in_ok-sources.sources.items 0 c.index-2.result.now 0 (omega arith)))
          (only_source c.args.n c.args.ends.now c.in_ok-sources.sources.items c.in_ok-sources.ensures.those some one);
      sink = subst (λ z. IsOnlySink (graph_of c.args.n c.args.ends.now) z)
          (sym (c.index-3.ensures ∙ get_or_default c.in_ok-sinks.sinks.items 0 c.index-3.result.now 0 (omega arith)))
          (only_sink c.args.n c.args.ends.now c.in_ok-sinks.sinks.items c.in_ok-sinks.ensures.those some2 one2);
    }
