use Rattle.std.proofs.Common.{◌≡◌, ◌+◌, ◌<◌, ◌++◌, [], ◌∷◌, ◌∙◌, length, get_or, false, option_map, sym, ap, subst, arith, length-append, rules}
use Rattle.std.proofs.lemmas.List.{get_or_default}
use Rattle.st_sides.specs.Sides.{edge_count}
use Rattle.st_reduce.specs.Dummies.{AreDummiesTo}
use Rattle.st_reduce.specs.Marks.{dummy_numbers}
use Rattle.st_reduce.proofs.DummyLemmas.{dummies_none, dummies_next}
use Rattle.st_reduce.proofs.MarkedLemmas.{dummy_numbers-push}
use Rattle.st_reduce.proofs.dummies.numbered.Goals as goal

pub loop-e-init : goal.loop-e-init
loop-e-init c = record {
  in_range = search rules;
  size = ap (λ z. length z) c.in_ok-of_edges.ensures;
  few = omega (arith, c.vertices-vertices.ensures.value);
  are = subst (λ z. AreDummiesTo c.args.sides.now 0 z c.vertices-vertices.result) (sym (ap dummy_numbers c.in_ok-of_edges.ensures)) (dummies_none c.args.sides.now c.vertices-vertices.result c.vertices-vertices.ensures.value);
}

pub next_dummy-vertex-requires : goal.next_dummy-vertex-requires
next_dummy-vertex-requires c = record { few = omega (arith, c.loop-e.invariant.few, c.loop-e.invariant.in_range, c.vertices-vertices.ensures.few, c.vertices-vertices.ensures.value, c.edges-edges.ensures.few, c.edges-edges.ensures.value) }

pub loop-e-preserved : goal.loop-e-preserved
loop-e-preserved c =
    let l : c.loop-e.e < edge_count c.args.sides.now = omega (arith, c.loop-e-test.true, c.edges-edges.ensures.value) in
    let mark : c.get.result.now ≡ get_or c.args.marks.now c.loop-e.e false =
    c.get.ensures.read ∙ get_or_default c.args.marks.now c.loop-e.e c.get.result.now false (omega (arith, c.requires.size)) in
    let q : dummy_numbers c.push.new.self ≡ dummy_numbers c.loop-e.of_edges ++ option_map (λ w. w.0) c.next_dummy-vertex.result.0 ∷ [] =
    ap dummy_numbers c.in_ok-push.ensures.ok ∙ dummy_numbers-push c.loop-e.of_edges c.next_dummy-vertex.result.0 in
    record {
      in_range = omega arith;
      size = omega (arith, ap (λ z. length z) c.in_ok-push.ensures.ok, length-append c.loop-e.of_edges (c.next_dummy-vertex.result.0 ∷ []), c.loop-e.invariant.size);
      few = omega (arith, c.loop-e.invariant.few, c.next_dummy-vertex.ensures.few);
      are = subst (λ z. AreDummiesTo c.args.sides.now (c.loop-e.e + 1) z c.next_dummy-vertex.result.1) (sym q)
          (dummies_next c.args.sides.now c.args.marks.now c.loop-e.e (dummy_numbers c.loop-e.of_edges) c.loop-e.vertices c.next_dummy-vertex.result.1 c.get.result.now
          (option_map (λ w. w.0) c.next_dummy-vertex.result.0) c.requires l mark c.next_dummy-vertex.ensures.plain c.next_dummy-vertex.ensures.split c.loop-e.invariant.are);
    }

pub returns-clause-dummies : goal.returns-clause-dummies
returns-clause-dummies c =
    let q : c.loop-e.e ≡ edge_count c.args.sides.now = omega (arith, c.loop-e-test.false, c.loop-e.invariant.in_range, c.edges-edges.ensures.value) in
    subst (λ z. AreDummiesTo c.args.sides.now z (dummy_numbers c.loop-e.of_edges) c.loop-e.vertices) q c.loop-e.invariant.are
