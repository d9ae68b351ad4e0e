use Rattle.std.proofs.Common.{◌≡◌, ◌+◌, ◌<◌, ◌++◌, [], ◌∷◌, ◌∙◌, length, get_or, false, option_map, sym, ap, subst, arith}
use Rattle.std.proofs.lemmas.List.{get_or_default}
use Rattle.st_map.specs.Embedded.{edges}
use Rattle.st_reduce.specs.Marks.{dummy_numbers}
use Rattle.st_reduce.specs.Reduced.{Splits, begin}
use Rattle.st_reduce.proofs.MarkedLemmas.{length-dummy_numbers, next_there, next_split, dummy_numbers-push, room_next, room_kept}
use Rattle.st_reduce.proofs.ReducedLemmas.{length-splits}
use Rattle.st_reduce.proofs.reducing.split_marked.Goals as goal

pub loop-e-init : goal.loop-e-init
loop-e-init c =
    let q : dummy_numbers c.in_ok-dummy.dummy ≡ [] = ap dummy_numbers c.in_ok-dummy.ensures in
    (subst (λ z. Splits c.args.map.now.graph 0 z c.args.map.now.graph) (sym q) begin, omega (arith, c.requires.room))

pub split_if-vertex-requires-clause-there : goal.split_if-vertex-requires-clause-there
split_if-vertex-requires-clause-there c =
    next_there c.args.map.now.graph c.loop-e.map.graph c.args.marks.now c.loop-e.e (dummy_numbers c.loop-e.dummy) c.requires.marks c.loop-e.invariant.0
    (omega (arith, c.loop-e-test.true, c.len-e-end.ensures, c.requires.marks.size))

pub split_if-vertex-requires-clause-room : goal.split_if-vertex-requires-clause-room
split_if-vertex-requires-clause-room c =
    let l : c.loop-e.e < edges c.args.map.now.graph = omega (arith, c.loop-e-test.true, c.len-e-end.ensures, c.requires.marks.size) in
    let mark : c.get.result.now ≡ get_or c.args.marks.now c.loop-e.e false =
    c.get.ensures.read ∙ get_or_default c.args.marks.now c.loop-e.e c.get.result.now false (omega (arith, c.requires.marks.size)) in
    room_next c.args.marks.now (edges c.args.map.now.graph) c.loop-e.e c.loop-e.map.spare c.get.result.now l mark c.loop-e.invariant.1

pub push-requires : goal.push-requires
push-requires c =
    let q : length c.loop-e.dummy ≡ c.loop-e.e = sym (length-dummy_numbers c.loop-e.dummy) ∙ length-splits c.args.map.now.graph c.loop-e.e (dummy_numbers c.loop-e.dummy) c.loop-e.map.graph c.loop-e.invariant.0 in
    omega (arith, c.loop-e-test.true, c.len-e-end.ensures, c.requires.marks.size, c.requires.few)

pub loop-e-preserved : goal.loop-e-preserved
loop-e-preserved c =
    let l : c.loop-e.e < edges c.args.map.now.graph = omega (arith, c.loop-e-test.true, c.len-e-end.ensures, c.requires.marks.size) in
    let mark : c.get.result.now ≡ get_or c.args.marks.now c.loop-e.e false =
    c.get.ensures.read ∙ get_or_default c.args.marks.now c.loop-e.e c.get.result.now false (omega (arith, c.requires.marks.size)) in
    let q : dummy_numbers c.push.new.self ≡ dummy_numbers c.loop-e.dummy ++ option_map (λ w. w.0) c.split_if-vertex.result ∷ [] =
    ap dummy_numbers c.in_ok-push.ensures.ok ∙ dummy_numbers-push c.loop-e.dummy c.split_if-vertex.result in (
      subst (λ z. Splits c.args.map.now.graph (c.loop-e.e + 1) z c.split_if-vertex.new.map.graph) (sym q)
          (next_split c.args.map.now.graph c.loop-e.map.graph c.split_if-vertex.new.map.graph c.args.marks.now c.loop-e.e (dummy_numbers c.loop-e.dummy) c.get.result.now
          (option_map (λ w. w.0) c.split_if-vertex.result) c.requires.marks c.loop-e.invariant.0 l mark c.split_if-vertex.ensures.plain c.split_if-vertex.ensures.split),
      room_kept c.args.marks.now (edges c.args.map.now.graph) c.loop-e.e c.loop-e.map.spare c.split_if-vertex.new.map.spare c.get.result.now mark c.loop-e.invariant.1 c.split_if-vertex.ensures.spare,
    )
