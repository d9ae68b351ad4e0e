use Rattle.std.proofs.Common.{◌≡◌, ◌<◌, length, get_or, ◌∙◌, arith}
use Rattle.std.proofs.lemmas.List.{get_or_default}
use Rattle.st_ids.specs.Graph.{tail_of, head_of}
use Rattle.st_map.proofs.Public.{count-le}
use Rattle.st_map.specs.Tables.{leaves}
use Rattle.st_test.proofs.stripping.count_edges_out.Goals as goal

pub overflow_add-index_mut : goal.overflow_add-index_mut
unfolding tail_of head_of
overflow_add-index_mut c =
    let w : tail_of c.args.ends.now c.loop-e.e < c.args.n = (c.requires.within c.loop-e.e c.loop-e-test.true).0 in
    let l : tail_of c.args.ends.now c.loop-e.e < length c.loop-e.degree.items = omega (arith, c.loop-e.invariant.size) in
    let r : c.index_mut.result.now ≡ get_or c.loop-e.degree.items (tail_of c.args.ends.now c.loop-e.e) 0 =
    c.index_mut.ensures.value ∙ get_or_default c.loop-e.degree.items (tail_of c.args.ends.now c.loop-e.e) c.index_mut.result.now 0 l in
    omega (arith, c.loop-e.invariant.each (tail_of c.args.ends.now c.loop-e.e) w, count-le c.loop-e.e (leaves c.args.ends.now (tail_of c.args.ends.now c.loop-e.e)), c.requires.few, c.loop-e-test.true)
