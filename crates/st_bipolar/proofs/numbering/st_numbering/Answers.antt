use Rattle.std.proofs.Common.{◌≤◌, ℕ, List, length, ap, arith}
use Rattle.std.specs.Prelude.{slice_index}
use Rattle.st_map.specs.Embedded.{bare}
use Rattle.st_bipolar.proofs.PlaceLemmas.{short}
use Rattle.st_bipolar.proofs.NamingLemmas.{numbered_by, numbers_at, ranked_at, tree_at}
use Rattle.st_bipolar.proofs.numbering.st_numbering.Goals as goal

pub rank-requires-clause-few : goal.rank-requires-clause-few
rank-requires-clause-few c =
    let V = c.requires.visited in
    let h : length c.args.visit.now.vertices.items ≤ c.args.map.now.graph.vertices = short c.args.map.now.graph.vertices c.args.visit.now.vertices.items V.within V.apart in
    omega (arith, ap (λ (z : List ℕ). length z) c.deref.ensures.value, V.parents_size, c.vertices-n.ensures.few)

pub rank-requires-clause-tree : goal.rank-requires-clause-tree
rank-requires-clause-tree c =
    let t = c.args.visit.now in
    tree_at (bare c.args.map.now.graph) (slice_index t.vertices.items 0) (slice_index t.vertices.items 1) t.vertices.items t.parents.items t.lows.items c.deref.result.now c.deref-2.result.now c.requires.visited c.requires.no_joint c.deref.ensures.value c.deref-2.ensures.value

pub returns-clause-numbers : goal.returns-clause-numbers
returns-clause-numbers c =
    let g = bare c.args.map.now.graph in
    let t = c.args.visit.now in
    let V = c.requires.visited in
    numbered_by g (slice_index t.vertices.items 0) (slice_index t.vertices.items 1) t.vertices.items t.parents.items t.lows.items c.in_ok-ranks.ranks.items c.in_ok-numbers.numbers V c.requires.all c.requires.no_joint c.rotation.ensures.ends c.requires.no_loop
    c.requires.connected
    (ranked_at (length t.vertices.items) t.parents.items c.deref.result.now t.lows.items c.deref-2.result.now c.in_ok-ranks.ranks.items c.deref.ensures.value c.deref-2.ensures.value V.parents_size c.in_ok-ranks.ensures)
    (numbers_at g.vertices c.vertices-n.result t.vertices.items c.deref-3.result.now c.in_ok-ranks.ranks.items c.deref-4.result.now c.in_ok-numbers.numbers c.vertices-n.ensures.value c.deref-3.ensures.value c.deref-4.ensures.value c.in_ok-numbers.ensures)
