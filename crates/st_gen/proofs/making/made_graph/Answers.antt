use Rattle.std.proofs.Common.{◌≡◌, ◌<◌, ◌+◌, ◌-◌, ◌%◌, ◌++◌, take, drop, min, get_or, ap, sym, ◌∙◌, subst}
use Rattle.std.proofs.lemmas.List.Elements.{All-get_or}
use Rattle.st_gen.specs.Made.{range, ear_edges}
use Rattle.st_gen.proofs.Ears.{Places, places, growing_more, growing_end}
use Rattle.st_gen.proofs.making.made_graph.Goals as goal

pub add_ear-requires-clause-to : goal.add_ear-requires-clause-to
add_ear-requires-clause-to c =
    let at : Places c.loop-count.right (c.next_word.result % (c.len-last.result - 1)) (c.next_word.result % (c.len-last.result - 1) + 1 + c.next_word-in-loop-count.result % c.min.result) =
    places c.loop-count.right c.len-last.result c.next_word.result c.next_word-in-loop-count.result c.min.result c.len-last.ensures.value c.loop-count.invariant.two c.min.ensures in
    subst (λ z. z < c.loop-count.count) (sym (c.get-in-loop-count.ensures.value ∙ ap (λ z. get_or z (c.next_word.result % (c.len-last.result - 1) + 1 + c.next_word-in-loop-count.result % c.min.result) 0) c.get.ensures.kept))
    (All-get_or (λ v. v < c.loop-count.count) c.loop-count.right (c.next_word.result % (c.len-last.result - 1) + 1 + c.next_word-in-loop-count.result % c.min.result) 0 at.ends c.loop-count.invariant.right_in)

pub loop-count-preserved : goal.loop-count-preserved
loop-count-preserved c =
    let same : c.get-in-loop-count.new.self ≡ c.loop-count.right = c.get-in-loop-count.ensures.kept ∙ c.get.ensures.kept in
    let from : c.get.result ≡ get_or c.loop-count.right (c.next_word.result % (c.len-last.result - 1)) 0 = c.get.ensures.value in
    let to : c.get-in-loop-count.result ≡ get_or c.loop-count.right (c.next_word.result % (c.len-last.result - 1) + 1 + c.next_word-in-loop-count.result % c.min.result) 0 = c.get-in-loop-count.ensures.value ∙ ap (λ z. get_or z (c.next_word.result % (c.len-last.result - 1) + 1 + c.next_word-in-loop-count.result % c.min.result) 0) c.get.ensures.kept in
    growing_more c.args.n c.args.seed c.loop-count.graph.vertices c.add_ear.new.graph.vertices
    (record { words = c.loop-count.words; right = c.loop-count.right; count = c.loop-count.count; edges = c.loop-count.graph.ends })
    c.loop-count.invariant c.loop-count-test.true c.in_ok-add_ear.ensures.vertices
    c.next_word.result c.next_word-in-loop-count.result c.next_word-in-loop-count-2.result (c.next_word.result % (c.len-last.result - 1)) (c.next_word.result % (c.len-last.result - 1) + 1 + c.next_word-in-loop-count.result % c.min.result) c.min-k.result
    c.next_word.new.self c.next_word-in-loop-count.new.self c.next_word-in-loop-count-2.new.self
    c.next_word.ensures c.next_word-in-loop-count.ensures c.next_word-in-loop-count-2.ensures
    (ap (λ z. c.next_word.result % (z - 1)) c.len-last.ensures.value)
    (ap (λ z. (c.next_word.result % (c.len-last.result - 1)) + 1 + c.next_word-in-loop-count.result % z) (c.min.ensures ∙ ap (λ z. min (z - 1 - (c.next_word.result % (c.len-last.result - 1))) 4) c.len-last.ensures.value))
    c.min-k.ensures
    (places c.loop-count.right c.len-last.result c.next_word.result c.next_word-in-loop-count.result c.min.result c.len-last.ensures.value c.loop-count.invariant.two c.min.ensures)
    c.replace.new.row c.add_ear.new.graph.ends
    (c.in_ok-replace.ensures ∙ ap (λ z. take ((c.next_word.result % (c.len-last.result - 1)) + 1) z ++ (range c.loop-count.count c.min-k.result ++ drop (c.next_word.result % (c.len-last.result - 1) + 1 + c.next_word-in-loop-count.result % c.min.result) z)) same)
    (c.in_ok-add_ear.ensures.edges ∙ ap (λ z. c.loop-count.graph.ends ++ ear_edges z c.loop-count.count c.min-k.result c.get-in-loop-count.result) from
    ∙ ap (λ z. c.loop-count.graph.ends ++ ear_edges (get_or c.loop-count.right (c.next_word.result % (c.len-last.result - 1)) 0) c.loop-count.count c.min-k.result z) to)

pub returns-clause-edges : goal.returns-clause-edges
returns-clause-edges c = growing_end c.args.n c.args.seed c.loop-count.graph.vertices (record { words = c.loop-count.words; right = c.loop-count.right; count = c.loop-count.count; edges = c.loop-count.graph.ends }) c.loop-count.invariant c.loop-count-test.false
