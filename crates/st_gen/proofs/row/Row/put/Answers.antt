use Rattle.std.proofs.Common.{◌≡◌, ◌∷◌, ◌++◌, length, take, drop, ap, ◌∙◌, arith}
use Rattle.std.specs.List.{concat}
use Rattle.st_gen.proofs.ChunkLemmas.{chunk_read, holds_in, row_inserted, concat-inserted}
use Rattle.st_gen.proofs.row.Row.put.Goals as goal

pub invariant_of-self-2 : goal.invariant_of-self-2
invariant_of-self-2 c =
    let v : concat c.self.inside.chunks.items ≡ c.args.self.now = c.self.view_is in
    let n : length (concat c.self.inside.chunks.items) ≡ length c.args.self.now = ap (λ z. length z) v in
    let h = holds_in c.self.inside.chunks.items c.deref.result.now c.find-spot.result.chunk c.find-spot.result.before c.args.place c.deref.ensures.value c.find-spot.ensures in
    row_inserted c.self.inside.chunks.items c.find-spot.result.chunk c.find-spot.result.before c.args.place h c.index_mut.result.now
    (chunk_read c.self.inside.chunks.items c.find-spot.result.chunk c.index_mut.result.now h.there c.index_mut.ensures.value)
    c.self.inside.len c.self.invariant.length_is (omega (arith, c.self.invariant.length_is)) (omega arith) c.args.vertex c.insert.new.self c.in_ok-insert.ensures.ok

pub returns : goal.returns
returns c =
    let v : concat c.self.inside.chunks.items ≡ c.args.self.now = c.self.view_is in
    let h = holds_in c.self.inside.chunks.items c.deref.result.now c.find-spot.result.chunk c.find-spot.result.before c.args.place c.deref.ensures.value c.find-spot.ensures in
    concat-inserted c.self.inside.chunks.items c.find-spot.result.chunk c.find-spot.result.before c.args.place h c.index_mut.result.now
    (chunk_read c.self.inside.chunks.items c.find-spot.result.chunk c.index_mut.result.now h.there c.index_mut.ensures.value) c.args.vertex c.insert.new.self c.in_ok-insert.ensures.ok
    ∙ ap (λ z. take c.args.place z ++ c.args.vertex ∷ drop c.args.place z) v
